use Rattle.totals.proofs.Passing.{totals_same}
use Rattle.totals.proofs.totals_true.Goals as goal

pub returns : goal.returns
returns c = let w = c.args.words.now in let p = c.requires in rw (c.places_seen-places.ensures, c.ranks_rise-ranks.ensures, c.cores_seen-cores.ensures) (totals_same w p.headed.0 p.headed.1)
