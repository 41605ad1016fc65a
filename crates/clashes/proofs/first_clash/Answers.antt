use Rattle.tallies.proofs.Tallying.{kept_fresh}
use Rattle.places.specs.Index.{most_places}
use Rattle.clashes.proofs.first_clash.Goals as goal

-- src/lib.rt:43:5
pub clash_after-requires : goal.clash_after-requires
clash_after-requires c = let p = c.requires in (p.0, (p.1, kept_fresh most_places 0))
