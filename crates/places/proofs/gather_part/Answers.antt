use Rattle.places.proofs.Linking.{base_small, kept_both}
use Rattle.places.proofs.gather_part.Goals as goal

-- src/lib.rt:105:5

pub clear-requires : goal.clear-requires
clear-requires c = (c.requires.1, rw c.base_of.ensures (base_small c.args.occupant))

-- src/lib.rt:106:5

pub returns : goal.returns
returns c = let g = c.link_rows in let d = c.clear in (g.ensures.0, kept_both c.args.index.now d.new.index g.new.index c.base_of.ensures d.ensures.1 g.ensures.1)
