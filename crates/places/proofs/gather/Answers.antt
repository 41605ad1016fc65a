use Rattle.places.proofs.Linking.{indexed}
use Rattle.places.proofs.gather.Goals as goal

-- src/lib.rt:110:1

pub returns : goal.returns
returns c = let p = c.gather_part in let w = c.gather_part-2 in let f = c.gather_part-3 in indexed c.args.image.now c.requires.0 p.new.index w.new.index f.new.index p.ensures.0 w.ensures.0 w.ensures.1 f.ensures.0 f.ensures.1
