use native.Mathlib.Omega.{arith}
use Rattle.plan.specs.Image.{image}
use Rattle.tables.proofs.precision_ticks.Goals as goal

-- src/lib.rt:250:5
pub trailer_word-requires : goal.trailer_word-requires
unfolding image
trailer_word-requires c = (omega arith, c.requires)

-- src/lib.rt:246:1
pub returns : goal.returns
unfolding image
returns c = c.trailer_word.ensures
