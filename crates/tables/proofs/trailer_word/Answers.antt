use native.Mathlib.Omega.{arith}
use Rattle.plan.specs.Image.{image}
use Rattle.tables.proofs.trailer_word.Goals as goal

-- src/lib.rt:234:17
pub overflow_sub-image : goal.overflow_sub-image
unfolding image
overflow_sub-image c = omega arith

-- src/lib.rt:234:5
pub word-requires : goal.word-requires
unfolding image
word-requires c = omega arith

-- src/lib.rt:230:1
pub returns : goal.returns
unfolding image
returns c = c.word.ensures
