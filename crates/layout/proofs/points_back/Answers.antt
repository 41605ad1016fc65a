use mathlib.Core.Path.{refl}
use native.Mathlib.Omega.{arith}
use Rattle.plan.specs.Image.{image}
use Rattle.layout.proofs.points_back.Goals as goal

pub overflow_sub-image : goal.overflow_sub-image
unfolding image
overflow_sub-image c = omega arith

pub word-requires : goal.word-requires
unfolding image
word-requires c = omega arith

pub overflow_sub-result : goal.overflow_sub-result
unfolding image
overflow_sub-result c = omega arith

pub returns : goal.returns
unfolding image
returns c = rw c.word.ensures refl
