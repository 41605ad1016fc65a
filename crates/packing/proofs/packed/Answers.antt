use mathlib.Core.Path.{refl}
use Rattle.plan.specs.Boundary.{answer_number}
use Rattle.packing.proofs.packed.Goals as goal

pub returns : goal.returns
unfolding answer_number
returns c = refl
