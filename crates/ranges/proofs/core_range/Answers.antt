use mathlib.Core.Path.{refl}
use Rattle.plan.specs.Questions.{in_range}
use Rattle.ranges.proofs.core_range.Goals as goal

-- src/lib.rt:17:1
pub returns : goal.returns
unfolding in_range
returns c = rw c.core_at-core.ensures refl
