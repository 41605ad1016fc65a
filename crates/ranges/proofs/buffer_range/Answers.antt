use mathlib.Core.Path.{refl}
use Rattle.plan.specs.Questions.{in_range}
use Rattle.ranges.proofs.buffer_range.Goals as goal

-- src/lib.rt:73:1
pub returns : goal.returns
unfolding in_range
returns c = rw c.buffer_at-buffer.ensures refl
