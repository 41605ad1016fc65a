use mathlib.Core.Path.{refl}
use Rattle.plan.specs.Questions.{in_range}
use Rattle.ranges.proofs.stream_range.Goals as goal

-- src/lib.rt:58:1
pub returns : goal.returns
unfolding in_range
returns c = rw c.stream_at-stream.ensures refl
