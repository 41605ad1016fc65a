use mathlib.Core.Path.{refl}
use Rattle.plan.specs.Questions.{in_range}
use Rattle.ranges.proofs.link_range.Goals as goal

-- src/lib.rt:44:1
pub returns : goal.returns
unfolding in_range
returns c = rw c.link_at-link.ensures refl
