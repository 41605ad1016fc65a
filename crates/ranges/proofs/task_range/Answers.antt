use Rattle.plan.specs.declared.Task.{Task}
use mathlib.Core.Path.{refl, sym, ap, ◌∙◌}
use Rattle.plan.specs.Questions.{in_range}
use Rattle.ranges.proofs.task_range.Goals as goal

-- src/lib.rt:33:9
pub returns-then-period-eq0 : goal.returns-then-period-eq0
unfolding in_range
returns-then-period-eq0 c = let e = sym (ap (λ (x : Task). x.period) c.task_at-task.ensures) ∙ c.if-period-eq0.true in rw e refl

-- src/lib.rt:26:1
pub returns : goal.returns
unfolding in_range
returns c = rw (c.task_at-task.ensures, c.cycle_ticks.ensures) refl
