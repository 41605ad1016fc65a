use Prim.Native.Nat.{◌+◌, ◌-◌, ◌*◌}
use mathlib.Core.Path.{◌≡◌}
use mathlib.Core.Bool.{false}
use Rattle.plan.specs.Image.{cycle_ticks}
use Rattle.plan.specs.Search.{any}
use Rattle.plan.specs.Questions.{first_start}
use Rattle.paths.specs.Walks.{sent_on, Marked}
use Rattle.paths.proofs.+from_message_from_task.Given as goal

abbrev pub decreases-from_message : goal.decreases-from_message
decreases-from_message l = 2 * (cycle_ticks l.image.now - first_start l.image.now l.task 0)

abbrev pub decreases-from_task : goal.decreases-from_task
decreases-from_task l = 2 * (cycle_ticks l.image.now - first_start l.image.now l.task 0) + 1

abbrev pub invariant-from_task-loop-message : goal.invariant-from_task-loop-message
invariant-from_task-loop-message l = Marked l.image l.goal l.marks × (any l.message (sent_on l.image l.task l.goal) ≡ false)
