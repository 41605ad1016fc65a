use mathlib.Core.Path.{◌≡◌}
use Rattle.std.specs.Prelude.{None}
use Rattle.plan.specs.Search.{first_no}
use Rattle.plan.specs.Questions.{frame_end, stay_clear}
use Rattle.tallies.specs.Tallies.{latest, Kept}
use Rattle.stays.specs.Queues.{most_queues, queue_place}
use Rattle.stays.proofs.clash_after.Given as goal

abbrev pub invariant-loop-frame : goal.invariant-loop-frame
invariant-loop-frame l = Kept l.ends 0 most_queues (latest (queue_place l.image) (frame_end l.image) l.frame) × (first_no l.frame (stay_clear l.image) ≡ None)
