use mathlib.Core.Path.{◌≡◌}
use Rattle.jobs.specs.Times.{task_place}
use Rattle.jobs.proofs.Gathering.{PlacedTo}
use Rattle.jobs.proofs.place_tasks.Given as goal

abbrev pub invariant-loop-task : goal.invariant-loop-task
invariant-loop-task l = (l.place ≡ task_place l.image l.task) × PlacedTo l.image l.times l.task
