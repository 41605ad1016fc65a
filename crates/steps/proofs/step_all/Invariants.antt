-- The first loop: no record before the place is refused. The second: the records before it are moved.
use Rattle.std.proofs.Common.{◌≡◌, drop}
use Rattle.plan.specs.Dispatch.{refusal}
use Rattle.steps.proofs.Records.{moved_to}
use Rattle.steps.proofs.step_all.Given as goal

abbrev pub invariant-loop-lane : goal.invariant-loop-lane
invariant-loop-lane l = refusal l.words l.fn.lanes ≡ refusal l.words (drop l.lane-index l.fn.lanes)

abbrev pub invariant-loop-lane-2 : goal.invariant-loop-lane-2
invariant-loop-lane-2 l = (l.lanes ≡ moved_to l.words l.lane-index l.fn.lanes) × (refusal l.words l.fn.lanes ≡ 0)
