use mathlib.Core.Path.{◌≡◌}
use Rattle.plan.specs.Boundary.{step_all_number}
use Rattle.records.proofs.refused_number.Given as goal

abbrev pub invariant-loop-bytes : goal.invariant-loop-bytes
invariant-loop-bytes l = (l.bytes-iterator.size ≡ 28) × (step_all_number l.words l.states ≡ step_all_number l.words l.bytes-iterator.rest.now)
