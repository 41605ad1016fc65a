use Prim.Native.Nat.{◌-◌}
use mathlib.Core.Path.{◌≡◌}
use Rattle.plan.specs.Dispatch.{begins}
use Rattle.lanes.specs.Walks.{Reached}
use Rattle.lanes.proofs.count_entries.Given as goal

abbrev pub invariant-loop-walk : goal.invariant-loop-walk
invariant-loop-walk l = Reached l.image l.lane l.walk × (l.count ≡ Rattle.plan.specs.Search.count l.walk.until (begins l.image l.lane))

abbrev pub decreases-loop-walk : goal.decreases-loop-walk
decreases-loop-walk l = l.ticks - l.walk.until
