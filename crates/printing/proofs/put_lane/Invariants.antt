use Prim.Native.Nat.{◌-◌}
use Rattle.lanes.specs.Walks.{Reached}
use Rattle.printing.proofs.Written.{Written}
use Rattle.printing.proofs.put_lane.Given as goal

abbrev pub invariant-loop-walk : goal.invariant-loop-walk
invariant-loop-walk l = Reached l.image l.lane l.walk × Written l.image l.lane l.initial.out l.at l.walk.until l.out l.place

abbrev pub decreases-loop-walk : goal.decreases-loop-walk
decreases-loop-walk l = l.end - l.walk.until
