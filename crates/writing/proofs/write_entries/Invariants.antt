use Prim.Native.Nat.{◌-◌}
use Rattle.lanes.specs.Walks.{Reached}
use Rattle.writing.proofs.Storing.{Written}
use Rattle.writing.proofs.write_entries.Given as goal

abbrev pub invariant-loop-walk : goal.invariant-loop-walk
invariant-loop-walk l = Reached l.image l.lane l.walk × Written l.image l.lane l.initial.bytes l.at l.walk.until l.bytes l.count

abbrev pub decreases-loop-walk : goal.decreases-loop-walk
decreases-loop-walk l = l.end - l.walk.until
