use Rattle.cursors.specs.Taken.{Cursor}
use Rattle.plan.specs.Image.{rows}
use Prim.Native.Nat.{◌-◌}
use Rattle.cursors.proofs.move_on.Given as goal

abbrev pub invariant-loop-at : goal.invariant-loop-at
invariant-loop-at l = Cursor l.image l.occupant l.place l.tick l.at

abbrev pub decreases-loop-at : goal.decreases-loop-at
decreases-loop-at l = l.rows - l.at
