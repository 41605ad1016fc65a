use Prim.Native.Nat.{◌+◌, ◌≤◌, ◌-◌}
use Rattle.plan.specs.Questions.{hold}
use Rattle.buffers.proofs.Merging.{ApartTo}
use Rattle.buffers.proofs.holds_apart.Given as goal

abbrev pub invariant-loop-j : goal.invariant-loop-j
invariant-loop-j l = (l.j ≤ l.lower_jobs) × (l.k ≤ l.jobs) × ApartTo (hold l.image l.lower) (hold l.image l.row) l.lower_jobs l.jobs l.j l.k

abbrev pub decreases-loop-j : goal.decreases-loop-j
decreases-loop-j l = (l.lower_jobs - l.j) + (l.jobs - l.k)
