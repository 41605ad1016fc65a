use Rattle.totals.specs.Gathers.{CoreSums}
use Rattle.totals.proofs.sum_cores.Given as goal

abbrev pub invariant-loop-place : goal.invariant-loop-place
invariant-loop-place l = CoreSums l.words l.sums l.place
