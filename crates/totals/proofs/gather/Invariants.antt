use Rattle.totals.specs.Gathers.{Gathered}
use Rattle.totals.proofs.gather.Given as goal

abbrev pub invariant-loop-place : goal.invariant-loop-place
invariant-loop-place l = Gathered l.words l.gathered l.place
