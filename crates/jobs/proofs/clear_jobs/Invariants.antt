use Rattle.jobs.specs.Times.{Cleared}
use Rattle.jobs.proofs.clear_jobs.Given as goal

abbrev pub invariant-loop-place : goal.invariant-loop-place
invariant-loop-place l = Cleared l.cycle l.times l.place
