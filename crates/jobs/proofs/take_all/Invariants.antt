use Rattle.jobs.specs.Times.{Gathered}
use Rattle.jobs.proofs.take_all.Given as goal

abbrev pub invariant-loop-piece : goal.invariant-loop-piece
invariant-loop-piece l = Gathered l.image l.times l.piece
