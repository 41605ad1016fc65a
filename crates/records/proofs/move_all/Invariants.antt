use Rattle.records.proofs.Records.{Moved}
use Rattle.records.proofs.move_all.Given as goal

abbrev pub invariant-loop-i : goal.invariant-loop-i
invariant-loop-i l = Moved l.words l.initial.states l.i l.states
