use Rattle.plan.specs.Boundary.{words_of}
use Rattle.turns.proofs.Turning.{Turned}
use Rattle.turns.proofs.move_all_there.Given as goal

abbrev pub invariant-loop-i : goal.invariant-loop-i
invariant-loop-i l = Turned (words_of l.words) l.initial.states l.first l.i l.at l.states
