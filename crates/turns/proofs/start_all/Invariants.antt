use Prim.Native.Nat.{◌%◌}
use mathlib.Core.Path.{◌≡◌}
use Rattle.plan.specs.Boundary.{words_of}
use Rattle.modes.specs.Modes.{table_after}
use Rattle.records.proofs.Rows.{Wrote}
use Rattle.turns.proofs.Turning.{starts}
use Rattle.turns.proofs.start_all.Given as goal

abbrev pub invariant-loop-i : goal.invariant-loop-i
invariant-loop-i l = (l.i % 28 ≡ 0) × Wrote (starts l.cycle) (table_after (words_of l.words)) l.initial.states l.first l.i l.at l.states
