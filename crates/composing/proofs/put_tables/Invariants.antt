use Rattle.joins.specs.Joins.{joined_rows}
use Rattle.composing.specs.Composing.{Wrote}
use Rattle.composing.proofs.Writing.{words_to}
use Rattle.composing.proofs.put_tables.Given as goal

abbrev pub invariant-loop-i : goal.invariant-loop-i
invariant-loop-i l = Wrote l.initial.joined 0 (words_to (joined_rows l.first l.second l.shared) l.i) l.place l.joined
