use Rattle.joins.specs.Joins.{joined_rows}
use Rattle.composing.proofs.Counting.{Counting}
use Rattle.composing.proofs.count.Given as goal

abbrev pub invariant-loop-i : goal.invariant-loop-i
invariant-loop-i l = Counting (joined_rows l.first l.second l.shared) l.counts l.bytes l.i
