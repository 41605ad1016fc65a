use mathlib.Core.Path.{◌≡◌}
use Rattle.counting.proofs.Counting.{counted_to}
use Rattle.counting.proofs.count_all.Given as goal

abbrev pub invariant-loop-place : goal.invariant-loop-place
invariant-loop-place l = l.words ≡ counted_to l.more l.piece l.initial.words l.place
