use Prim.Native.Nat.{◌+◌, ◌*◌}
use mathlib.Core.Path.{◌≡◌}
use lib.ListN.{take}
use Rattle.pairs.specs.Pairs.{both_row}
use Rattle.composing.specs.Composing.{Wrote}
use Rattle.composing.proofs.put_row.Given as goal

abbrev pub invariant-loop-j : goal.invariant-loop-j
invariant-loop-j l = (l.place ≡ l.at + 4 * l.j) × Wrote l.initial.joined l.at (take l.j (both_row l.first l.second l.shared l.table l.row)) l.place l.joined
