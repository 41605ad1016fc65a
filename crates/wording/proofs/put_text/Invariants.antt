use Prim.Native.Nat.{◌+◌}
use lib.ListN.{take}
use Rattle.lines.specs.Putting.{Put}
use Rattle.wording.proofs.put_text.Given as goal

abbrev pub invariant-loop-i : goal.invariant-loop-i
invariant-loop-i l = Put l.initial.out l.at (take l.i l.text) l.i (l.at + l.i) l.out
