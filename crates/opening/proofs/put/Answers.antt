use Prim.Native.Nat.{suc, ◌+◌}
use mathlib.Core.Path.{◌≡◌, refl}
use native.Mathlib.Omega.{arith}
use lib.ListN.{length-set}
use Rattle.opening.proofs.put.Goals as goal

-- src/lib.rt:40:5
pub bounds-list-at-2 : goal.bounds-list-at-2
bounds-list-at-2 c = simp length-set (omega (arith, c.requires))

-- src/lib.rt:35:1
pub returns : goal.returns
returns c = let a = c.args in let e : a.at + 1 ≡ suc a.at = omega arith in rw e refl
