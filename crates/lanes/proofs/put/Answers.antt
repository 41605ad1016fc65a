use Prim.Native.Nat.{suc, ◌+◌}
use mathlib.Core.Path.{◌≡◌, refl}
use mathlib.Core.List.{◌∷◌, []}
use native.Mathlib.Omega.{arith}
use lib.ListN.{length-set}
use Rattle.lanes.proofs.Writing.{put_sets}
use Rattle.lanes.proofs.put.Goals as goal

pub bounds-words-at-2 : goal.bounds-words-at-2
bounds-words-at-2 c = simp length-set (omega arith)

pub bounds-words-at-3 : goal.bounds-words-at-3
bounds-words-at-3 c = simp length-set (omega arith)

pub returns : goal.returns
returns c = let a = c.args in let e : a.at + 1 ≡ suc a.at = omega arith in let d : a.at + 2 ≡ suc (suc a.at) = omega arith in rw (put_sets a.words.now (a.first ∷ a.kind ∷ a.row ∷ []) a.at (omega (arith, c.requires)), e, d) refl
