use Prim.Native.Nat.{ℕ, ◌*◌}
use mathlib.Core.Path.{◌≡◌, refl, ap, ◌∙◌}
use mathlib.Core.List.{flat_map}
use native.Mathlib.Omega.{arith}
use lib.ListN.{length, get_or, take}
use lib.Seq.{length-sets}
use Rattle.plan.specs.Boundary.{bytes_of}
use Rattle.writing.specs.Stored.{stored}
use Rattle.gating.proofs.Copying.{store_turn}
use Rattle.gating.proofs.copy_bytes.Goals as goal

pub loop-i-init : goal.loop-i-init
unfolding stored flat_map
loop-i-init c = (refl, refl)

pub bounds-list-i : goal.bounds-list-i
bounds-list-i c = omega (arith, c.requires.0)

pub put_word-requires : goal.put_word-requires
put_word-requires c = omega (arith, c.requires.1, c.loop-i.invariant.0)

pub loop-i-preserved : goal.loop-i-preserved
loop-i-preserved c = let a = c.args in let p = c.requires in let l = c.loop-i in let g = c.put_word.ensures in (ap length g ∙ length-sets l.bytes (4 * l.i) (bytes_of 4 (get_or a.list.now l.i 0)) ∙ l.invariant.0, g ∙ store_turn a.list.now l.i (omega arith) a.bytes.now l.bytes l.invariant.1)

pub shape_of-bytes : goal.shape_of-bytes
shape_of-bytes c = c.loop-i.invariant.0

pub returns : goal.returns
returns c = let a = c.args in let l = c.loop-i in let e : l.i ≡ a.many = omega (arith, l.auto, c.loop-i-test.false) in l.invariant.1 ∙ ap (λ (n : ℕ). stored a.bytes.now 0 (take n a.list.now)) e
