use Prim.Native.Nat.{ℕ, ◌<◌}
use mathlib.Core.Path.{refl, sym, ap, subst, ◌∙◌}
use native.Mathlib.Nat.{not-suc-le-zero}
use native.Mathlib.Numerals.{add-one}
use native.Mathlib.Omega.{arith}
use lib.ListN.{get_or}
use Rattle.plan.specs.declared.Piece.{Piece}
use Rattle.plan.specs.declared.Table.TheVariants.{Pieces}
use Rattle.plan.specs.Image.{rows, piece}
use Rattle.plan.specs.Search.{first_no}
use Rattle.plan.specs.Questions.{piece_inside}
use Rattle.plan.proofs.Searching.{turn_yes, stops}
use Rattle.inside.specs.Holders.{inside_last, vcpu_of, Begun}
use Rattle.inside.proofs.Holding.{none_held, holder_most, piece_inside_words, holder_read, asked_last, led_on}
use Rattle.inside.proofs.outside_after.Goals as goal

pub loop-piece-init : goal.loop-piece-init
unfolding first_no
loop-piece-init c = let a = c.args in let p = c.requires in (omega arith, none_held a.image.now p.sound.0 a.last.now p.kept, (λ w z. absurd (not-suc-le-zero z)), refl)

pub bounds-last-vcpu : goal.bounds-last-vcpu
bounds-last-vcpu c = let a = c.args in let s = a.image.now in let p = c.requires in let l = c.loop-piece in let i : l.piece < rows s Pieces = omega (arith, c.rows_of-pieces.ensures, c.loop-piece-test.true) in let t = c.take_windows-window in let e = c.piece_at.ensures in let b : Begun s (piece s l.piece).start t.result = subst (λ (x : Piece). Begun s x.start t.result) e t.ensures.0 in let v = c.vcpu_of-vcpu.ensures in rw v (piece_inside_words s p.sound.0 t.new.last t.result l.piece i t.ensures.1)

pub inside_last-requires-clause-last_bound : goal.inside_last-requires-clause-last_bound
inside_last-requires-clause-last_bound c = let a = c.args in let s = a.image.now in let p = c.requires in let l = c.loop-piece in let i : l.piece < rows s Pieces = omega (arith, c.rows_of-pieces.ensures) in let t = c.take_windows-window in let e = c.piece_at.ensures in let b : Begun s (piece s l.piece).start t.result = subst (λ (x : Piece). Begun s x.start t.result) e t.ensures.0 in let v = c.vcpu_of-vcpu.ensures in let r = holder_read s p.sound.0 t.new.last t.result l.piece i t.ensures.1 in let m = b.rows_most in rw (v, r) (omega (arith, holder_most s p.sound.0 t.result (vcpu_of s l.piece)))

pub returns-then-not-inside_last : goal.returns-then-not-inside_last
returns-then-not-inside_last c = let a = c.args in let s = a.image.now in let p = c.requires in let l = c.loop-piece in let i : l.piece < rows s Pieces = omega (arith, c.rows_of-pieces.ensures, c.loop-piece-test.true) in let t = c.take_windows-window in let e = c.piece_at.ensures in let b : Begun s (piece s l.piece).start t.result = subst (λ (x : Piece). Begun s x.start t.result) e t.ensures.0 in let v = c.vcpu_of-vcpu.ensures in sym (stops (piece_inside s) (rows s Pieces) l.piece l.invariant.3 i (sym (c.inside_last.ensures ∙ ap (inside_last s l.piece) (ap (λ (x : ℕ). get_or t.new.last x 0) v ∙ holder_read s p.sound.0 t.new.last t.result l.piece i t.ensures.1) ∙ asked_last s p.sound.0 p.sound.1.0 l.piece i t.result b) ∙ c.if-not-inside_last.true))

pub loop-piece-preserved : goal.loop-piece-preserved
loop-piece-preserved c = let a = c.args in let s = a.image.now in let p = c.requires in let l = c.loop-piece in let i : l.piece < rows s Pieces = omega (arith, c.rows_of-pieces.ensures, c.loop-piece-test.true) in let t = c.take_windows-window in let e = c.piece_at.ensures in let b : Begun s (piece s l.piece).start t.result = subst (λ (x : Piece). Begun s x.start t.result) e t.ensures.0 in let v = c.vcpu_of-vcpu.ensures in (b.rows_most, t.ensures.1, led_on s p.sound.0 t.result l.piece b.begun, rw add-one (turn_yes (piece_inside s) l.piece l.invariant.3 (sym (c.inside_last.ensures ∙ ap (inside_last s l.piece) (ap (λ (x : ℕ). get_or t.new.last x 0) v ∙ holder_read s p.sound.0 t.new.last t.result l.piece i t.ensures.1) ∙ asked_last s p.sound.0 p.sound.1.0 l.piece i t.result b) ∙ c.if-not-inside_last.false)))
