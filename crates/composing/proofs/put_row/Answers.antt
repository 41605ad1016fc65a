use Prim.Native.Nat.{ℕ}
use mathlib.Core.Path.{ap, ◌∙◌}
use native.Mathlib.Omega.{arith}
use lib.Seq.{sets}
use Rattle.plan.specs.declared.Shape.{Shape}
use Rattle.plan.specs.Boundary.{bytes_of}
use Rattle.pairs.specs.Pairs.{both_row}
use Rattle.pairs.proofs.Rows.{both_wide}
use Rattle.composing.proofs.Writing.{wrote_none, wrote_size, wrote_turn, wrote_row}
use Rattle.composing.proofs.put_row.Goals as goal

pub shape_of-width-requires : goal.shape_of-width-requires
shape_of-width-requires c = tt

pub loop-j-init : goal.loop-j-init
loop-j-init c = let a = c.args in (omega arith, wrote_none a.joined.now a.at)

pub word_of-requires : goal.word_of-requires
word_of-requires c = let p = c.requires in let g = ap (λ (x : Shape). x.width) c.shape_of-width.ensures in record { ready = p.ready; row_bound = (p.row_bound.0, omega arith) }

pub put_word-requires : goal.put_word-requires
put_word-requires c = let a = c.args in let p = c.requires in let g = ap (λ (x : Shape). x.width) c.shape_of-width.ensures in let l = c.loop-j in omega (arith, l.invariant.0, p.row_bound.1, wrote_size a.joined.now a.at l.invariant.1)

pub overflow_add-place : goal.overflow_add-place
overflow_add-place c = let a = c.args in let p = c.requires in let g = ap (λ (x : Shape). x.width) c.shape_of-width.ensures in let l = c.loop-j in omega (arith, l.invariant.0, p.row_bound.1)

pub loop-j-preserved : goal.loop-j-preserved
loop-j-preserved c = let a = c.args in let p = c.requires in let g = ap (λ (x : Shape). x.width) c.shape_of-width.ensures in let l = c.loop-j in let x = both_row a.first.now a.second.now a.shared a.table a.row in let m = both_wide a.first.now a.second.now a.shared a.table a.row p.row_bound.0 in
    (omega (arith, l.invariant.0), wrote_turn a.joined.now a.at x l.j (omega arith) l.invariant.1 (c.put_word.ensures ∙ ap (λ (w : ℕ). sets l.joined l.place (bytes_of 4 w)) c.word_of.ensures))

pub shape_of-joined : goal.shape_of-joined
shape_of-joined c = wrote_size c.args.joined.now c.args.at c.loop-j.invariant.1

pub returns : goal.returns
returns c = let a = c.args in let p = c.requires in let g = ap (λ (x : Shape). x.width) c.shape_of-width.ensures in let l = c.loop-j in wrote_row a.joined.now a.at (both_row a.first.now a.second.now a.shared a.table a.row) l.j (omega (arith, both_wide a.first.now a.second.now a.shared a.table a.row p.row_bound.0)) l.invariant.1
