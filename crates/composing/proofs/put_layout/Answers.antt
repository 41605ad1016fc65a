use Prim.Native.Nat.{◌*◌}
use mathlib.Core.Path.{refl, sym, ap, ◌∙◌}
use native.Mathlib.Omega.{arith}
use lib.ListN.{length, get_or}
use Rattle.plan.specs.declared.Shape.{Shape}
use Rattle.tables.specs.Tables.{table_count, table_at}
use Rattle.tables.proofs.Shapes.{row_words}
use Rattle.tallies.proofs.Tallying.{kept_at}
use Rattle.composing.proofs.Writing.{stored_size, layout_end, wrote_none, wrote_as, end_first, places_first, layout_turn, layout_done}
use Rattle.composing.proofs.put_layout.Goals as goal

pub loop-i-init : goal.loop-i-init
loop-i-init c = let a = c.args in (omega arith, (omega arith, (refl, λ rs h. (sym (end_first rs), wrote_as a.joined.now a.at (wrote_none a.joined.now a.at) (sym (places_first rs))))))

pub overflow_cast-n : goal.overflow_cast-n
overflow_cast-n c = omega arith

pub offset_bounds-counts-i : goal.offset_bounds-counts-i
offset_bounds-counts-i c = omega arith

pub bounds-counts-i : goal.bounds-counts-i
bounds-counts-i c = omega (arith, c.requires.table_count_in_bounds.0)

pub put_word-requires : goal.put_word-requires
put_word-requires c = let l = c.loop-i in omega (arith, l.invariant.0, l.invariant.1.1.0, c.requires.at_in_bounds)

pub overflow_add-place : goal.overflow_add-place
overflow_add-place c = let l = c.loop-i in omega (arith, l.invariant.0, c.requires.at_in_bounds)

pub put_word-requires-in-loop-i : goal.put_word-requires-in-loop-i
put_word-requires-in-loop-i c = let l = c.loop-i in omega (arith, l.invariant.0, l.invariant.1.1.0, c.requires.at_in_bounds, stored_size l.joined _ l.place l.from c.put_word.ensures)

pub table_at-requires : goal.table_at-requires
table_at-requires c = omega arith

pub shape_of-requires-in-loop-i : goal.shape_of-requires-in-loop-i
shape_of-requires-in-loop-i c = tt

pub overflow_mul-from : goal.overflow_mul-from
overflow_mul-from c = let n = get_or c.args.counts.now c.loop-i.i 0 in omega (arith, ap (λ (x : Shape). x.width * n) c.shape_of.ensures, row_words c.table_at.result n, c.requires.table_count_in_bounds.1 c.loop-i.i (omega arith), c.loop-i.invariant)

pub overflow_mul-from-in-loop-i : goal.overflow_mul-from-in-loop-i
overflow_mul-from-in-loop-i c = let n = get_or c.args.counts.now c.loop-i.i 0 in omega (arith, ap (λ (x : Shape). x.width * n) c.shape_of.ensures, row_words c.table_at.result n, c.requires.table_count_in_bounds.1 c.loop-i.i (omega arith), c.loop-i.invariant)

pub overflow_add-from : goal.overflow_add-from
overflow_add-from c = let n = get_or c.args.counts.now c.loop-i.i 0 in omega (arith, ap (λ (x : Shape). x.width * n) c.shape_of.ensures, row_words c.table_at.result n, c.requires.table_count_in_bounds.1 c.loop-i.i (omega arith), c.loop-i.invariant)

pub overflow_add-place-in-loop-i : goal.overflow_add-place-in-loop-i
overflow_add-place-in-loop-i c = let l = c.loop-i in omega (arith, l.invariant.0, c.requires.at_in_bounds)

pub loop-i-preserved : goal.loop-i-preserved
loop-i-preserved c = let a = c.args in let l = c.loop-i in let n = get_or a.counts.now l.i 0 in (
  omega (arith, l.invariant.0),
  (
    omega (arith, l.invariant.1.0, ap (λ (x : Shape). x.width * n) c.shape_of.ensures, row_words c.table_at.result n, c.requires.table_count_in_bounds.1 l.i (omega arith)),
    (
      stored_size _ _ _ _ c.put_word-in-loop-i.ensures ∙ stored_size _ _ _ _ c.put_word.ensures ∙ l.invariant.1.1.0,
      λ rs h. let q = l.invariant.1.1.1 rs h in let k = kept_at a.counts.now table_count (λ i. length (rs (table_at i))) h l.i (omega arith) in (
        layout_end rs l.i l.from n c.table_at.result c.shape_of.result (omega arith) c.table_at.ensures c.shape_of.ensures q.0 k,
        layout_turn rs a.joined.now a.at l.i l.from n (omega arith) q.0 k q.1 c.put_word.ensures c.put_word-in-loop-i.ensures,
      ),
    ),
  ),
)

pub put_word-requires-2 : goal.put_word-requires-2
put_word-requires-2 c = let l = c.loop-i in omega (arith, l.invariant.0, l.invariant.1.1.0, l.auto, c.requires.at_in_bounds)

pub overflow_add-result : goal.overflow_add-result
overflow_add-result c = let l = c.loop-i in omega (arith, l.invariant.0, l.auto, c.requires.at_in_bounds)

pub shape_of-joined : goal.shape_of-joined
shape_of-joined c = stored_size _ _ _ _ c.put_word-2.ensures ∙ c.loop-i.invariant.1.1.0

pub returns : goal.returns
returns c = let a = c.args in let l = c.loop-i in λ rs h. let q = l.invariant.1.1.1 rs h in layout_done rs a.joined.now a.at l.i l.from (omega (arith, l.auto)) q.0 q.1 c.put_word-2.ensures
