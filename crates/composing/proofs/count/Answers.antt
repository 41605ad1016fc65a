use mathlib.Core.Path.{sym, ◌∙◌}
use native.Mathlib.Omega.{arith}
use Rattle.joins.specs.Joins.{joined_rows}
use Rattle.composing.proofs.Counting.{count_none, turn_small, turn_on, turn_no, count_done}
use Rattle.composing.proofs.count.Goals as goal

pub overflow_cast-bytes : goal.overflow_cast-bytes
overflow_cast-bytes c = omega arith

pub loop-i-init : goal.loop-i-init
loop-i-init c = let a = c.args in count_none (joined_rows a.first.now a.second.now a.shared) a.counts.now c.requires.shared_bound.1

pub table_at-table-requires : goal.table_at-table-requires
table_at-table-requires c = omega arith

pub rows_joined-n-requires : goal.rows_joined-n-requires
rows_joined-n-requires c = let p = c.requires in record { ready = (p.ready.0, λ _. p.ready.1); shared_bound = p.shared_bound.0 }

pub shape_of-shape-requires-in-loop-i : goal.shape_of-shape-requires-in-loop-i
shape_of-shape-requires-in-loop-i c = tt

pub shape_of-counts-then-shape-n : goal.shape_of-counts-then-shape-n
shape_of-counts-then-shape-n c = c.loop-i.invariant.size ∙ sym c.requires.shared_bound.1

pub returns-then-shape-n : goal.returns-then-shape-n
returns-then-shape-n c = let a = c.args in let l = c.loop-i in turn_no (joined_rows a.first.now a.second.now a.shared) c.table_at-table.result l.i c.rows_joined-n.result c.shape_of-shape.result c.table_at-table.ensures c.shape_of-shape.ensures l.counts (omega arith) c.rows_joined-n.ensures.0 c.if-shape-n.true

pub overflow_cast-counts : goal.overflow_cast-counts
overflow_cast-counts c = omega arith

pub offset_bounds-counts-i : goal.offset_bounds-counts-i
offset_bounds-counts-i c = omega arith

pub bounds-counts-i : goal.bounds-counts-i
bounds-counts-i c = omega (arith, c.loop-i.invariant.size)

pub overflow_mul-bytes : goal.overflow_mul-bytes
overflow_mul-bytes c = let a = c.args in let l = c.loop-i in omega (arith, turn_small (joined_rows a.first.now a.second.now a.shared) c.table_at-table.result l.i c.rows_joined-n.result c.shape_of-shape.result c.table_at-table.ensures c.shape_of-shape.ensures (omega (arith, c.if-shape-n.false)))

pub overflow_mul-bytes-in-loop-i : goal.overflow_mul-bytes-in-loop-i
overflow_mul-bytes-in-loop-i c = let a = c.args in let l = c.loop-i in omega (arith, turn_small (joined_rows a.first.now a.second.now a.shared) c.table_at-table.result l.i c.rows_joined-n.result c.shape_of-shape.result c.table_at-table.ensures c.shape_of-shape.ensures (omega (arith, c.if-shape-n.false)))

pub overflow_add-bytes : goal.overflow_add-bytes
overflow_add-bytes c = let a = c.args in let l = c.loop-i in omega (arith, l.auto, l.invariant.low, turn_small (joined_rows a.first.now a.second.now a.shared) c.table_at-table.result l.i c.rows_joined-n.result c.shape_of-shape.result c.table_at-table.ensures c.shape_of-shape.ensures (omega (arith, c.if-shape-n.false)))

pub loop-i-preserved : goal.loop-i-preserved
loop-i-preserved c = let a = c.args in let l = c.loop-i in turn_on (joined_rows a.first.now a.second.now a.shared) c.table_at-table.result l.i c.rows_joined-n.result c.shape_of-shape.result c.table_at-table.ensures c.shape_of-shape.ensures l.counts l.bytes l.invariant (omega arith) c.rows_joined-n.ensures.0 (omega (arith, c.if-shape-n.false)) c.rows_joined-n.ensures.1

pub shape_of-counts : goal.shape_of-counts
shape_of-counts c = c.loop-i.invariant.size ∙ sym c.requires.shared_bound.1

pub returns : goal.returns
returns c = let a = c.args in let l = c.loop-i in count_done (joined_rows a.first.now a.second.now a.shared) l.counts l.bytes l.i l.invariant (omega arith)
