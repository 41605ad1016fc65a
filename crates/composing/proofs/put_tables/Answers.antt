use mathlib.Core.Path.{◌≡◌, sym, ap, ◌∙◌}
use native.Mathlib.Omega.{arith}
use Rattle.joins.specs.Joins.{joined_rows}
use Rattle.composing.proofs.Writing.{wrote_none, wrote_as, wrote_size, words_to, words_first, words_all, table_room, tables_turn}
use Rattle.composing.proofs.put_tables.Goals as goal

pub loop-i-init : goal.loop-i-init
loop-i-init c = let a = c.args in wrote_as a.joined.now 0 (wrote_none a.joined.now 0) (sym (words_first (joined_rows a.first.now a.second.now a.shared)))

pub table_at-table-requires : goal.table_at-table-requires
table_at-table-requires c = omega arith

pub put_table-place-requires : goal.put_table-place-requires
put_table-place-requires c = let a = c.args in let p = c.requires in let l = c.loop-i in record { ready = (p.ready.0, λ _. p.ready.1); shared_bound = (p.shared_bound.0, omega (arith, p.shared_bound.1, l.invariant.reached, wrote_size a.joined.now 0 l.invariant, table_room (joined_rows a.first.now a.second.now a.shared) c.table_at-table.result l.i c.table_at-table.ensures (omega arith))) }

pub loop-i-preserved : goal.loop-i-preserved
loop-i-preserved c = let a = c.args in let l = c.loop-i in tables_turn (joined_rows a.first.now a.second.now a.shared) a.joined.now c.table_at-table.result l.i c.table_at-table.ensures (omega arith) l.invariant c.put_table-place.ensures

pub shape_of-joined : goal.shape_of-joined
shape_of-joined c = wrote_size c.args.joined.now 0 c.loop-i.invariant

pub returns : goal.returns
returns c = let a = c.args in let l = c.loop-i in let e : l.i ≡ 10 = omega arith in wrote_as a.joined.now 0 l.invariant (ap (words_to (joined_rows a.first.now a.second.now a.shared)) e ∙ words_all (joined_rows a.first.now a.second.now a.shared))
