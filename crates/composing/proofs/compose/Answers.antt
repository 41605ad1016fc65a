use native.Mathlib.Omega.{arith}
use Rattle.joins.specs.Joins.{joined_rows}
use Rattle.pairs.proofs.Rows.{inside}
use Rattle.composing.proofs.Counting.{counts_small}
use Rattle.composing.proofs.Writing.{wrote_size, stored_size, joined_room, joined_wrote}
use Rattle.composing.proofs.compose.Goals as goal

pub put_tables-at-requires : goal.put_tables-at-requires
put_tables-at-requires c = let a = c.args in let p = c.requires in record { ready = p.ready; shared_bound = (p.shared_bound.0, omega (arith, p.tables_value.1.0, joined_room a.first.now a.second.now a.shared)) }

pub cycle_ticks-requires : goal.cycle_ticks-requires
cycle_ticks-requires c = (inside _ c.requires.ready.0.first).trailer

pub put_word-requires : goal.put_word-requires
put_word-requires c = let a = c.args in let p = c.requires in omega (arith, p.tables_value.1.0, joined_room a.first.now a.second.now a.shared, c.put_tables-at.ensures.reached, wrote_size a.joined.now 0 c.put_tables-at.ensures)

pub overflow_add-at : goal.overflow_add-at
overflow_add-at c = let a = c.args in let p = c.requires in omega (arith, p.tables_value.1.0, joined_room a.first.now a.second.now a.shared, c.put_tables-at.ensures.reached)

pub precision_ticks-requires : goal.precision_ticks-requires
precision_ticks-requires c = (inside _ c.requires.ready.0.first).trailer

pub put_word-requires-2 : goal.put_word-requires-2
put_word-requires-2 c = let a = c.args in let p = c.requires in omega (arith, p.tables_value.1.0, joined_room a.first.now a.second.now a.shared, c.put_tables-at.ensures.reached, wrote_size a.joined.now 0 c.put_tables-at.ensures, stored_size _ _ _ _ c.put_word.ensures)

pub overflow_add-at-2 : goal.overflow_add-at-2
overflow_add-at-2 c = let a = c.args in let p = c.requires in omega (arith, p.tables_value.1.1, joined_room a.first.now a.second.now a.shared, c.put_tables-at.ensures.reached, wrote_size a.joined.now 0 c.put_tables-at.ensures, stored_size _ _ _ _ c.put_word.ensures, stored_size _ _ _ _ c.put_word-2.ensures)

pub put_layout-requires : goal.put_layout-requires
put_layout-requires c = let a = c.args in let p = c.requires in record { table_count_in_bounds = (omega (arith, p.shared_bound.1.room), counts_small (joined_rows a.first.now a.second.now a.shared) a.counts.now p.shared_bound.1 p.tables_value.0); at_in_bounds = omega (arith, p.tables_value.1.0, joined_room a.first.now a.second.now a.shared, c.put_tables-at.ensures.reached, wrote_size a.joined.now 0 c.put_tables-at.ensures, stored_size _ _ _ _ c.put_word.ensures, stored_size _ _ _ _ c.put_word-2.ensures) }

pub returns : goal.returns
returns c = let a = c.args in let p = c.requires in joined_wrote a.first.now a.second.now a.shared a.joined.now c.cycle_ticks.result c.precision_ticks.result c.cycle_ticks.ensures c.precision_ticks.ensures c.put_tables-at.ensures c.put_word.ensures c.put_word-2.ensures (c.put_layout.ensures (joined_rows a.first.now a.second.now a.shared) p.shared_bound.1) p.tables_value.1.0
