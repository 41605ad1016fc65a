use mathlib.Core.Path.{sym, ◌∙◌}
use Rattle.pairs.proofs.Rows.{inside}
use Rattle.agreeing.proofs.Agreeing.{table_yes, table_no}
use Rattle.agreeing.proofs.table_agrees.Goals as goal

pub rows_of-n-requires : goal.rows_of-n-requires
rows_of-n-requires c = (inside _ c.requires.first).trailer

pub rows_of-requires : goal.rows_of-requires
rows_of-requires c = (inside _ c.requires.second).trailer

pub returns-then-n-rows_of : goal.returns-then-n-rows_of
returns-then-n-rows_of c = let a = c.args in table_yes a.first.now a.second.now a.table c.rows_of-n.result c.rows_agree.result c.rows_of-n.ensures (c.if-n-rows_of.true ∙ c.rows_of.ensures) c.rows_agree.ensures

pub returns-else-n-rows_of : goal.returns-else-n-rows_of
returns-else-n-rows_of c = let a = c.args in table_no a.first.now a.second.now a.table (λ e. c.if-n-rows_of.false (c.rows_of-n.ensures ∙ e ∙ sym c.rows_of.ensures))
