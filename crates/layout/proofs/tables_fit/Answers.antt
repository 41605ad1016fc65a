use Prim.Native.Nat.{ℕ, ◌+◌}
use mathlib.Core.Path.{refl, sym, ap, ◌∙◌}
use native.Mathlib.Omega.{arith}
use lib.ListN.{drop}
use Rattle.plan.specs.Image.{tables, table_end, trailer_at, trailer_bytes}
use Rattle.plan.specs.Questions.{laid}
use Rattle.layout.proofs.Tables.{laid_on, laid_no, laid_end}
use Rattle.layout.proofs.tables_fit.Goals as goal

pub loop-i-init : goal.loop-i-init
unfolding tables
loop-i-init c = refl

pub table_at-table-requires : goal.table_at-table-requires
table_at-table-requires c = omega arith

pub table_fits-requires : goal.table_fits-requires
table_fits-requires c = c.requires

pub returns-then-not-table_fits : goal.returns-then-not-table_fits
returns-then-not-table_fits c = let l = c.loop-i in let s = c.args.image.now in sym (l.invariant ∙ laid_no s l.from l.i c.loop-i-test.true (rw (← c.table_at-table.ensures) (sym c.table_fits.ensures ∙ c.if-not-table_fits.true)))

pub end_of-from-requires : goal.end_of-from-requires
end_of-from-requires c = c.requires

pub loop-i-preserved : goal.loop-i-preserved
loop-i-preserved c = let l = c.loop-i in let s = c.args.image.now in (l.invariant ∙ laid_on s l.from l.i c.loop-i-test.true (rw (← c.table_at-table.ensures) (sym c.table_fits.ensures ∙ c.if-not-table_fits.false)) ∙ ap (λ (x : ℕ). laid s x (drop (l.i + 1) tables)) (sym (c.end_of-from.ensures ∙ ap (table_end s) c.table_at-table.ensures)))

pub overflow_sub-result : goal.overflow_sub-result
unfolding trailer_bytes tables
overflow_sub-result c = let h = c.requires in omega arith

pub returns : goal.returns
unfolding trailer_at trailer_bytes tables
returns c = let l = c.loop-i in let s = c.args.image.now in sym (l.invariant ∙ laid_end s l.from l.i (omega arith))
