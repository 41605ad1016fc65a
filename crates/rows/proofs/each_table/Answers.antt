use Rattle.std.proofs.Common.{rules, suc, arith, add-one}
use Rattle.plan.specs.Image.{tables}
use Rattle.plan.specs.Questions.{each_table}
use Rattle.asking.proofs.Verdicts.{AskedTo, stopped, all_passed}
use Rattle.rows.proofs.Asked.{asks_table, all_asked}
use Rattle.rows.proofs.each_table.Goals as goal

pub each_row-requires-clause-may_ask : goal.each_row-requires-clause-may_ask
each_row-requires-clause-may_ask g c = λ i l r. let here = c.requires.may_ask c.table_at-table.result i l in search rules

pub returns-in_err-each_row : goal.returns-in_err-each_row
returns-in_err-each_row g c = λ p t.
    let qs = each_table c.args.image.now c.args.number tables p in
    let l = c.loop-i in
    let told : AskedTo qs (suc l.i) c.each_row.result =
    asks_table c.args.image.now c.args.number p l.i (omega arith) c.table_at-table.result c.table_at-table.ensures _ (l.invariant p t)
    (c.each_row.ensures (p c.table_at-table.result) (λ j b k h q. let here = t c.table_at-table.result j b k in search rules)) in
    stopped qs (suc l.i) _ _ c.in_err-each_row.field-0.0 told c.in_err-each_row.was (search rules)

pub loop-i-preserved : goal.loop-i-preserved
loop-i-preserved g c = λ p t.
    let qs = each_table c.args.image.now c.args.number tables p in
    let l = c.loop-i in
    let told : AskedTo qs (suc l.i) c.each_row.result =
    asks_table c.args.image.now c.args.number p l.i (omega arith) c.table_at-table.result c.table_at-table.ensures _ (l.invariant p t)
    (c.each_row.ensures (p c.table_at-table.result) (λ j b k h q. let here = t c.table_at-table.result j b k in search rules)) in
    rw add-one (told.passed c.in_ok-each_row.was)

pub returns : goal.returns
returns g c = λ p t. all_passed (each_table c.args.image.now c.args.number tables p) c.loop-i.i (rw all_asked (omega arith)) (c.loop-i.invariant p t)
