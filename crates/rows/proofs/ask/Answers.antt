use Rattle.std.proofs.Common.{rules}
use mathlib.Core.Path.{ap, sym, ◌∙◌}
use mathlib.Core.List.{append_assoc}
use Rattle.plan.specs.Image.{tables}
use Rattle.plan.specs.Questions.{each_table, row_questions, names, in_order, in_range}
use Rattle.asking.specs.Asking.{verdict}
use Rattle.asking.proofs.Verdicts.{stopped_before, gone_past}
use Rattle.rows.proofs.ask.Goals as goal

pub returns-in_err-each_table : goal.returns-in_err-each_table
unfolding row_questions
returns-in_err-each_table c =
    let s = c.args.image.now in
    let five = c.each_table.ensures (names s) (λ t r b l q. search rules) in
    stopped_before (each_table s 5 tables (names s)) _ _ _ c.in_err-each_table.field-0.0 five c.in_err-each_table.was (search rules)
    ∙ ap verdict (sym (append_assoc (each_table s 5 tables (names s)) (each_table s 32 tables (in_order s)) (each_table s 6 tables (in_range s))))

pub returns-in_err-each_table-2 : goal.returns-in_err-each_table-2
unfolding row_questions
returns-in_err-each_table-2 c =
    let s = c.args.image.now in
    let five = c.each_table.ensures (names s) (λ t r b l q. search rules) in
    let thirty_two = c.each_table-2.ensures (in_order s) (λ t r b l q. search rules) in
    gone_past (each_table s 5 tables (names s)) _ _ _ five c.in_ok-each_table.was
    (stopped_before (each_table s 32 tables (in_order s)) (each_table s 6 tables (in_range s)) _ _ c.in_err-each_table-2.field-0.0 thirty_two c.in_err-each_table-2.was (search rules))
    ∙ ap verdict (sym (append_assoc (each_table s 5 tables (names s)) (each_table s 32 tables (in_order s)) (each_table s 6 tables (in_range s))))

pub returns : goal.returns
unfolding row_questions
returns c =
    let s = c.args.image.now in
    let five = c.each_table.ensures (names s) (λ t r b l q. search rules) in
    let thirty_two = c.each_table-2.ensures (in_order s) (λ t r b l q. search rules) in
    let six = c.each_table-3.ensures (in_range s) (λ t r b l q. search rules) in
    gone_past (each_table s 5 tables (names s)) _ _ _ five c.in_ok-each_table.was
    (gone_past (each_table s 32 tables (in_order s)) (each_table s 6 tables (in_range s)) _ _ thirty_two c.in_ok-each_table-2.was six)
    ∙ ap verdict (sym (append_assoc (each_table s 5 tables (names s)) (each_table s 32 tables (in_order s)) (each_table s 6 tables (in_range s))))
