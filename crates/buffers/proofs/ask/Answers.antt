use Rattle.std.proofs.Common.{rules, refl}
use Rattle.plan.specs.Questions.{buffer_questions, buffer_ends, reader_waits, hold_clear}
use Rattle.plan.specs.Held.{Passed}
use Rattle.plan.proofs.Asking.{passed_none}
use Rattle.asking.proofs.Verdicts.{AskedTo, stopped, all_told}
use Rattle.buffers.proofs.Asked.{ends, waits, clear}
use Rattle.buffers.proofs.ask.Goals as goal

pub returns-in_err-each_row : goal.returns-in_err-each_row
returns-in_err-each_row c =
    let s = c.args.image.now in
    let ends_told : AskedTo (buffer_questions s) 1 c.each_row.result = ends s _ (passed_none (buffer_questions s)) (c.each_row.ensures (buffer_ends s) (λ j b k h q. search rules)) in
    stopped (buffer_questions s) 1 _ _ c.in_err-each_row.field-0.0 ends_told c.in_err-each_row.was (search rules)

pub each_row-requires-2-clause-may_ask : goal.each_row-requires-2-clause-may_ask
each_row-requires-2-clause-may_ask c = λ i l r.
    let s = c.args.image.now in
    let ends_told : AskedTo (buffer_questions s) 1 c.each_row.result = ends s _ (passed_none (buffer_questions s)) (c.each_row.ensures (buffer_ends s) (λ j b k h q. search rules)) in
    let passed : Passed (buffer_questions s) 1 = ends_told.passed c.in_ok-each_row.was in
    search rules

pub returns-in_err-each_row-2 : goal.returns-in_err-each_row-2
returns-in_err-each_row-2 c =
    let s = c.args.image.now in
    let ends_told : AskedTo (buffer_questions s) 1 c.each_row.result = ends s _ (passed_none (buffer_questions s)) (c.each_row.ensures (buffer_ends s) (λ j b k h q. search rules)) in
    let waits_told : AskedTo (buffer_questions s) 2 c.each_row-2.result = waits s _ (ends_told.passed c.in_ok-each_row.was) (c.each_row-2.ensures (reader_waits s) (λ j b k h q. search rules)) in
    stopped (buffer_questions s) 2 _ _ c.in_err-each_row-2.field-0.0 waits_told c.in_err-each_row-2.was (search rules)

pub each_row-requires-3-clause-may_ask : goal.each_row-requires-3-clause-may_ask
each_row-requires-3-clause-may_ask c = λ i l r.
    let s = c.args.image.now in
    let ends_told : AskedTo (buffer_questions s) 1 c.each_row.result = ends s _ (passed_none (buffer_questions s)) (c.each_row.ensures (buffer_ends s) (λ j b k h q. search rules)) in
    let waits_told : AskedTo (buffer_questions s) 2 c.each_row-2.result = waits s _ (ends_told.passed c.in_ok-each_row.was) (c.each_row-2.ensures (reader_waits s) (λ j b k h q. search rules)) in
    let passed : Passed (buffer_questions s) 2 = waits_told.passed c.in_ok-each_row-2.was in
    search rules

pub returns : goal.returns
unfolding buffer_questions
returns c =
    let s = c.args.image.now in
    let ends_told : AskedTo (buffer_questions s) 1 c.each_row.result = ends s _ (passed_none (buffer_questions s)) (c.each_row.ensures (buffer_ends s) (λ j b k h q. search rules)) in
    let waits_told : AskedTo (buffer_questions s) 2 c.each_row-2.result = waits s _ (ends_told.passed c.in_ok-each_row.was) (c.each_row-2.ensures (reader_waits s) (λ j b k h q. search rules)) in
    let clear_told : AskedTo (buffer_questions s) 3 c.each_row-3.result = clear s _ (waits_told.passed c.in_ok-each_row-2.was) (c.each_row-3.ensures (hold_clear s) (λ j b k h q. search rules)) in
    all_told (buffer_questions s) 3 _ refl clear_told
