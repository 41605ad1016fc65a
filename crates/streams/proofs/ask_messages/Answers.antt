use Rattle.std.proofs.Common.{rules, refl, arith}
use mathlib.Core.Path.{ap, ◌∙◌}
use Rattle.plan.specs.declared.Table.TheVariants.{Frames}
use Rattle.plan.specs.Questions.{stream_questions, each_job, message_waits, in_time}
use Rattle.plan.specs.Held.{Passed}
use Rattle.asking.specs.Asking.{told}
use Rattle.asking.proofs.Verdicts.{AskedTo, stopped, all_told}
use Rattle.streams.proofs.Asked.{waits, timely, stays}
use Rattle.streams.proofs.ask_messages.Goals as goal

pub returns-in_err-each_row : goal.returns-in_err-each_row
returns-in_err-each_row c =
    let s = c.args.image.now in
    let qs = stream_questions s in
    let waits_told : AskedTo qs 7 c.each_row.result =
    waits s _ (c.requires.framed.1) (c.each_row.ensures (each_job s (message_waits s)) (λ j b k h q. search rules)) in
    stopped qs 7 _ _ c.in_err-each_row.field-0.0 waits_told c.in_err-each_row.was (search rules)

pub returns-in_err-each_row-2 : goal.returns-in_err-each_row-2
returns-in_err-each_row-2 c =
    let s = c.args.image.now in
    let qs = stream_questions s in
    let waits_told : AskedTo qs 7 c.each_row.result =
    waits s _ (c.requires.framed.1) (c.each_row.ensures (each_job s (message_waits s)) (λ j b k h q. search rules)) in
    let timely_told : AskedTo qs 8 c.each_row-2.result =
    timely s _ (waits_told.passed c.in_ok-each_row.was) (c.each_row-2.ensures (each_job s (in_time s)) (λ j b k h q. search rules)) in
    stopped qs 8 _ _ c.in_err-each_row-2.field-0.0 timely_told c.in_err-each_row-2.was (search rules)

pub first_clash-requires : goal.first_clash-requires
first_clash-requires c =
    let s = c.args.image.now in
    let qs = stream_questions s in
    let waits_told : AskedTo qs 7 c.each_row.result =
    waits s _ (c.requires.framed.1) (c.each_row.ensures (each_job s (message_waits s)) (λ j b k h q. search rules)) in
    let timely_told : AskedTo qs 8 c.each_row-2.result =
    timely s _ (waits_told.passed c.in_ok-each_row.was) (c.each_row-2.ensures (each_job s (in_time s)) (λ j b k h q. search rules)) in
    let passed : Passed qs 8 = timely_told.passed c.in_ok-each_row-2.was in
    record { framed = c.requires.framed.0; queued = c.requires.timed.0; timed = c.requires.timed.1.0; indexed = c.requires.timed.1.1; passed = λ j l. passed j (omega arith) }

pub returns : goal.returns
unfolding stream_questions
returns c =
    let s = c.args.image.now in
    let qs = stream_questions s in
    let waits_told : AskedTo qs 7 c.each_row.result =
    waits s _ (c.requires.framed.1) (c.each_row.ensures (each_job s (message_waits s)) (λ j b k h q. search rules)) in
    let timely_told : AskedTo qs 8 c.each_row-2.result =
    timely s _ (waits_told.passed c.in_ok-each_row.was) (c.each_row-2.ensures (each_job s (in_time s)) (λ j b k h q. search rules)) in
    let stays_told : AskedTo qs 9 c.tell.result =
    stays s _ (timely_told.passed c.in_ok-each_row-2.was) (c.tell.ensures ∙ ap (told (record { number = 41; table = Frames })) c.first_clash.ensures) in
    all_told qs 9 _ refl stays_told
