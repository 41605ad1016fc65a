use Rattle.std.proofs.Common.{rules, arith}
use mathlib.Core.Path.{ap, ◌∙◌}
use Rattle.plan.specs.declared.Table.TheVariants.{Streams}
use Rattle.plan.specs.Questions.{stream_questions, question_at, each, stream_ends, frame_fits}
use Rattle.plan.specs.Held.{Passed}
use Rattle.plan.proofs.Asking.{passed_none}
use Rattle.asking.specs.Asking.{told}
use Rattle.asking.proofs.Verdicts.{AskedTo, handed_on}
use Rattle.streams.proofs.Asked.{ends, fits, one}
use Rattle.streams.proofs.ask_frames.Goals as goal

pub returns-in_err-each_row : goal.returns-in_err-each_row
unfolding stream_questions question_at each
returns-in_err-each_row c =
    let s = c.args.image.now in
    let qs = stream_questions s in
    let ends_told : AskedTo qs 1 c.each_row.result =
    ends s _ (passed_none (stream_questions s)) (c.each_row.ensures (stream_ends s) (λ j b k h q. search rules)) in
    handed_on qs 1 3 _ _ c.in_err-each_row.field-0.0 ends_told (omega arith) c.in_err-each_row.was (search rules)

pub returns-in_err-each_row-2 : goal.returns-in_err-each_row-2
unfolding stream_questions question_at each
returns-in_err-each_row-2 c =
    let s = c.args.image.now in
    let qs = stream_questions s in
    let ends_told : AskedTo qs 1 c.each_row.result =
    ends s _ (passed_none (stream_questions s)) (c.each_row.ensures (stream_ends s) (λ j b k h q. search rules)) in
    let fits_told : AskedTo qs 2 c.each_row-2.result =
    fits s _ (ends_told.passed c.in_ok-each_row.was) (c.each_row-2.ensures (frame_fits s) (λ j b k h q. search rules)) in
    handed_on qs 2 3 _ _ c.in_err-each_row-2.field-0.0 fits_told (omega arith) c.in_err-each_row-2.was (search rules)

pub first_unframed-requires : goal.first_unframed-requires
unfolding stream_questions question_at each
first_unframed-requires c =
    let s = c.args.image.now in
    let qs = stream_questions s in
    let ends_told : AskedTo qs 1 c.each_row.result =
    ends s _ (passed_none (stream_questions s)) (c.each_row.ensures (stream_ends s) (λ j b k h q. search rules)) in
    let fits_told : AskedTo qs 2 c.each_row-2.result =
    fits s _ (ends_told.passed c.in_ok-each_row.was) (c.each_row-2.ensures (frame_fits s) (λ j b k h q. search rules)) in
    let passed : Passed qs 2 = fits_told.passed c.in_ok-each_row-2.was in
    (c.requires.0, (passed, c.requires.1))

pub returns : goal.returns
unfolding stream_questions question_at each
returns c =
    let s = c.args.image.now in
    let qs = stream_questions s in
    let ends_told : AskedTo qs 1 c.each_row.result =
    ends s _ (passed_none (stream_questions s)) (c.each_row.ensures (stream_ends s) (λ j b k h q. search rules)) in
    let fits_told : AskedTo qs 2 c.each_row-2.result =
    fits s _ (ends_told.passed c.in_ok-each_row.was) (c.each_row-2.ensures (frame_fits s) (λ j b k h q. search rules)) in
    let one_told : AskedTo qs 3 c.tell.result =
    one s _ (fits_told.passed c.in_ok-each_row-2.was) (c.tell.ensures ∙ ap (told (record { number = 16; table = Streams })) c.first_unframed.ensures) in
    one_told.part
