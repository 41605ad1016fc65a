use Rattle.std.proofs.Common.{rules, arith}
use mathlib.Core.Path.{ap, ◌∙◌}
use Rattle.plan.specs.declared.Table.TheVariants.{Frames}
use Rattle.plan.specs.Questions.{stream_questions, each_job, joined, hop_waits}
use Rattle.plan.specs.Held.{Passed}
use Rattle.asking.specs.Asking.{told}
use Rattle.asking.proofs.Verdicts.{AskedTo, handed_on}
use Rattle.places.specs.Places.{table_for}
use Rattle.clashes.specs.Clashes.{clear_of}
use Rattle.clashes.proofs.Clashing.{frames_last}
use Rattle.streams.proofs.Asked.{joins, hop, clear}
use Rattle.streams.proofs.ask_hops.Goals as goal

pub returns-in_err-each_row : goal.returns-in_err-each_row
unfolding table_for clear_of
returns-in_err-each_row c =
    let s = c.args.image.now in
    let qs = stream_questions s in
    let joins_told : AskedTo qs 4 c.each_row.result =
    joins s _ (c.requires.0.passed) (c.each_row.ensures (each_job s (joined s)) (λ j b k h q. search rules)) in
    handed_on qs 4 6 _ _ c.in_err-each_row.field-0.0 joins_told (omega arith) c.in_err-each_row.was (search rules)

pub returns-in_err-each_row-2 : goal.returns-in_err-each_row-2
unfolding table_for clear_of
returns-in_err-each_row-2 c =
    let s = c.args.image.now in
    let qs = stream_questions s in
    let joins_told : AskedTo qs 4 c.each_row.result =
    joins s _ (c.requires.0.passed) (c.each_row.ensures (each_job s (joined s)) (λ j b k h q. search rules)) in
    let hop_told : AskedTo qs 5 c.each_row-2.result =
    hop s _ (joins_told.passed c.in_ok-each_row.was) (c.each_row-2.ensures (hop_waits s) (λ j b k h q. search rules)) in
    handed_on qs 5 6 _ _ c.in_err-each_row-2.field-0.0 hop_told (omega arith) c.in_err-each_row-2.was (search rules)

pub first_clash-requires : goal.first_clash-requires
unfolding table_for clear_of
first_clash-requires c =
    let s = c.args.image.now in
    let qs = stream_questions s in
    let joins_told : AskedTo qs 4 c.each_row.result =
    joins s _ (c.requires.0.passed) (c.each_row.ensures (each_job s (joined s)) (λ j b k h q. search rules)) in
    let hop_told : AskedTo qs 5 c.each_row-2.result =
    hop s _ (joins_told.passed c.in_ok-each_row.was) (c.each_row-2.ensures (hop_waits s) (λ j b k h q. search rules)) in
    let passed : Passed qs 5 = hop_told.passed c.in_ok-each_row-2.was in
    (c.requires.0.sound, frames_last _ c.requires.0.sound)

pub returns : goal.returns
unfolding table_for clear_of stream_questions
returns c =
    let s = c.args.image.now in
    let qs = stream_questions s in
    let joins_told : AskedTo qs 4 c.each_row.result =
    joins s _ (c.requires.0.passed) (c.each_row.ensures (each_job s (joined s)) (λ j b k h q. search rules)) in
    let hop_told : AskedTo qs 5 c.each_row-2.result =
    hop s _ (joins_told.passed c.in_ok-each_row.was) (c.each_row-2.ensures (hop_waits s) (λ j b k h q. search rules)) in
    let clear_told : AskedTo qs 6 c.tell.result =
    clear s _ (hop_told.passed c.in_ok-each_row-2.was) (c.tell.ensures ∙ ap (told (record { number = 19; table = Frames })) c.first_clash.ensures) in
    clear_told.part
