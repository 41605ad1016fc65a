use Rattle.std.proofs.Common.{rules, arith}
use mathlib.Core.Path.{ap, ◌∙◌}
use Rattle.plan.specs.declared.Table.TheVariants.{Pieces}
use Rattle.plan.specs.Questions.{piece_questions}
use Rattle.plan.specs.Held.{Passed}
use Rattle.asking.specs.Asking.{told}
use Rattle.asking.proofs.Verdicts.{AskedTo, handed_on}
use Rattle.places.specs.Places.{table_for}
use Rattle.clashes.specs.Clashes.{clear_of}
use Rattle.clashes.proofs.Clashing.{pieces_last}
use Rattle.windows.proofs.Asked.{inside, apart}
use Rattle.windows.proofs.ask_places.Goals as goal

pub returns-in_err-tell : goal.returns-in_err-tell
unfolding table_for clear_of
returns-in_err-tell c =
    let s = c.args.image.now in
    let qs = piece_questions s in
    let inside_told : AskedTo qs 5 c.tell.result =
    inside s _ (c.requires.1.0) (c.tell.ensures ∙ ap (told (record { number = 11; table = Pieces })) c.first_outside.ensures) in
    handed_on qs 5 6 _ _ c.in_err-tell.field-0.0 inside_told (omega arith) c.in_err-tell.was (search rules)

pub first_clash-requires : goal.first_clash-requires
unfolding table_for clear_of
first_clash-requires c =
    let s = c.args.image.now in
    let qs = piece_questions s in
    let inside_told : AskedTo qs 5 c.tell.result =
    inside s _ (c.requires.1.0) (c.tell.ensures ∙ ap (told (record { number = 11; table = Pieces })) c.first_outside.ensures) in
    let passed : Passed qs 5 = inside_told.passed c.in_ok-tell.was in
    (c.requires.0, pieces_last s 5 passed (omega arith))

pub returns : goal.returns
unfolding table_for clear_of piece_questions
returns c =
    let s = c.args.image.now in
    let qs = piece_questions s in
    let inside_told : AskedTo qs 5 c.tell.result =
    inside s _ (c.requires.1.0) (c.tell.ensures ∙ ap (told (record { number = 11; table = Pieces })) c.first_outside.ensures) in
    let apart_told : AskedTo qs 6 c.tell-2.result =
    apart s _ (inside_told.passed c.in_ok-tell.was) (c.tell-2.ensures ∙ ap (told (record { number = 12; table = Pieces })) c.first_clash.ensures) in
    apart_told.part
