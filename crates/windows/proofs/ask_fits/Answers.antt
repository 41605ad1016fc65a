use Rattle.std.proofs.Common.{rules, arith}
use mathlib.Core.Path.{ap, ◌∙◌}
use Rattle.plan.specs.declared.Table.TheVariants.{Windows}
use Rattle.plan.specs.Questions.{piece_questions, window_fits, mask_allows, piece_fits}
use Rattle.plan.specs.Held.{Passed}
use Rattle.plan.proofs.Asking.{passed_none}
use Rattle.asking.specs.Asking.{told}
use Rattle.asking.proofs.Verdicts.{AskedTo, handed_on}
use Rattle.places.specs.Places.{table_for}
use Rattle.clashes.specs.Clashes.{clear_of}
use Rattle.clashes.proofs.Clashing.{windows_last}
use Rattle.windows.proofs.Asked.{fits, clear, allows, piece}
use Rattle.windows.proofs.ask_fits.Goals as goal

pub returns-in_err-each_row : goal.returns-in_err-each_row
unfolding table_for clear_of
returns-in_err-each_row c =
    let s = c.args.image.now in
    let qs = piece_questions s in
    let fits_told : AskedTo qs 1 c.each_row.result =
    fits s _ (passed_none (piece_questions s)) (c.each_row.ensures (window_fits s) (λ j b k h q. search rules)) in
    handed_on qs 1 4 _ _ c.in_err-each_row.field-0.0 fits_told (omega arith) c.in_err-each_row.was (search rules)

pub first_clash-requires : goal.first_clash-requires
unfolding table_for clear_of
first_clash-requires c =
    let s = c.args.image.now in
    let qs = piece_questions s in
    let fits_told : AskedTo qs 1 c.each_row.result =
    fits s _ (passed_none (piece_questions s)) (c.each_row.ensures (window_fits s) (λ j b k h q. search rules)) in
    let passed : Passed qs 1 = fits_told.passed c.in_ok-each_row.was in
    (c.requires.0, windows_last s 1 passed (omega arith))

pub returns-in_err-tell : goal.returns-in_err-tell
unfolding table_for clear_of
returns-in_err-tell c =
    let s = c.args.image.now in
    let qs = piece_questions s in
    let fits_told : AskedTo qs 1 c.each_row.result =
    fits s _ (passed_none (piece_questions s)) (c.each_row.ensures (window_fits s) (λ j b k h q. search rules)) in
    let clear_told : AskedTo qs 2 c.tell.result =
    clear s _ (fits_told.passed c.in_ok-each_row.was) (c.tell.ensures ∙ ap (told (record { number = 8; table = Windows })) c.first_clash.ensures) in
    handed_on qs 2 4 _ _ c.in_err-tell.field-0.0 clear_told (omega arith) c.in_err-tell.was (search rules)

pub returns-in_err-each_row-2 : goal.returns-in_err-each_row-2
unfolding table_for clear_of
returns-in_err-each_row-2 c =
    let s = c.args.image.now in
    let qs = piece_questions s in
    let fits_told : AskedTo qs 1 c.each_row.result =
    fits s _ (passed_none (piece_questions s)) (c.each_row.ensures (window_fits s) (λ j b k h q. search rules)) in
    let clear_told : AskedTo qs 2 c.tell.result =
    clear s _ (fits_told.passed c.in_ok-each_row.was) (c.tell.ensures ∙ ap (told (record { number = 8; table = Windows })) c.first_clash.ensures) in
    let allows_told : AskedTo qs 3 c.each_row-2.result =
    allows s _ (clear_told.passed c.in_ok-tell.was) (c.each_row-2.ensures (mask_allows s) (λ j b k h q. search rules)) in
    handed_on qs 3 4 _ _ c.in_err-each_row-2.field-0.0 allows_told (omega arith) c.in_err-each_row-2.was (search rules)

pub returns : goal.returns
unfolding table_for clear_of piece_questions
returns c =
    let s = c.args.image.now in
    let qs = piece_questions s in
    let fits_told : AskedTo qs 1 c.each_row.result =
    fits s _ (passed_none (piece_questions s)) (c.each_row.ensures (window_fits s) (λ j b k h q. search rules)) in
    let clear_told : AskedTo qs 2 c.tell.result =
    clear s _ (fits_told.passed c.in_ok-each_row.was) (c.tell.ensures ∙ ap (told (record { number = 8; table = Windows })) c.first_clash.ensures) in
    let allows_told : AskedTo qs 3 c.each_row-2.result =
    allows s _ (clear_told.passed c.in_ok-tell.was) (c.each_row-2.ensures (mask_allows s) (λ j b k h q. search rules)) in
    let piece_told : AskedTo qs 4 c.each_row-3.result =
    piece s _ (allows_told.passed c.in_ok-each_row-2.was) (c.each_row-3.ensures (piece_fits s) (λ j b k h q. search rules)) in
    piece_told.part
