use Rattle.std.proofs.Common.{rules, arith}
use Rattle.plan.specs.Questions.{piece_questions}
use Rattle.plan.specs.Held.{Passed}
use Rattle.asking.proofs.Verdicts.{AskedTo, stopped, of_part}
use Rattle.windows.proofs.ask.Goals as goal

pub returns-in_err-ask_fits-clause-told : goal.returns-in_err-ask_fits-clause-told
unfolding piece_questions
returns-in_err-ask_fits-clause-told c =
    let s = c.args.image.now in
    let qs = piece_questions s in
    let fits_told : AskedTo qs 4 c.ask_fits.result =
    of_part qs 4 _ (omega arith) c.ask_fits.ensures in
    stopped qs 4 _ _ c.in_err-ask_fits.field-0.0 fits_told c.in_err-ask_fits.was (search rules)

pub ask_places-requires : goal.ask_places-requires
unfolding piece_questions
ask_places-requires c =
    let s = c.args.image.now in
    let qs = piece_questions s in
    let fits_told : AskedTo qs 4 c.ask_fits.result =
    of_part qs 4 _ (omega arith) c.ask_fits.ensures in
    let passed : Passed qs 4 = fits_told.passed c.in_ok-ask_fits.was in
    (c.requires.0, (passed, c.gather.ensures))

pub returns-in_err-ask_places-clause-told : goal.returns-in_err-ask_places-clause-told
unfolding piece_questions
returns-in_err-ask_places-clause-told c =
    let s = c.args.image.now in
    let qs = piece_questions s in
    let fits_told : AskedTo qs 4 c.ask_fits.result =
    of_part qs 4 _ (omega arith) c.ask_fits.ensures in
    let places_told : AskedTo qs 6 c.ask_places.result =
    of_part qs 6 _ (omega arith) c.ask_places.ensures in
    stopped qs 6 _ _ c.in_err-ask_places.field-0.0 places_told c.in_err-ask_places.was (search rules)

pub ask_budgets-requires : goal.ask_budgets-requires
unfolding piece_questions
ask_budgets-requires c =
    let s = c.args.image.now in
    let qs = piece_questions s in
    let fits_told : AskedTo qs 4 c.ask_fits.result =
    of_part qs 4 _ (omega arith) c.ask_fits.ensures in
    let places_told : AskedTo qs 6 c.ask_places.result =
    of_part qs 6 _ (omega arith) c.ask_places.ensures in
    let passed : Passed qs 6 = places_told.passed c.in_ok-ask_places.was in
    (c.requires.0, (passed, c.requires.1))
