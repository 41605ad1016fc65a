use Rattle.std.proofs.Common.{rules, take}
use mathlib.Core.Path.{sym, ◌∙◌}
use Rattle.plan.specs.Questions.{image_questions, row_questions, piece_questions}
use Rattle.asking.proofs.Verdicts.{stopped_before, gone_past}
use Rattle.rows.proofs.Joining.{image_held, all_held}
use Rattle.making.proofs.ask.Goals as goal

pub returns-in_err-ask_image : goal.returns-in_err-ask_image
returns-in_err-ask_image c = let s = c.args.image.now in
    stopped_before (image_questions s) _ _ _ c.in_err-ask_image.field-0.0 c.ask_image.ensures c.in_err-ask_image.was (search rules)

pub ask-requires : goal.ask-requires
ask-requires c = image_held c.args.image.now (sym c.in_ok-ask_image.was ∙ c.ask_image.ensures)

pub returns-in_err-ask : goal.returns-in_err-ask
returns-in_err-ask c = let s = c.args.image.now in
    gone_past (image_questions s) _ _ _ c.ask_image.ensures c.in_ok-ask_image.was
    (stopped_before (row_questions s) (take 4 (piece_questions s)) _ _ c.in_err-ask.field-0.0 c.ask.ensures c.in_err-ask.was (search rules))

pub ask_fitting-requires : goal.ask_fitting-requires
ask_fitting-requires c = all_held c.args.image.now (sym c.in_ok-ask_image.was ∙ c.ask_image.ensures) (sym c.in_ok-ask.was ∙ c.ask.ensures)

pub returns : goal.returns
returns c = let s = c.args.image.now in
    gone_past (image_questions s) _ _ _ c.ask_image.ensures c.in_ok-ask_image.was
    (gone_past (row_questions s) (take 4 (piece_questions s)) _ _ c.ask.ensures c.in_ok-ask.was c.ask_fitting.ensures)
