use Rattle.std.proofs.Common.{rules}
use mathlib.Core.Path.{sym, ap, ◌∙◌}
use Rattle.plan.specs.Questions.{image_questions, row_questions, queue_questions, plan_questions}
use Rattle.asking.specs.Asking.{verdict}
use Rattle.asking.proofs.Verdicts.{stopped_before, gone_past}
use Rattle.rows.proofs.Joining.{image_held, all_held}
use Rattle.questions.proofs.Joining.{queues_held, all_in_turn}
use Rattle.questions.proofs.ask.Goals as goal

pub returns-in_err-ask_image : goal.returns-in_err-ask_image
returns-in_err-ask_image c = let s = c.args.image.now in
    stopped_before (image_questions s) _ _ _ c.in_err-ask_image.field-0.0 c.ask_image.ensures c.in_err-ask_image.was (search rules)
    ∙ ap verdict (sym (all_in_turn s))

pub ask-requires : goal.ask-requires
ask-requires c = image_held c.args.image.now (sym c.in_ok-ask_image.was ∙ c.ask_image.ensures)

pub returns-in_err-ask : goal.returns-in_err-ask
returns-in_err-ask c = let s = c.args.image.now in
    gone_past (image_questions s) _ _ _ c.ask_image.ensures c.in_ok-ask_image.was
    (stopped_before (row_questions s) _ _ _ c.in_err-ask.field-0.0 c.ask.ensures c.in_err-ask.was (search rules))
    ∙ ap verdict (sym (all_in_turn s))

pub ask_queues-requires : goal.ask_queues-requires
ask_queues-requires c = image_held c.args.image.now (sym c.in_ok-ask_image.was ∙ c.ask_image.ensures)

pub returns-in_err-ask_queues : goal.returns-in_err-ask_queues
returns-in_err-ask_queues c = let s = c.args.image.now in
    gone_past (image_questions s) _ _ _ c.ask_image.ensures c.in_ok-ask_image.was
    (gone_past (row_questions s) _ _ _ c.ask.ensures c.in_ok-ask.was
    (stopped_before (queue_questions s) (plan_questions s) _ _ c.in_err-ask_queues.field-0.0 c.ask_queues.ensures c.in_err-ask_queues.was (search rules)))
    ∙ ap verdict (sym (all_in_turn s))

pub ask_plan-requires : goal.ask_plan-requires
ask_plan-requires c = let s = c.args.image.now in (
  all_held s (sym c.in_ok-ask_image.was ∙ c.ask_image.ensures) (sym c.in_ok-ask.was ∙ c.ask.ensures),
  queues_held s (sym c.in_ok-ask_queues.was ∙ c.ask_queues.ensures),
)

pub returns : goal.returns
returns c = let s = c.args.image.now in
    gone_past (image_questions s) _ _ _ c.ask_image.ensures c.in_ok-ask_image.was
    (gone_past (row_questions s) _ _ _ c.ask.ensures c.in_ok-ask.was
    (gone_past (queue_questions s) (plan_questions s) _ _ c.ask_queues.ensures c.in_ok-ask_queues.was c.ask_plan.ensures))
    ∙ ap verdict (sym (all_in_turn s))
