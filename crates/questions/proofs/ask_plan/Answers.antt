use Rattle.std.proofs.Common.{rules}
use mathlib.Core.Path.{sym, ap, ◌∙◌}
use Rattle.plan.specs.Questions.{piece_questions}
use Rattle.asking.specs.Asking.{verdict}
use Rattle.asking.proofs.Verdicts.{stopped_before, gone_past}
use Rattle.questions.proofs.Joining.{where_passed, pieces_passed, plan_in_turn}
use Rattle.questions.proofs.ask_plan.Goals as goal

pub returns-in_err-ask : goal.returns-in_err-ask
returns-in_err-ask c = let s = c.args.image.now in
    stopped_before (piece_questions s) _ _ _ c.in_err-ask.field-0.0 c.ask.ensures.told c.in_err-ask.was (search rules) ∙ ap verdict (sym (plan_in_turn s))

pub ask_messages-requires : goal.ask_messages-requires
ask_messages-requires c = let p = c.requires in
    (p.0, (p.1, (pieces_passed c.args.image.now (sym c.in_ok-ask.was ∙ c.ask.ensures.told), where_passed _ c.ask.result c.ask.ensures.timed c.in_ok-ask.was)))

pub returns : goal.returns
returns c = let s = c.args.image.now in
    gone_past (piece_questions s) _ _ _ c.ask.ensures.told c.in_ok-ask.was c.ask_messages.ensures ∙ ap verdict (sym (plan_in_turn s))
