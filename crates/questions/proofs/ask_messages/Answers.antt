use Rattle.std.proofs.Common.{rules}
use mathlib.Core.Path.{sym, ◌∙◌}
use Rattle.plan.specs.Questions.{stream_questions, buffer_questions, chain_questions}
use Rattle.asking.proofs.Verdicts.{stopped_before, gone_past}
use Rattle.questions.proofs.Joining.{before_chains}
use Rattle.questions.proofs.ask_messages.Goals as goal

pub returns-in_err-ask : goal.returns-in_err-ask
returns-in_err-ask c = let s = c.args.image.now in
    stopped_before (stream_questions s) _ _ _ c.in_err-ask.field-0.0 c.ask.ensures c.in_err-ask.was (search rules)

pub returns-in_err-ask-2 : goal.returns-in_err-ask-2
returns-in_err-ask-2 c = let s = c.args.image.now in
    gone_past (stream_questions s) _ _ _ c.ask.ensures c.in_ok-ask.was
    (stopped_before (buffer_questions s) (chain_questions s) _ _ c.in_err-ask-2.field-0.0 c.ask-2.ensures c.in_err-ask-2.was (search rules))

pub ask-requires-3 : goal.ask-requires-3
ask-requires-3 c = let p = c.requires in
    (before_chains c.args.image.now p.0 p.1.1.0 (sym c.in_ok-ask.was ∙ c.ask.ensures) (sym c.in_ok-ask-2.was ∙ c.ask-2.ensures), p.1.1.1)

pub returns : goal.returns
returns c = let s = c.args.image.now in
    gone_past (stream_questions s) _ _ _ c.ask.ensures c.in_ok-ask.was
    (gone_past (buffer_questions s) (chain_questions s) _ _ c.ask-2.ensures c.in_ok-ask-2.was c.ask-3.ensures)
