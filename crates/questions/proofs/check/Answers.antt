use mathlib.Core.Path.{sym, ap, ◌∙◌}
use Rattle.plan.specs.Questions.{questions, answer_of}
use Rattle.asking.proofs.Verdicts.{answer_in, answered}
use Rattle.questions.proofs.check.Goals as goal

pub returns-in-Ok : goal.returns-in-Ok
unfolding answer_of
returns-in-Ok c = c.accepted.ensures ∙ ap answer_in (sym c.in-Ok.is ∙ c.ask.ensures) ∙ answered (questions c.args.image.now)

pub returns-in-Err : goal.returns-in-Err
unfolding answer_of
returns-in-Err c = ap answer_in (sym c.in-Err.is ∙ c.ask.ensures) ∙ answered (questions c.args.image.now)
