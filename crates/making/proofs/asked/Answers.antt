use mathlib.Core.Path.{sym, ap, ◌∙◌}
use Rattle.plan.specs.declared.Answer.{Answer}
use Rattle.asking.proofs.Verdicts.{answer_in, answered}
use Rattle.making.proofs.Made.{early}
use Rattle.making.proofs.asked.Goals as goal

pub returns-in-Ok : goal.returns-in-Ok
returns-in-Ok c = ap (λ (x : Answer). x.number) (ap answer_in (sym c.in-Ok.is ∙ c.ask.ensures) ∙ answered (early c.args.image.now))

pub returns-in-Err : goal.returns-in-Err
returns-in-Err c = ap (λ (x : Answer). x.number) (ap answer_in (sym c.in-Err.is ∙ c.ask.ensures) ∙ answered (early c.args.image.now))
