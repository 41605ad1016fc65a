use Rattle.std.proofs.Common.{refl}
use mathlib.Core.Path.{ap, ◌∙◌}
use Rattle.plan.specs.declared.Table.TheVariants.{Tasks}
use Rattle.plan.specs.Questions.{piece_questions}
use Rattle.asking.specs.Asking.{told}
use Rattle.asking.proofs.Verdicts.{AskedTo, all_told, where_ok}
use Rattle.jobs.proofs.Gathering.{timed}
use Rattle.windows.proofs.Asked.{budget}
use Rattle.windows.proofs.ask_budgets.Goals as goal

pub returns-clause-told : goal.returns-clause-told
unfolding piece_questions
returns-clause-told c =
    let s = c.args.image.now in
    let budget_told : AskedTo (piece_questions s) 7 c.tell.result =
    budget s _ c.requires.1.0 (c.tell.ensures ∙ ap (told (record { number = 13; table = Tasks })) c.first_off_budget.ensures) in
    all_told (piece_questions s) 7 _ refl budget_told

pub returns-clause-timed : goal.returns-clause-timed
returns-clause-timed c =
    let s = c.args.image.now in
    let budget_told : AskedTo (piece_questions s) 7 c.tell.result =
    budget s _ c.requires.1.0 (c.tell.ensures ∙ ap (told (record { number = 13; table = Tasks })) c.first_off_budget.ensures) in
    where_ok _ c.tell.result (λ z. timed s _ c.requires.0 (budget_told.passed z) c.gather.ensures)
