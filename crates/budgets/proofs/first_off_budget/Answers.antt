use Rattle.std.proofs.Common.{rules, ◌≡◌, None}
use Rattle.plan.specs.Search.{first_no}
use Rattle.plan.specs.Questions.{task_budget}
use Rattle.plan.proofs.Searching.{none_iff}
use Rattle.budgets.proofs.first_off_budget.Goals as goal

-- a task is asked where all before it have their budgets
pub first_no-requires : goal.first_no-requires
first_no-requires c = λ i l r.
    let budgets = task_budget c.args.image.now in
    let before : first_no i budgets ≡ None = (none_iff budgets i).1 (λ j k. let told = r j k in search rules) in
    search rules
