use Rattle.std.proofs.Common.{rules, ◌≡◌, true}
use Rattle.plan.specs.Search.{all}
use Rattle.plan.specs.Questions.{job_budget, task_budget}
use Rattle.plan.proofs.Searching.{yes_all}
use Rattle.budgets.proofs.task_budget.Goals as goal

-- a job is asked where all before it have their budgets
pub all-requires : goal.all-requires
all-requires c = λ i l r.
    let budgets = job_budget c.args.image.now c.args.task in
    let before : all i budgets ≡ true = yes_all budgets i (λ j k. let told = r j k in search rules) in
    search rules

pub returns : goal.returns
unfolding task_budget
returns c = search rules
