use mathlib.Core.Path.{sym, ◌∙◌}
use Rattle.drafts.specs.Drafts.{task_in_range}
use Rattle.draftwords.proofs.Headed.{no_period}
use Rattle.totals.proofs.task_in_range.Goals as goal

pub returns-then-period-eq0 : goal.returns-then-period-eq0
returns-then-period-eq0 c = no_period c.args.words.now c.args.task (sym c.task_period-period.ensures ∙ c.if-period-eq0.true)

pub returns : goal.returns
unfolding task_in_range
returns c = cc
