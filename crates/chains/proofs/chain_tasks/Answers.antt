use mathlib.Core.Path.{refl}
use Rattle.plan.specs.Questions.{chain_tasks}
use Rattle.chains.proofs.chain_tasks.Goals as goal

pub returns : goal.returns
unfolding chain_tasks
returns c = rw (c.rows_of-tasks.ensures, c.chain_at-c.ensures) refl
