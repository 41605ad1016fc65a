use mathlib.Core.Path.{refl, ◌∙◌}
use Rattle.plan.specs.Questions.{chain_path}
use Rattle.paths.specs.Walks.{leads_to}
use Rattle.paths.proofs.Leading.{tasks_of, fresh}
use Rattle.paths.proofs.chain_path.Goals as goal

-- src/lib.rt:92:5
pub from_task-requires : goal.from_task-requires
from_task-requires c = let a = c.args in let s = a.image.now in let p = c.requires in let e = c.chain_at-c.ensures in (p.0, (rw e (tasks_of s p.1.1 a.chain p.1.0).0, fresh s c.chain_at-c.result.last))

-- src/lib.rt:86:1
pub returns : goal.returns
unfolding chain_path leads_to
returns c = let e = c.chain_at-c.ensures in c.from_task.ensures.0 ∙ (rw e refl)
