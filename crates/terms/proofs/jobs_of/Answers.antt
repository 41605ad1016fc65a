use mathlib.Core.Path.{refl}
use Rattle.plan.specs.declared.Table.TheVariants.{Tasks}
use Rattle.plan.specs.Questions.{jobs}
use Rattle.terms.proofs.jobs_of.Goals as goal

-- src/lib.rt:43:5
pub nonzero_div-result : goal.nonzero_div-result
nonzero_div-result c = let p = c.requires in rw c.task_at.ensures (p.0.ranges Tasks c.args.task p.1).0

-- src/lib.rt:39:1
pub returns : goal.returns
unfolding jobs
returns c = rw (c.task_at.ensures, c.cycle_ticks.ensures) refl
