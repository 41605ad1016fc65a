use mathlib.Core.Path.{refl}
use Rattle.plan.specs.declared.Table.TheVariants.{Streams}
use Rattle.plan.specs.Questions.{stream_period}
use Rattle.terms.proofs.stream_period.Goals as goal

-- src/lib.rt:100:5
pub task_at-requires : goal.task_at-requires
task_at-requires c = let p = c.requires in record { in_image = p.0.inside; row_bound = rw c.stream_at.ensures (p.0.names Streams c.args.stream p.1).0 }

-- src/lib.rt:96:1
pub returns : goal.returns
unfolding stream_period
returns c = rw (c.task_at.ensures, c.stream_at.ensures) refl
