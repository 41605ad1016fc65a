use mathlib.Core.Path.{refl}
use Rattle.plan.specs.declared.Table.TheVariants.{Buffers}
use Rattle.plan.specs.Questions.{buffer_ends}
use Rattle.buffers.proofs.buffer_ends.Goals as goal

pub task_at-requires : goal.task_at-requires
task_at-requires c = let p = c.requires in record { in_image = p.0.inside; row_bound = rw c.buffer_at-b.ensures (p.0.names Buffers c.args.row p.1).0 }

pub task_at-requires-2 : goal.task_at-requires-2
task_at-requires-2 c = let p = c.requires in record { in_image = p.0.inside; row_bound = rw c.buffer_at-b.ensures (p.0.names Buffers c.args.row p.1).1 }

pub node_of-requires : goal.node_of-requires
node_of-requires c = let p = c.requires in (p.0, rw c.buffer_at-b.ensures (p.0.names Buffers c.args.row p.1).0)

pub node_of-requires-2 : goal.node_of-requires-2
node_of-requires-2 c = let p = c.requires in (p.0, rw c.buffer_at-b.ensures (p.0.names Buffers c.args.row p.1).1)

pub returns : goal.returns
unfolding buffer_ends
returns c = rw (c.task_at.ensures, c.task_at-2.ensures, c.node_of.ensures, c.node_of-2.ensures, c.buffer_at-b.ensures) refl
