use mathlib.Core.Path.{refl}
use native.Mathlib.Omega.{arith}
use Rattle.plan.specs.declared.Table.TheVariants.{Buffers}
use Rattle.plan.specs.Questions.{same_buffer}
use Rattle.buffers.proofs.same_buffer.Goals as goal

pub node_of-requires : goal.node_of-requires
node_of-requires c = let p = c.requires in (p.0, rw c.buffer_at-a.ensures (p.0.names Buffers c.args.lower (let q = p.1 in omega arith)).0)

pub node_of-requires-2 : goal.node_of-requires-2
node_of-requires-2 c = let p = c.requires in (p.0, rw c.buffer_at-b.ensures (p.0.names Buffers c.args.row p.1.1).0)

pub returns : goal.returns
unfolding same_buffer
returns c = rw (c.buffer_at-a.ensures, c.buffer_at-b.ensures, c.node_of.ensures, c.node_of-2.ensures, c.buffer_at-a.ensures, c.buffer_at-b.ensures) refl
