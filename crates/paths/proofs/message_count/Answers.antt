use mathlib.Core.Path.{refl}
use native.Mathlib.Omega.{arith}
use Rattle.plan.specs.Image.{shape}
use Rattle.plan.specs.declared.Table.TheVariants.{Streams, Buffers}
use Rattle.paths.specs.Walks.{messages}
use Rattle.paths.proofs.message_count.Goals as goal

-- src/lib.rt:19:5
pub overflow_add-result : goal.overflow_add-result
unfolding shape
overflow_add-result c = let p = c.requires in let a = c.rows_of.ensures in let b = c.rows_of-2.ensures in omega (arith, p.inside.counts Streams, p.inside.counts Buffers)

-- src/lib.rt:15:1
pub returns : goal.returns
unfolding messages
returns c = rw (c.rows_of.ensures, c.rows_of-2.ensures) refl
