use mathlib.Core.Path.{refl}
use Rattle.plan.specs.declared.Table.TheVariants.{Pieces}
use Rattle.inside.specs.Holders.{vcpu_of}
use Rattle.inside.proofs.vcpu_of.Goals as goal

-- src/lib.rt:73:5
pub task_at-requires : goal.task_at-requires
task_at-requires c = let p = c.requires in record { in_image = p.0.inside; row_bound = rw c.piece_at.ensures (p.0.names Pieces c.args.piece p.1) }

-- src/lib.rt:69:1
pub returns : goal.returns
unfolding vcpu_of
returns c = rw (c.task_at.ensures, c.piece_at.ensures) refl
