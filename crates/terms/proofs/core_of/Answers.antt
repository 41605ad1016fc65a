use mathlib.Core.Path.{refl}
use Rattle.plan.specs.declared.Table.TheVariants.{Tasks}
use Rattle.plan.specs.Questions.{core_of}
use Rattle.terms.proofs.core_of.Goals as goal

-- src/lib.rt:27:5
pub vcpu_at-requires : goal.vcpu_at-requires
vcpu_at-requires c = let p = c.requires in record { in_image = p.0.inside; row_bound = rw c.task_at-vcpu.ensures (p.0.names Tasks c.args.task p.1) }

-- src/lib.rt:22:1
pub returns : goal.returns
unfolding core_of
returns c = rw (c.vcpu_at.ensures, c.task_at-vcpu.ensures) refl
