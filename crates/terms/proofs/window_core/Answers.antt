use mathlib.Core.Path.{refl}
use Rattle.plan.specs.declared.Table.TheVariants.{Windows}
use Rattle.plan.specs.Questions.{window_core}
use Rattle.terms.proofs.window_core.Goals as goal

-- src/lib.rt:60:5
pub vcpu_at-requires : goal.vcpu_at-requires
vcpu_at-requires c = let p = c.requires in record { in_image = p.0.inside; row_bound = rw c.window_at-vcpu.ensures (p.0.names Windows c.args.window p.1) }

-- src/lib.rt:55:1
pub returns : goal.returns
unfolding window_core
returns c = rw (c.vcpu_at.ensures, c.window_at-vcpu.ensures) refl
