use mathlib.Core.Path.{refl}
use native.Mathlib.Omega.{arith}
use Rattle.plan.specs.declared.Table.TheVariants.{Cores}
use Rattle.plan.specs.Image.{shape}
use Rattle.plan.specs.Questions.{mask_allows}
use Rattle.terms.proofs.Naming.{core_below}
use Rattle.pieces.proofs.mask_allows.Goals as goal

-- src/lib.rt:64:6
pub overflow_shr-result : goal.overflow_shr-result
unfolding shape
overflow_shr-result c = let a = c.args in let p = c.requires in let e = c.core_of.ensures in omega (arith, core_below a.image.now p.0 a.task p.1, p.0.inside.counts Cores)

-- src/lib.rt:60:1
pub returns : goal.returns
unfolding mask_allows
returns c = rw (c.core_of.ensures, c.task_at.ensures) refl
