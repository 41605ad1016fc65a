use mathlib.Core.Path.{refl}
use Rattle.plan.specs.Questions.{node_of}
use Rattle.terms.proofs.Naming.{core_below}
use Rattle.terms.proofs.node_of.Goals as goal

-- src/lib.rt:35:5
pub core_at-requires : goal.core_at-requires
core_at-requires c = let p = c.requires in let a = c.args in record { in_image = p.0.inside; row_bound = rw c.core_of.ensures (core_below a.image.now p.0 a.task p.1) }

-- src/lib.rt:31:1
pub returns : goal.returns
unfolding node_of
returns c = rw (c.core_at.ensures, c.core_of.ensures) refl
