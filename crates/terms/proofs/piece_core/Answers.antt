use mathlib.Core.Path.{refl}
use Rattle.plan.specs.declared.Table.TheVariants.{Pieces}
use Rattle.plan.specs.Questions.{piece_core}
use Rattle.terms.proofs.piece_core.Goals as goal

-- src/lib.rt:84:5
pub core_of-requires : goal.core_of-requires
core_of-requires c = let p = c.requires in (p.0, rw c.piece_at.ensures (p.0.names Pieces c.args.piece p.1))

-- src/lib.rt:80:1
pub returns : goal.returns
unfolding piece_core
returns c = rw (c.core_of.ensures, c.piece_at.ensures) refl
