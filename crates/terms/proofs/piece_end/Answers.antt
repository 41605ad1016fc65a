use mathlib.Core.Path.{refl}
use Rattle.plan.specs.Questions.{piece_end}
use Rattle.terms.proofs.piece_end.Goals as goal

-- src/lib.rt:87:1
pub returns : goal.returns
unfolding piece_end
returns c = rw c.piece_at-p.ensures refl
