use mathlib.Core.Path.{refl}
use Rattle.tables.proofs.refusal.Goals as goal

-- src/lib.rt:83:1
pub returns : goal.returns
returns c = rw c.shape_of.ensures refl
