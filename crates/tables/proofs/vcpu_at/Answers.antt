use mathlib.Core.Path.{refl}
use native.Mathlib.Omega.{arith}
use Rattle.plan.specs.Image.{shape, vcpu}
use Rattle.tables.proofs.vcpu_at.Goals as goal

-- src/lib.rt:139:19
pub field_of-requires : goal.field_of-requires
unfolding shape
field_of-requires c = let p = c.requires in record { in_image = p.in_image; row_bound = (p.row_bound, omega arith) }

-- src/lib.rt:133:5
pub returns : goal.returns
unfolding vcpu
returns c = rw c.field_of.ensures refl
