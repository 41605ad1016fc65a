use mathlib.Core.Path.{refl}
use native.Mathlib.Omega.{arith}
use Rattle.plan.specs.Image.{shape, core}
use Rattle.tables.proofs.core_at.Goals as goal

-- src/lib.rt:121:19
pub field_of-requires : goal.field_of-requires
unfolding shape
field_of-requires c = let p = c.requires in record { in_image = p.in_image; row_bound = (p.row_bound, omega arith) }

-- src/lib.rt:122:16
pub field_of-requires-2 : goal.field_of-requires-2
unfolding shape
field_of-requires-2 c = let p = c.requires in record { in_image = p.in_image; row_bound = (p.row_bound, omega arith) }

-- src/lib.rt:123:16
pub field_of-requires-3 : goal.field_of-requires-3
unfolding shape
field_of-requires-3 c = let p = c.requires in record { in_image = p.in_image; row_bound = (p.row_bound, omega arith) }

-- src/lib.rt:115:5
pub returns : goal.returns
unfolding core
returns c = rw (c.field_of-3.ensures, c.field_of-2.ensures, c.field_of.ensures) refl
