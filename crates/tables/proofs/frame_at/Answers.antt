use mathlib.Core.Path.{refl}
use native.Mathlib.Omega.{arith}
use Rattle.plan.specs.Image.{shape, frame}
use Rattle.tables.proofs.frame_at.Goals as goal

-- src/lib.rt:250:21
pub field_of-requires : goal.field_of-requires
unfolding shape
field_of-requires c = let p = c.requires in record { in_image = p.in_image; row_bound = (p.row_bound, omega arith) }

-- src/lib.rt:251:18
pub field_of-requires-2 : goal.field_of-requires-2
unfolding shape
field_of-requires-2 c = let p = c.requires in record { in_image = p.in_image; row_bound = (p.row_bound, omega arith) }

-- src/lib.rt:252:18
pub field_of-requires-3 : goal.field_of-requires-3
unfolding shape
field_of-requires-3 c = let p = c.requires in record { in_image = p.in_image; row_bound = (p.row_bound, omega arith) }

-- src/lib.rt:253:19
pub field_of-requires-4 : goal.field_of-requires-4
unfolding shape
field_of-requires-4 c = let p = c.requires in record { in_image = p.in_image; row_bound = (p.row_bound, omega arith) }

-- src/lib.rt:254:20
pub field_of-requires-5 : goal.field_of-requires-5
unfolding shape
field_of-requires-5 c = let p = c.requires in record { in_image = p.in_image; row_bound = (p.row_bound, omega arith) }

-- src/lib.rt:244:5
pub returns : goal.returns
unfolding frame
returns c = rw (c.field_of-5.ensures, c.field_of-4.ensures, c.field_of-3.ensures, c.field_of-2.ensures, c.field_of.ensures) refl
