use mathlib.Core.Path.{refl}
use native.Mathlib.Omega.{arith}
use Rattle.plan.specs.Image.{shape, chain}
use Rattle.tables.proofs.chain_at.Goals as goal

-- src/lib.rt:270:21
pub field_of-requires : goal.field_of-requires
unfolding shape
field_of-requires c = let p = c.requires in record { in_image = p.in_image; row_bound = (p.row_bound, omega arith) }

-- src/lib.rt:271:21
pub field_of-requires-2 : goal.field_of-requires-2
unfolding shape
field_of-requires-2 c = let p = c.requires in record { in_image = p.in_image; row_bound = (p.row_bound, omega arith) }

-- src/lib.rt:272:21
pub field_of-requires-3 : goal.field_of-requires-3
unfolding shape
field_of-requires-3 c = let p = c.requires in record { in_image = p.in_image; row_bound = (p.row_bound, omega arith) }

-- src/lib.rt:264:5
pub returns : goal.returns
unfolding chain
returns c = rw (c.field_of-3.ensures, c.field_of-2.ensures, c.field_of.ensures) refl
