use Rattle.cursors.proofs.Looking.{cursor_first}
use Rattle.plan.specs.Dispatch.{lanes}
use Rattle.plan.specs.Image.{shape}
use Rattle.plan.specs.declared.Table.TheVariants.{Cores, Links}
use Rattle.places.specs.declared.Occupant.TheVariants.{Piece, Window, Frame}
use Rattle.plan.proofs.Sounds.{accepted_sound}
use native.Mathlib.Omega.{arith}
use Rattle.cursors.proofs.first_cursors.Goals as goal

-- src/lib.rt:330:9
pub rows_of-cores-requires : goal.rows_of-cores-requires
rows_of-cores-requires c = (accepted_sound _ c.requires.0).inside.trailer

-- src/lib.rt:333:20
pub first_at-requires : goal.first_at-requires
unfolding shape
first_at-requires c = let p = c.requires in let m = (accepted_sound _ p.0).inside.counts Cores in (p.1.0, omega (arith, m, c.rows_of-cores.ensures, c.if-lane-cores.true))

-- src/lib.rt:334:21
pub first_at-requires-then-lane-cores : goal.first_at-requires-then-lane-cores
unfolding shape
first_at-requires-then-lane-cores c = let p = c.requires in let m = (accepted_sound _ p.0).inside.counts Cores in (p.1.0, omega (arith, m, c.rows_of-cores.ensures, c.if-lane-cores.true))

-- src/lib.rt:341:20
pub first_at-requires-else-lane-cores : goal.first_at-requires-else-lane-cores
unfolding shape lanes
first_at-requires-else-lane-cores c = let p = c.requires in let m = (accepted_sound _ p.0).inside.counts Links in (p.1.0, omega (arith, m, c.rows_of-cores.ensures, c.if-lane-cores.false, p.1.1))

-- src/lib.rt:326:1
pub returns-then-lane-cores : goal.returns-then-lane-cores
returns-then-lane-cores c = let a = c.args in let s = a.image.now in record { core = λ b. (cursor_first s Piece a.lane 0 _ c.first_at.ensures, cursor_first s Window a.lane 0 _ c.first_at-then-lane-cores.ensures); link = λ b. absurd (omega (arith, c.rows_of-cores.ensures, c.if-lane-cores.true)) }

-- src/lib.rt:326:1
pub returns-else-lane-cores : goal.returns-else-lane-cores
returns-else-lane-cores c = let a = c.args in let s = a.image.now in record { core = λ b. absurd (omega (arith, c.rows_of-cores.ensures, c.if-lane-cores.false)); link = λ b. rw (← c.rows_of-cores.ensures) (cursor_first s Frame _ 0 _ c.first_at-else-lane-cores.ensures) }
