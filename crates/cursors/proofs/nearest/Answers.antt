use Rattle.cursors.proofs.Looking.{taken, free_to, free_end}
use Rattle.cursors.specs.Taken.{FreeFrom}
use Rattle.plan.proofs.Facts.{facts}
use Rattle.plan.proofs.Sounds.{accepted_sound}
use Rattle.plan.specs.Image.{rows}
use native.Mathlib.Omega.{arith}
use mathlib.Core.Path.{sym, ap, subst, ◌∙◌}
use Rattle.cursors.proofs.nearest.Goals as goal

-- src/lib.rt:87:14
pub rows_of-requires : goal.rows_of-requires
rows_of-requires c = (accepted_sound _ c.requires.0).inside.trailer

-- src/lib.rt:88:13
pub from_of-from-requires : goal.from_of-from-requires
from_of-from-requires c = let e = c.rows_of.ensures ∙ ap (rows (c.args.image.now)) c.table_for.ensures in (accepted_sound _ c.requires.0, omega (arith, e, c.if-row-rows_of.true))

-- src/lib.rt:90:13
pub returns-then-from-tick : goal.returns-then-from-tick
returns-then-from-tick c = let e = c.rows_of.ensures ∙ ap (rows (c.args.image.now)) c.table_for.ensures in let a = c.args in let p = c.requires in taken a.image.now a.occupant a.place a.tick a.row p.1.1 (facts _ p.0) (omega (arith, e, c.if-row-rows_of.true)) (omega (arith, c.from_of-from.ensures, c.if-from-tick.true))

-- src/lib.rt:92:9
pub returns-then-row-rows_of : goal.returns-then-row-rows_of
returns-then-row-rows_of c = let e = c.rows_of.ensures ∙ ap (rows (c.args.image.now)) c.table_for.ensures in let a = c.args in let p = c.requires in let v = c.from_of-from.ensures in subst (FreeFrom a.image.now a.occupant a.place a.tick) (sym v) (free_to a.image.now a.occupant a.place a.tick a.row p.1.1 (accepted_sound _ p.0) (facts _ p.0) (omega (arith, e, c.if-row-rows_of.true)) (omega (arith, v, c.if-from-tick.false)))

-- src/lib.rt:94:16
pub cycle_ticks-requires : goal.cycle_ticks-requires
cycle_ticks-requires c = (accepted_sound _ c.requires.0).inside.trailer

-- src/lib.rt:83:1
pub returns : goal.returns
returns c = let e = c.rows_of.ensures ∙ ap (rows (c.args.image.now)) c.table_for.ensures in let a = c.args in let p = c.requires in subst (FreeFrom a.image.now a.occupant a.place a.tick) (sym c.cycle_ticks.ensures) (free_end a.image.now a.occupant a.place a.tick a.row p.1.1 p.1.0 (omega (arith, e, c.if-row-rows_of.false)))
