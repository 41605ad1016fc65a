use Rattle.cursors.proofs.Looking.{cursor_next, current_end, current_row}
use Rattle.plan.specs.Image.{rows}
use native.Mathlib.Omega.{arith}
use mathlib.Core.Path.{ap, ◌∙◌}
use Rattle.cursors.proofs.move_on.Goals as goal

-- src/lib.rt:65:31
pub table_for-requires : goal.table_for-requires
table_for-requires c = tt

-- src/lib.rt:65:9
pub rows_of-rows-requires : goal.rows_of-rows-requires
rows_of-rows-requires c = c.requires.0.inside.trailer

-- src/lib.rt:67:5
pub loop-at-init : goal.loop-at-init
loop-at-init c = c.requires.1.1

-- src/lib.rt:68:28
pub to_of-requires : goal.to_of-requires
to_of-requires c = let e = c.rows_of-rows.ensures ∙ ap (rows (c.args.image.now)) c.table_for.ensures in (c.requires.0, omega (arith, e, c.loop-at-test.true))

-- src/lib.rt:69:13
pub returns-then-tick-to_of : goal.returns-then-tick-to_of
returns-then-tick-to_of c = let a = c.args in current_row a.image.now a.occupant a.place c.loop-at.invariant (omega (arith, c.to_of.ensures, c.if-tick-to_of.true))

-- src/lib.rt:71:9
pub next_at-at-requires : goal.next_at-at-requires
next_at-at-requires c = let e = c.rows_of-rows.ensures ∙ ap (rows (c.args.image.now)) c.table_for.ensures in let p = c.requires in (p.1.0, (p.0, omega (arith, e, c.loop-at-test.true)))

-- src/lib.rt:67:5
pub loop-at-smaller : goal.loop-at-smaller
loop-at-smaller c = omega (arith, c.next_at-at.ensures.from, c.loop-at-test.true)

-- src/lib.rt:67:5
pub loop-at-preserved : goal.loop-at-preserved
loop-at-preserved c = let e = c.rows_of-rows.ensures ∙ ap (rows (c.args.image.now)) c.table_for.ensures in let a = c.args in cursor_next a.image.now a.occupant a.place c.loop-at.invariant (omega (arith, e, c.loop-at-test.true)) (omega (arith, c.to_of.ensures, c.if-tick-to_of.false)) c.next_at-at.ensures

-- src/lib.rt:61:1
pub returns : goal.returns
returns c = let e = c.rows_of-rows.ensures ∙ ap (rows (c.args.image.now)) c.table_for.ensures in let a = c.args in current_end a.image.now a.occupant a.place c.loop-at.invariant (omega (arith, e, c.loop-at-test.false))
