use Prim.Native.Nat.{◌<◌}
use mathlib.Core.Path.{refl, ap, ◌∙◌}
use native.Mathlib.Omega.{arith}
use Rattle.plan.specs.Image.{rows}
use Rattle.plan.specs.Search.{first_no}
use Rattle.places.specs.Places.{table_for}
use Rattle.clashes.proofs.Clashing.{none_before, place_inside, clash, clear_on, ends_on}
use Rattle.clashes.proofs.clash_after.Goals as goal

pub loop-row-init : goal.loop-row-init
unfolding first_no
loop-row-init c = let a = c.args in let h = c.requires in let s = a.image.now in let o = a.occupant in (none_before s h.0 o a.ends.now h.1.1, refl)

pub bounds-ends-place : goal.bounds-ends-place
bounds-ends-place c = let a = c.args in let s = a.image.now in let o = a.occupant in let h = c.requires in let l = c.loop-row in let t = c.loop-row-test.true in let i : l.row < rows s (table_for o) = omega (arith, c.rows_of-rows.ensures ∙ ap (rows c.args.image.now) c.table_for.ensures, t) in rw c.place_of-place.ensures (place_inside s h.0 o h.1.0 l.ends l.row i l.invariant.0)

pub returns-then-from_of-ends : goal.returns-then-from_of-ends
returns-then-from_of-ends c = let a = c.args in let s = a.image.now in let o = a.occupant in let h = c.requires in let l = c.loop-row in let t = c.loop-row-test.true in let i : l.row < rows s (table_for o) = omega (arith, c.rows_of-rows.ensures ∙ ap (rows c.args.image.now) c.table_for.ensures, t) in clash s h.0 o h.1.0 l.ends l.row i l.invariant.0 l.invariant.1 (rw (← c.place_of-place.ensures, ← c.from_of.ensures) c.if-from_of-ends.true)

pub raise-requires : goal.raise-requires
raise-requires c = let a = c.args in let s = a.image.now in let o = a.occupant in let h = c.requires in let l = c.loop-row in let t = c.loop-row-test.true in let i : l.row < rows s (table_for o) = omega (arith, c.rows_of-rows.ensures ∙ ap (rows c.args.image.now) c.table_for.ensures, t) in rw c.place_of-place.ensures (place_inside s h.0 o h.1.0 l.ends l.row i l.invariant.0)

pub loop-row-preserved : goal.loop-row-preserved
loop-row-preserved c = let a = c.args in let s = a.image.now in let o = a.occupant in let h = c.requires in let l = c.loop-row in let t = c.loop-row-test.true in let i : l.row < rows s (table_for o) = omega (arith, c.rows_of-rows.ensures ∙ ap (rows c.args.image.now) c.table_for.ensures, t) in let e = c.place_of-place.ensures in let f = c.from_of.ensures in let g = c.raise in (rw (g.ensures, e, c.to_of.ensures) (ends_on s h.0 o h.1.0 l.ends l.row i l.invariant.0), clear_on s h.0 o h.1.0 l.ends l.row i l.invariant.0 l.invariant.1 (rw (← e, ← f) c.if-from_of-ends.false))
