use Prim.Native.Nat.{suc, ◌<◌, ◌-◌}
use mathlib.Core.Path.{◌≡◌, subst, ap, ◌∙◌}
use native.Mathlib.Omega.{arith}
use Rattle.plan.specs.Image.{rows}
use Rattle.places.specs.Places.{table_for}
use Rattle.places.specs.Index.{Linked}
use Rattle.places.proofs.Linking.{place_small, row_small, linked_more, untouched_more}
use Rattle.places.proofs.link_rows.Goals as goal

pub link-requires : goal.link-requires
link-requires c = let a = c.args in let p = c.requires in let l = c.loop-row in let s = a.image.now in let e = c.rows_of-rows.ensures ∙ ap (rows s) c.table_for.ensures in let b : l.row - 1 < rows s (table_for a.occupant) = omega (arith, e) in let r = row_small s p.sound a.occupant (l.row - 1) b in (l.invariant.0.size, (rw c.place_of-place.ensures (place_small s p.sound a.occupant (l.row - 1) b), (omega (arith, c.base_of-base.ensures, r.0), r.1)))

pub loop-row-preserved : goal.loop-row-preserved
loop-row-preserved c = let a = c.args in let p = c.requires in let l = c.loop-row in let s = a.image.now in let o = a.occupant in let n = c.rows_of-rows.ensures ∙ ap (rows s) c.table_for.ensures in let b : l.row - 1 < rows s (table_for o) = omega (arith, n) in let e : l.row ≡ suc (l.row - 1) = omega arith in let g = subst (Linked s o l.index) e l.invariant.0 in (rw (c.link.ensures, c.place_of-place.ensures, c.base_of-base.ensures) (linked_more s o p.sound l.index (l.row - 1) b g), rw (c.link.ensures, c.place_of-place.ensures, c.base_of-base.ensures) (untouched_more s o p.sound l.index (l.row - 1) b g a.index.now l.invariant.1))

pub returns : goal.returns
returns c = let a = c.args in let l = c.loop-row in let e : l.row ≡ 0 = omega arith in (subst (Linked a.image.now a.occupant l.index) e l.invariant.0, l.invariant.1)
