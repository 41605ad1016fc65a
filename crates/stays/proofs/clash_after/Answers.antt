use Prim.Native.Nat.{◌<◌}
use mathlib.Core.Path.{refl}
use native.Mathlib.Omega.{arith}
use Rattle.plan.specs.declared.Table.TheVariants.{Frames}
use Rattle.plan.specs.Image.{rows}
use Rattle.plan.specs.Search.{first_no}
use Rattle.stays.proofs.Staying.{none_before, place_inside, clash, clear_on, ends_on}
use Rattle.stays.proofs.clash_after.Goals as goal

pub loop-frame-init : goal.loop-frame-init
unfolding first_no
loop-frame-init c = let a = c.args in let h = c.requires in (none_before a.image.now a.times.now a.index.now h.0 a.ends.now h.1, refl)

pub bounds-ends-place : goal.bounds-ends-place
bounds-ends-place c = let a = c.args in let s = a.image.now in let w = c.requires.0 in let l = c.loop-frame in let i : l.frame < rows s Frames = omega (arith, c.rows_of-frames.ensures, c.loop-frame-test.true) in rw c.place_of-place.ensures (place_inside s a.times.now a.index.now w l.ends l.frame i l.invariant.0)

pub returns-then-stay_from-ends : goal.returns-then-stay_from-ends
returns-then-stay_from-ends c = let a = c.args in let s = a.image.now in let w = c.requires.0 in let l = c.loop-frame in let i : l.frame < rows s Frames = omega (arith, c.rows_of-frames.ensures, c.loop-frame-test.true) in clash s a.times.now a.index.now w l.ends l.frame i l.invariant.0 l.invariant.1 (rw (← c.place_of-place.ensures, ← c.stay_from.ensures) c.if-stay_from-ends.true)

pub raise-requires : goal.raise-requires
raise-requires c = let a = c.args in let s = a.image.now in let w = c.requires.0 in let l = c.loop-frame in let i : l.frame < rows s Frames = omega (arith, c.rows_of-frames.ensures, c.loop-frame-test.true) in rw c.place_of-place.ensures (place_inside s a.times.now a.index.now w l.ends l.frame i l.invariant.0)

pub loop-frame-preserved : goal.loop-frame-preserved
loop-frame-preserved c = let a = c.args in let s = a.image.now in let w = c.requires.0 in let l = c.loop-frame in let i : l.frame < rows s Frames = omega (arith, c.rows_of-frames.ensures, c.loop-frame-test.true) in let e = c.place_of-place.ensures in let f = c.stay_from.ensures in let g = c.raise in (rw (g.ensures, e, c.frame_end.ensures) (ends_on s a.times.now a.index.now w l.ends l.frame i l.invariant.0), clear_on s a.times.now a.index.now w l.ends l.frame i l.invariant.0 l.invariant.1 (rw (← e, ← f) c.if-stay_from-ends.false))
