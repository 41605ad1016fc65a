use Prim.Native.Nat.{ℕ}
use mathlib.Core.Path.{◌≡◌, subst}
use native.Mathlib.Omega.{arith}
use Rattle.plan.specs.declared.Table.TheVariants.{Frames}
use Rattle.plan.specs.Image.{rows}
use Rattle.plan.proofs.Sounds.{accepted_sound}
use Rattle.opening.specs.Listings.{Walked}
use Rattle.opening.proofs.Sending.{walked_none}
use Rattle.opening.proofs.send_all.Goals as goal

-- src/lib.rt:129:9
pub rows_of-frames-requires : goal.rows_of-frames-requires
rows_of-frames-requires c = (accepted_sound _ c.requires.0).inside.trailer

-- src/lib.rt:137:5
pub loop-frame-init : goal.loop-frame-init
loop-frame-init c = let a = c.args in (c.rows_of-frames.ensures, walked_none a.image.now c.requires.0 a.link a.list.now)

-- src/lib.rt:138:9
pub take_in-at-requires : goal.take_in-at-requires
take_in-at-requires c = let a = c.args in let p = c.requires in let l = c.loop-frame in record { image_value = (p.0, omega (arith, l.invariant.0, c.loop-frame-test.true)); walking = record { lent = a.list.now; words = p.1; walked = l.invariant.1 } }

-- src/lib.rt:137:5
pub loop-frame-preserved : goal.loop-frame-preserved
loop-frame-preserved c = let a = c.args in let p = c.requires in let l = c.loop-frame in (l.invariant.0, c.take_in-at.ensures.walked a.list.now p.1 l.invariant.1)

-- src/lib.rt:125:1
pub returns : goal.returns
returns c = let a = c.args in let l = c.loop-frame in let e : l.frame ≡ rows a.image.now Frames = omega (arith, l.invariant.0, c.loop-frame-test.false, l.auto) in subst (λ (n : ℕ). Walked a.image.now a.link a.list.now n l.list l.at) e l.invariant.1
