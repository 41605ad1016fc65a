use Prim.Native.Nat.{◌<◌}
use native.Mathlib.Omega.{arith}
use Rattle.plan.specs.declared.Table.TheVariants.{Windows}
use Rattle.plan.specs.Image.{rows, shape}
use Rattle.charges.proofs.Charging.{charged_none, charged_more}
use Rattle.charges.proofs.Keeping.{none_ended, vcpu_inside, end_read, ended_on}
use Rattle.charges.proofs.gather_after.Goals as goal

pub loop-window-init : goal.loop-window-init
loop-window-init c = let a = c.args in let p = c.requires in let s = a.image.now in (charged_none s a.charges.now p.1.0, none_ended s p.0 a.ends.now p.1.1)

pub bounds-ends-vcpu : goal.bounds-ends-vcpu
bounds-ends-vcpu c = let a = c.args in let s = a.image.now in let p = c.requires in let l = c.loop-window in let i : l.window < rows s Windows = omega (arith, c.rows_of-windows.ensures) in rw c.window_at-vcpu.ensures (vcpu_inside s p.0 l.ends l.window i l.invariant.1)

pub charge_after-requires : goal.charge_after-requires
charge_after-requires c = let a = c.args in let s = a.image.now in let p = c.requires in let l = c.loop-window in let i : l.window < rows s Windows = omega (arith, c.rows_of-windows.ensures) in (p.0, (i, rw c.window_at-vcpu.ensures (end_read s p.0 l.ends l.window i l.invariant.1)))

pub bounds-charges-window : goal.bounds-charges-window
unfolding shape
bounds-charges-window c = let a = c.args in let s = a.image.now in let p = c.requires in let l = c.loop-window in let i : l.window < rows s Windows = omega (arith, c.rows_of-windows.ensures) in let m = p.0.inside.counts Windows in let e = l.invariant.0.size in omega (arith, i)

pub raise-requires : goal.raise-requires
raise-requires c = let a = c.args in let s = a.image.now in let p = c.requires in let l = c.loop-window in let i : l.window < rows s Windows = omega (arith, c.rows_of-windows.ensures) in rw c.window_at-vcpu.ensures (vcpu_inside s p.0 l.ends l.window i l.invariant.1)

pub loop-window-preserved : goal.loop-window-preserved
unfolding shape
loop-window-preserved c = let a = c.args in let s = a.image.now in let p = c.requires in let l = c.loop-window in let i : l.window < rows s Windows = omega (arith, c.rows_of-windows.ensures) in let m = p.0.inside.counts Windows in let e = c.window_at-vcpu.ensures in let g = c.raise in (rw c.charge_after.ensures (charged_more s l.charges l.window (omega (arith, i)) l.invariant.0), rw (g.ensures, e, c.window_end.ensures) (ended_on s p.0 l.ends l.window i l.invariant.1))
