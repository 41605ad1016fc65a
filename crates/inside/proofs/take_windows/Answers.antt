use Prim.Native.Nat.{◌<◌}
use mathlib.Core.Path.{◌≡◌, ap}
use native.Mathlib.Omega.{arith}
use Rattle.plan.specs.declared.Window.{Window}
use Rattle.plan.specs.declared.Table.TheVariants.{Windows}
use Rattle.plan.specs.Image.{rows, window}
use Rattle.inside.proofs.Holding.{vcpu_inside, held_on, starting_on}
use Rattle.inside.proofs.take_windows.Goals as goal

pub bounds-last-w : goal.bounds-last-w
bounds-last-w c = let a = c.args in let s = a.image.now in let p = c.requires in let l = c.loop-window in let i : l.window < rows s Windows = omega (arith, c.rows_of-windows.ensures, c.loop-window-test.true) in rw c.window_at-w.ensures (vcpu_inside s p.sound.0 l.last l.window i l.invariant.0)

pub loop-window-preserved : goal.loop-window-preserved
loop-window-preserved c = let a = c.args in let s = a.image.now in let p = c.requires in let l = c.loop-window in let i : l.window < rows s Windows = omega (arith, c.rows_of-windows.ensures, c.loop-window-test.true) in let e : _ ≡ (window s l.window).start = (ap (λ (x : Window). x.start) c.window_at-w.ensures) in (rw c.window_at-w.ensures (held_on s p.sound.0 l.last l.window i l.invariant.0), starting_on s a.tick l.window l.invariant.1 (omega (arith, e, c.if-tick-w.false)))
