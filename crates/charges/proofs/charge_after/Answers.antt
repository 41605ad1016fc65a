use mathlib.Core.Path.{◌≡◌, sym, ap, ◌∙◌}
use native.Mathlib.Omega.{arith}
use Rattle.plan.specs.declared.Window.{Window}
use Rattle.plan.specs.Image.{window}
use Rattle.charges.proofs.Keeping.{core_exists, pays_at_0, keeps, pays}
use Rattle.charges.proofs.charge_after.Goals as goal

-- src/lib.rt:35:13
pub core_at-v-requires : goal.core_at-v-requires
core_at-v-requires c = let p = c.requires in record { in_image = p.0.inside; row_bound = rw c.window_core.ensures (core_exists _ p.0 _ p.1.0) }

-- src/lib.rt:37:9
pub returns-then-start-eq0 : goal.returns-then-start-eq0
returns-then-start-eq0 c = let a = c.args in let p = c.requires in let s = a.image.now in let w = a.window in let e = c.window_at-w.ensures in rw (c.core_at-v.ensures, c.window_core.ensures) (pays_at_0 s p.0 w p.1.0 (rw (← e) c.if-start-eq0.true))

-- src/lib.rt:40:9
pub returns-then-start-latest-2 : goal.returns-then-start-latest-2
returns-then-start-latest-2 c = let a = c.args in let p = c.requires in let s = a.image.now in let w = a.window in let e = c.window_at-w.ensures in keeps s p.0 w p.1.0 (sym p.1.1 ∙ sym c.if-start-latest-2.true ∙ ap (λ (x : Window). x.start) e) (let z = c.if-start-eq0.false in let y : (window s w).start ≡ _ = sym (ap (λ (x : Window). x.start) e) in omega arith)

-- src/lib.rt:23:1
pub returns : goal.returns
returns c = let a = c.args in let p = c.requires in let s = a.image.now in let w = a.window in let e = c.window_at-w.ensures in let x : (window s w).start ≡ _ = sym (ap (λ (x : Window). x.start) e) in let y : (window s w).length ≡ _ = sym (ap (λ (x : Window). x.length) e) in rw (c.core_at-v.ensures, c.window_core.ensures) (pays s p.0 w p.1.0 (omega (arith, p.1.1, c.if-start-latest-2.false, c.if-start-latest.false)) (omega (arith, c.if-w-eq0.false)))
