use mathlib.Core.Path.{refl, sym, ◌∙◌}
use Rattle.terms.proofs.Naming.{window_core_below}
use Rattle.terms.proofs.Charges.{pays_at_zero, pays_alone, keeps}
use Rattle.terms.proofs.charge_of.Goals as goal

-- src/lib.rt:125:13
pub core_at-v-requires : goal.core_at-v-requires
core_at-v-requires c = let p = c.requires in let a = c.args in record { in_image = p.0.inside; row_bound = rw c.window_core.ensures (window_core_below a.image.now p.0 a.window p.1) }

-- src/lib.rt:127:9
pub returns-then-window_at-eq0 : goal.returns-then-window_at-eq0
returns-then-window_at-eq0 c = let a = c.args in (rw (c.core_at-v.ensures, c.window_core.ensures) refl) ∙ sym (pays_at_zero a.image.now a.window (rw (← c.window_at.ensures) c.if-window_at-eq0.true))

-- src/lib.rt:130:9
pub returns-then-follows_another : goal.returns-then-follows_another
returns-then-follows_another c = let a = c.args in sym (keeps a.image.now a.window (rw (← c.window_at.ensures) c.if-window_at-eq0.false) (sym c.follows_another.ensures ∙ c.if-follows_another.true))

-- src/lib.rt:121:1
pub returns : goal.returns
returns c = let a = c.args in (rw (c.core_at-v.ensures, c.window_core.ensures) refl) ∙ sym (pays_alone a.image.now a.window (sym c.follows_another.ensures ∙ c.if-follows_another.false))
