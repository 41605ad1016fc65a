use Rattle.stretches.proofs.Small.{window_small, charged_small}
use Rattle.stretches.specs.Stretches.{window_stretch}
use Rattle.plan.specs.Questions.{window_end}
use Rattle.plan.specs.declared.Window.{Window}
use Rattle.plan.proofs.Sounds.{accepted_sound}
use native.Mathlib.Omega.{arith}
use mathlib.Core.Path.{refl, ap}
use Rattle.stretches.proofs.window_stretch.Goals as goal

pub window_at-w-requires : goal.window_at-w-requires
window_at-w-requires c = let p = c.requires in record { in_image = (accepted_sound _ p.0).inside; row_bound = p.1.1 }

pub charge_at-requires : goal.charge_at-requires
charge_at-requires c = let p = c.requires in (p.1.0, (accepted_sound _ p.0, p.1.1))

pub overflow_add-result : goal.overflow_add-result
overflow_add-result c = let p = c.requires in let a = c.args in omega (arith, ap (λ (q : Window). q.start) c.window_at-w.ensures, c.charge_at.ensures, charged_small a.image.now p.0 a.window p.1.1)

pub overflow_add-w : goal.overflow_add-w
overflow_add-w c = let f = c.window_at-w.ensures in let p = c.requires in let a = c.args in omega (arith, ap (λ (q : Window). q.start) f, ap (λ (q : Window). q.length) f, window_small a.image.now p.0 a.window p.1.1)

pub returns : goal.returns
unfolding window_stretch window_end
returns c = rw (c.min.ensures, c.charge_at.ensures, c.window_at-w.ensures) refl
