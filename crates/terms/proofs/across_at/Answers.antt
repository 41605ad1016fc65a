use mathlib.Core.Path.{ap, refl}
use native.Mathlib.Omega.{arith}
use Rattle.plan.specs.declared.Frame.{Frame}
use Rattle.plan.specs.Questions.{frame_end}
use Rattle.terms.proofs.Naming.{send_most}
use Rattle.plan.specs.declared.Table.TheVariants.{Frames}
use Rattle.plan.specs.Questions.{across}
use Rattle.terms.proofs.across_at.Goals as goal

-- src/lib.rt:137:31
pub link_at-requires : goal.link_at-requires
link_at-requires c = let p = c.requires in record { in_image = p.0.inside; row_bound = rw c.frame_at-link.ensures (p.0.names Frames c.args.frame p.1).1 }

-- src/lib.rt:137:5
pub overflow_add-result : goal.overflow_add-result
unfolding frame_end
overflow_add-result c = let f = c.frame_at-link in let a = c.args in let p = c.requires in let e = ap (λ (x : Frame). x.start) f.ensures in let g = c.frame_end.ensures in omega (arith, f.type_inv, c.link_at.type_inv, send_most a.image.now p.0 a.frame p.1, f.type_inv)

-- src/lib.rt:137:5
pub overflow_add-result-2 : goal.overflow_add-result-2
unfolding frame_end
overflow_add-result-2 c = let f = c.frame_at-link in let a = c.args in let p = c.requires in let e = ap (λ (x : Frame). x.start) f.ensures in let g = c.frame_end.ensures in omega (arith, f.type_inv, c.link_at.type_inv, send_most a.image.now p.0 a.frame p.1, f.type_inv, c.precision_ticks.type_inv)

-- src/lib.rt:132:1
pub returns : goal.returns
unfolding across
returns c = rw (c.precision_ticks.ensures, c.link_at.ensures, c.frame_end.ensures, c.frame_at-link.ensures) refl
