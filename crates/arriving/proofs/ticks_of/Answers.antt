use mathlib.Core.Path.{sym}
use native.Mathlib.Omega.{arith}
use Rattle.plan.specs.declared.Table.TheVariants.{Frames}
use Rattle.arrivals.specs.Arrivals.{earliest, latest}
use Rattle.plan.proofs.Sounds.{accepted_sound}
use Rattle.arrivals.proofs.Answers.{ticks_fit, given}
use Rattle.arriving.proofs.ticks_of.Goals as goal

pub frame_at-requires : goal.frame_at-requires
frame_at-requires c = let a = c.args in let p = c.requires in let s = a.image.now in record { in_image = (accepted_sound s p.0).inside; row_bound = p.1 }

pub link_at-link-requires : goal.link_at-link-requires
link_at-link-requires c = let a = c.args in let p = c.requires in let s = a.image.now in let w = accepted_sound s p.0 in record { in_image = w.inside; row_bound = rw c.frame_at.ensures (w.names Frames a.frame p.1).1 }

pub frame_end-end-requires : goal.frame_end-end-requires
frame_end-end-requires c = let a = c.args in let p = c.requires in let s = a.image.now in (accepted_sound s p.0, p.1)

pub overflow_cast-end : goal.overflow_cast-end
overflow_cast-end c = let a = c.args in let p = c.requires in let s = a.image.now in omega (arith, c.frame_end-end.ensures, ticks_fit s a.frame p.0 p.1)

pub overflow_add-result : goal.overflow_add-result
unfolding earliest latest
overflow_add-result c = let a = c.args in let p = c.requires in let s = a.image.now in rw (c.frame_end-end.ensures, c.link_at-link.ensures, c.frame_at.ensures) (omega (arith, ticks_fit s a.frame p.0 p.1))

pub overflow_add-result-2 : goal.overflow_add-result-2
unfolding earliest latest
overflow_add-result-2 c = let a = c.args in let p = c.requires in let s = a.image.now in rw (c.frame_end-end.ensures, c.link_at-link.ensures, c.frame_at.ensures) (omega (arith, ticks_fit s a.frame p.0 p.1))

pub returns : goal.returns
unfolding earliest latest
returns c = let a = c.args in let p = c.requires in let s = a.image.now in rw (c.accepted.ensures, c.frame_end-end.ensures, c.link_at-link.ensures, c.frame_at.ensures) (sym (given s a.frame p.0 p.1))
