use mathlib.Core.Path.{refl, sym, ap, ◌∙◌}
use native.Mathlib.Omega.{arith}
use borrow.Author.Tests.{eq-eqb, ne_eqb}
use Rattle.plan.specs.declared.Frame.{Frame}
use Rattle.plan.specs.Questions.{hop_waits}
use Rattle.messages.proofs.Framing.{job_of, hop_of}
use Rattle.frames.proofs.Reading.{frame_exists}
use Rattle.messages.proofs.hop_waits.Goals as goal

pub returns-then-f-eq0 : goal.returns-then-f-eq0
unfolding hop_waits
returns-then-f-eq0 c = let f = c.frame_at-f.ensures in let e = ap (λ (x : Frame). x.hop) f in rw (eq-eqb _ 0 (sym e ∙ c.if-f-eq0.true)) refl

pub frame_of-previous-requires : goal.frame_of-previous-requires
frame_of-previous-requires c = let a = c.args in let p = c.requires in let f = c.frame_at-f.ensures in let s = a.image.now in record { framed = (p.0, p.1.0); job_of = rw f (job_of s p.0 a.frame p.1.1, omega (arith, hop_of s p.0 a.frame p.1.1)) }

pub across_at-requires : goal.across_at-requires
across_at-requires c = let a = c.args in let p = c.requires in let f = c.frame_at-f.ensures in let s = a.image.now in (p.0.sound, rw (c.frame_of-previous.ensures, f) (frame_exists s p.0 _ _ _ (job_of s p.0 a.frame p.1.1) (omega (arith, hop_of s p.0 a.frame p.1.1))))

pub returns : goal.returns
unfolding hop_waits
returns c = let f = c.frame_at-f.ensures in let e = ap (λ (x : Frame). x.hop) f in rw (ne_eqb _ 0 (λ z. c.if-f-eq0.false (e ∙ z)), c.across_at.ensures, c.frame_of-previous.ensures, f) refl
