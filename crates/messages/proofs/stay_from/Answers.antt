use mathlib.Core.Path.{refl, sym, ap, ◌∙◌}
use native.Mathlib.Omega.{arith}
use borrow.Author.Tests.{eq-eqb, ne_eqb}
use Rattle.plan.specs.declared.Frame.{Frame}
use Rattle.plan.specs.declared.Table.TheVariants.{Streams}
use Rattle.plan.specs.Questions.{stay_from}
use Rattle.messages.proofs.Framing.{job_of, hop_of}
use Rattle.frames.proofs.Reading.{frame_exists}
use Rattle.messages.proofs.stay_from.Goals as goal

-- src/lib.rt:121:22
pub stream_at-sender-requires : goal.stream_at-sender-requires
stream_at-sender-requires c = let a = c.args in let p = c.requires in record { in_image = p.timed.1.0.sound.inside; row_bound = rw c.frame_at-f.ensures (job_of a.image.now p.timed.1.0 a.frame p.timed.1.1).row }

-- src/lib.rt:122:16
pub last_end-requires : goal.last_end-requires
last_end-requires c = let a = c.args in let p = c.requires in let s = a.image.now in let j = job_of s p.timed.1.0 a.frame p.timed.1.1 in (p.timed.0, (rw (c.stream_at-sender.ensures, c.frame_at-f.ensures) (p.timed.1.0.sound.names Streams _ j.row).0, rw (c.stream_at-sender.ensures, c.frame_at-f.ensures) j.job))

-- src/lib.rt:122:9
pub returns-then-f-eq0 : goal.returns-then-f-eq0
unfolding stay_from
returns-then-f-eq0 c = let f = c.frame_at-f.ensures in let e = ap (λ (x : Frame). x.hop) f in rw (eq-eqb _ 0 (sym e ∙ c.if-f-eq0.true), c.last_end.ensures, c.stream_at-sender.ensures, f) refl

-- src/lib.rt:124:9
pub frame_of-before-requires : goal.frame_of-before-requires
frame_of-before-requires c = let a = c.args in let p = c.requires in let f = c.frame_at-f.ensures in let s = a.image.now in record { framed = (p.timed.1.0, p.indexed); job_of = rw f (job_of s p.timed.1.0 a.frame p.timed.1.1, omega (arith, hop_of s p.timed.1.0 a.frame p.timed.1.1)) }

-- src/lib.rt:125:5
pub over_from-requires : goal.over_from-requires
over_from-requires c = let a = c.args in let p = c.requires in let f = c.frame_at-f.ensures in let s = a.image.now in (p.timed.1.0.sound, rw (c.frame_of-before.ensures, f) (frame_exists s p.timed.1.0 _ _ _ (job_of s p.timed.1.0 a.frame p.timed.1.1) (omega (arith, hop_of s p.timed.1.0 a.frame p.timed.1.1))))

-- src/lib.rt:114:1
pub returns : goal.returns
unfolding stay_from
returns c = let f = c.frame_at-f.ensures in let e = ap (λ (x : Frame). x.hop) f in rw (ne_eqb _ 0 (λ z. c.if-f-eq0.false (e ∙ z)), c.over_from.ensures, c.frame_of-before.ensures, f) refl
