use mathlib.Core.Path.{refl}
use Prim.Native.Nat.{◌-◌}
use native.Mathlib.Omega.{arith}
use Rattle.plan.specs.declared.Table.TheVariants.{Streams}
use Rattle.plan.specs.Image.{stream}
use Rattle.plan.specs.Questions.{message_waits}
use Rattle.messages.proofs.Framing.{receiver_job}
use Rattle.frames.proofs.Reading.{frame_exists}
use Rattle.messages.proofs.message_waits.Goals as goal

pub frame_of-first-requires : goal.frame_of-first-requires
frame_of-first-requires c = let a = c.args in let p = c.requires in record { framed = (p.timed.1.0, p.indexed); job_of = (p.timed.1.1, (p.timed.1.0.sound.ranges Streams a.stream p.timed.1.1.row).2) }

pub overflow_sub-m : goal.overflow_sub-m
overflow_sub-m c = let a = c.args in let p = c.requires in rw c.stream_at-m.ensures (p.timed.1.0.sound.ranges Streams a.stream p.timed.1.1.row).2

pub frame_of-last-requires : goal.frame_of-last-requires
frame_of-last-requires c = let a = c.args in let p = c.requires in record { framed = (p.timed.1.0, p.indexed); job_of = (p.timed.1.1, rw c.stream_at-m.ensures (omega (arith, (p.timed.1.0.sound.ranges Streams a.stream p.timed.1.1.row).2))) }

pub last_end-requires : goal.last_end-requires
last_end-requires c = let a = c.args in let p = c.requires in let s = a.image.now in (p.timed.0, (rw c.stream_at-m.ensures (p.timed.1.0.sound.names Streams a.stream p.timed.1.1.row).0, rw c.stream_at-m.ensures p.timed.1.1.job))

pub frame_at-requires : goal.frame_at-requires
frame_at-requires c = let a = c.args in let p = c.requires in let s = a.image.now in let r = p.timed.1.0.sound.ranges Streams a.stream p.timed.1.1.row in record { in_image = p.timed.1.0.sound.inside; row_bound = rw c.frame_of-first.ensures (frame_exists s p.timed.1.0 a.stream a.job 0 p.timed.1.1 r.2) }

pub across_at-requires : goal.across_at-requires
across_at-requires c = let a = c.args in let p = c.requires in let s = a.image.now in let r = p.timed.1.0.sound.ranges Streams a.stream p.timed.1.1.row in (p.timed.1.0.sound, rw (c.frame_of-last.ensures, c.stream_at-m.ensures) (frame_exists s p.timed.1.0 a.stream a.job ((stream s a.stream).hops - 1) p.timed.1.1 (omega (arith, r.2))))

pub first_start-requires : goal.first_start-requires
first_start-requires c = let a = c.args in let p = c.requires in let s = a.image.now in (p.timed.0, (rw c.stream_at-m.ensures (p.timed.1.0.sound.names Streams a.stream p.timed.1.1.row).1, rw c.stream_at-m.ensures (receiver_job s p.timed.1.0 a.stream a.job p.timed.1.1)))

pub returns : goal.returns
unfolding message_waits
returns c = rw (c.first_start.ensures, c.across_at.ensures, c.frame_at.ensures, c.last_end.ensures, c.frame_of-last.ensures, c.frame_of-first.ensures, c.stream_at-m.ensures) refl
