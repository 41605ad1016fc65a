use mathlib.Core.Path.{refl}
use Rattle.plan.specs.declared.Table.TheVariants.{Streams}
use Rattle.plan.specs.Questions.{in_time}
use Rattle.messages.proofs.Framing.{receiver_job}
use Rattle.messages.proofs.in_time.Goals as goal

pub last_end-requires : goal.last_end-requires
last_end-requires c = let a = c.args in let p = c.requires in let s = a.image.now in (p.0, (rw c.stream_at-m.ensures (p.1.0.sound.names Streams a.stream p.1.1.row).1, rw c.stream_at-m.ensures (receiver_job s p.1.0 a.stream a.job p.1.1)))

pub first_start-start-requires : goal.first_start-start-requires
first_start-start-requires c = let a = c.args in let p = c.requires in let s = a.image.now in (p.0, (rw c.stream_at-m.ensures (p.1.0.sound.names Streams a.stream p.1.1.row).0, rw c.stream_at-m.ensures p.1.1.job))

pub returns : goal.returns
unfolding in_time
returns c = rw (c.limit_of.ensures, c.first_start-start.ensures, c.precision_ticks.ensures, c.last_end.ensures, c.stream_at-m.ensures) refl
