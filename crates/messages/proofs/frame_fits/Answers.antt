use mathlib.Core.Path.{refl}
use native.Mathlib.Omega.{arith}
use Rattle.plan.specs.Questions.{frame_fits}
use Rattle.plan.specs.declared.Table.TheVariants.{Streams, Frames}
use Rattle.messages.proofs.Framing.{product_below}
use Rattle.messages.proofs.frame_fits.Goals as goal

pub stream_at-m-requires : goal.stream_at-m-requires
stream_at-m-requires c = let p = c.requires in record { in_image = p.0.inside; row_bound = rw c.frame_at-f.ensures (p.0.names Frames c.args.frame p.1).0 }

pub stream_period-period-requires : goal.stream_period-period-requires
stream_period-period-requires c = let p = c.requires in (p.0, rw c.frame_at-f.ensures (p.0.names Frames c.args.frame p.1).0)

pub jobs_of-requires : goal.jobs_of-requires
jobs_of-requires c = let p = c.requires in let f = c.args.frame in (p.0, rw (c.stream_at-m.ensures, c.frame_at-f.ensures) (p.0.names Streams _ (p.0.names Frames f p.1).0).0)

pub overflow_mul-starts : goal.overflow_mul-starts
overflow_mul-starts c = record { fits = product_below (omega (arith, c.frame_at-f.type_inv)) (omega (arith, c.stream_period-period.type_inv)) }

pub overflow_mul-ends : goal.overflow_mul-ends
overflow_mul-ends c = record { fits = product_below (omega (arith, c.frame_at-f.type_inv)) (omega (arith, c.stream_period-period.type_inv)) }

pub returns : goal.returns
unfolding frame_fits
returns c = rw (c.frame_end.ensures, c.jobs_of.ensures, c.stream_period-period.ensures, c.stream_at-m.ensures, c.frame_at-f.ensures) refl
