use mathlib.Core.Path.{refl}
use native.Mathlib.Omega.{arith}
use Rattle.plan.specs.declared.Table.TheVariants.{Streams}
use Rattle.frames.specs.Index.{span}
use Rattle.frames.proofs.Placing.{span_most}
use Rattle.frames.proofs.span_of.Goals as goal

-- src/lib.rt:37:5
pub jobs_of-requires : goal.jobs_of-requires
jobs_of-requires c = let a = c.args in let p = c.requires in (p.0, rw c.stream_at-m.ensures (p.0.names Streams a.stream p.1).0)

-- src/lib.rt:37:5
pub overflow_mul-result : goal.overflow_mul-result
unfolding span
overflow_mul-result c = let a = c.args in let p = c.requires in record { fits = rw (c.jobs_of.ensures, c.stream_at-m.ensures) (omega (arith, span_most a.image.now p.0 a.stream p.1)) }

-- src/lib.rt:32:1
pub returns : goal.returns
unfolding span
returns c = rw (c.jobs_of.ensures, c.stream_at-m.ensures) refl
