use mathlib.Core.Path.{refl}
use borrow.Author.Tests.{lt-ltb, le-ltb}
use Rattle.stretches.specs.Stretches.{segment_of}
use Rattle.stretches.proofs.segment_at.Goals as goal

pub returns-then-tick-stretch : goal.returns-then-tick-stretch
unfolding segment_of
returns-then-tick-stretch c = rw (lt-ltb _ _ c.if-tick-stretch.true, c.min.ensures) refl

pub returns-else-tick-stretch : goal.returns-else-tick-stretch
unfolding segment_of
returns-else-tick-stretch c = rw (le-ltb _ _ c.if-tick-stretch.false) refl
