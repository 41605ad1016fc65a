use mathlib.Core.Path.{refl}
use Rattle.counting.specs.Counting.{with_part}
use Rattle.counting.proofs.with_part.Goals as goal

pub returns-then-more : goal.returns-then-more
unfolding with_part
returns-then-more c = rw c.if-more.true refl

pub returns-else-more : goal.returns-else-more
unfolding with_part
returns-else-more c = rw c.if-more.false refl
