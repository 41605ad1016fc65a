use mathlib.Core.Path.{refl}
use Rattle.drafts.specs.Drafts.{is_of}
use Rattle.counting.specs.Counting.{total_part}
use Rattle.counting.proofs.total_part.Goals as goal

pub returns-then-same : goal.returns-then-same
unfolding total_part is_of
returns-then-same c = rw c.if-same.true refl

pub returns-else-same : goal.returns-else-same
unfolding total_part is_of
returns-else-same c = rw c.if-same.false refl
