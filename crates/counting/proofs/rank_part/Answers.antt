use mathlib.Core.Path.{refl}
use Rattle.drafts.specs.Drafts.{is_below}
use Rattle.counting.specs.Counting.{rank_part}
use Rattle.counting.proofs.rank_part.Goals as goal

pub returns-then-below : goal.returns-then-below
unfolding rank_part is_below
returns-then-below c = rw c.if-below.true refl

pub returns-else-below : goal.returns-else-below
unfolding rank_part is_below
returns-else-below c = rw c.if-below.false refl
