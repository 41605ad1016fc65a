use mathlib.Core.Path.{refl}
use Rattle.plan.specs.Search.{rises}
use Rattle.plan.specs.Questions.{order_words}
use Rattle.order.proofs.piece_rises.Goals as goal

-- src/lib.rt:37:1
pub returns : goal.returns
unfolding order_words rises
returns c = rw (c.rises.ensures, c.rises-task.ensures, c.rises-job.ensures, c.rises-start.ensures, c.rises-length.ensures, c.piece_at-b.ensures, c.piece_at-a.ensures) refl
