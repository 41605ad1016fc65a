use mathlib.Core.Path.{refl}
use Rattle.plan.specs.Search.{rises}
use Rattle.plan.specs.Questions.{order_words}
use Rattle.order.proofs.frame_rises.Goals as goal

-- src/lib.rt:51:1
pub returns : goal.returns
unfolding order_words rises
returns c = rw (c.rises.ensures, c.rises-stream.ensures, c.rises-job.ensures, c.rises-hop.ensures, c.rises-link.ensures, c.rises-start.ensures, c.frame_at-b.ensures, c.frame_at-a.ensures) refl
