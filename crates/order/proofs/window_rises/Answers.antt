use mathlib.Core.Path.{refl}
use Rattle.plan.specs.Search.{rises}
use Rattle.plan.specs.Questions.{order_words}
use Rattle.order.proofs.window_rises.Goals as goal

-- src/lib.rt:24:1
pub returns : goal.returns
unfolding order_words rises
returns c = rw (c.rises.ensures, c.rises-vcpu.ensures, c.rises-start.ensures, c.rises-length.ensures, c.window_at-b.ensures, c.window_at-a.ensures) refl
