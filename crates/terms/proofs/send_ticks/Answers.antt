use mathlib.Core.Path.{refl}
use Rattle.plan.specs.Questions.{overhead, send_ticks}
use Rattle.terms.proofs.send_ticks.Goals as goal

-- src/lib.rt:193:1
pub returns : goal.returns
unfolding overhead send_ticks
returns c = rw (c.rate_of-rate.ensures.0, c.payload_of.ensures.0) refl
