use mathlib.Core.Path.{refl}
use Rattle.plan.specs.Questions.{queue_fits}
use Rattle.ranges.proofs.queue_fits.Goals as goal

-- src/lib.rt:102:1
pub returns : goal.returns
unfolding queue_fits
returns c = rw c.stream_at.ensures refl
