use mathlib.Core.Path.{refl}
use Rattle.plan.specs.Questions.{frame_end}
use Rattle.terms.proofs.frame_end.Goals as goal

-- src/lib.rt:124:1
pub returns : goal.returns
unfolding frame_end
returns c = rw (c.send_ticks.ensures, c.frame_at.ensures) refl
