use mathlib.Core.Path.{refl}
use Rattle.plan.specs.Questions.{window_end}
use Rattle.terms.proofs.window_end.Goals as goal

-- src/lib.rt:63:1
pub returns : goal.returns
unfolding window_end
returns c = rw c.window_at-w.ensures refl
