use mathlib.Core.Path.{refl}
use Rattle.modes.specs.Modes.{is_plan}
use Rattle.modes.proofs.is_plan.Goals as goal

pub returns : goal.returns
unfolding is_plan
returns c = refl
