use mathlib.Core.Path.{refl}
use Rattle.modes.specs.Modes.{alike}
use Rattle.modes.proofs.alike.Goals as goal

pub returns : goal.returns
unfolding alike
returns c = refl
