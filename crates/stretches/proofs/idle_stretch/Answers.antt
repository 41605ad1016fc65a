use mathlib.Core.Path.{refl}
use Rattle.stretches.specs.Stretches.{idle_stretch}
use Rattle.stretches.proofs.idle_stretch.Goals as goal

pub returns : goal.returns
unfolding idle_stretch
returns c = refl
