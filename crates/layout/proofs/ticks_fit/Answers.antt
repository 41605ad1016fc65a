use mathlib.Core.Path.{refl}
use Rattle.layout.specs.Tests.{ticks_fit}
use Rattle.layout.proofs.ticks_fit.Goals as goal

pub returns : goal.returns
unfolding ticks_fit
returns c = rw (c.cycle_ticks-cycle.ensures, c.precision_ticks.ensures) refl
