use mathlib.Core.Path.{refl}
use Rattle.layout.specs.Tests.{length_fits}
use Rattle.plan.specs.Image.{image}
use Rattle.layout.proofs.length_fits.Goals as goal

pub returns : goal.returns
unfolding length_fits image
returns c = refl
