use mathlib.Core.Path.{refl}
use Rattle.totals.specs.Gathers.{taken_at}
use Rattle.totals.proofs.take_at.Goals as goal

pub returns : goal.returns
unfolding taken_at
returns c = refl
