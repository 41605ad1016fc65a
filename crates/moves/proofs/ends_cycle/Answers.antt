use mathlib.Core.Path.{refl}
use Rattle.moves.specs.Lookups.{ends_cycle}
use Rattle.moves.proofs.ends_cycle.Goals as goal

pub returns : goal.returns
unfolding ends_cycle
returns c = refl
