use mathlib.Core.Path.{refl}
use Rattle.modes.specs.Modes.{at_table}
use Rattle.turns.proofs.at_table.Goals as goal

pub returns : goal.returns
unfolding at_table
returns c = refl
