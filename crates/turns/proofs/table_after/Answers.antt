use mathlib.Core.Path.{refl}
use Rattle.modes.specs.Modes.{table_after}
use Rattle.turns.proofs.table_after.Goals as goal

pub returns : goal.returns
unfolding table_after
returns c = rw c.word_at-entries.ensures refl
