use mathlib.Core.Path.{refl}
use Rattle.modeblock.proofs.is_due.Goals as goal

pub returns : goal.returns
returns c = rw c.word-tick.ensures refl
