use mathlib.Core.Path.{refl}
use borrow.Author.Tests.{ne_eqb}
use Rattle.turns.proofs.turn_all.Goals as goal

pub returns-then-lowest-ne0 : goal.returns-then-lowest-ne0
returns-then-lowest-ne0 c = let e = c.refused_there-lowest in record { value = e.ensures; states_after = rw (ne_eqb e.result 0 c.if-lowest-ne0.true) refl }
