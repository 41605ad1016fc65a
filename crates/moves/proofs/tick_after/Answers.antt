use mathlib.Core.Path.{refl}
use Rattle.moves.specs.Lookups.{state_after}
use Rattle.moves.proofs.tick_after.Goals as goal

pub returns-then-ends_cycle : goal.returns-then-ends_cycle
unfolding state_after
returns-then-ends_cycle c = rw (← c.ends_cycle.ensures, c.if-ends_cycle.true) refl

pub returns-else-ends_cycle : goal.returns-else-ends_cycle
unfolding state_after
returns-else-ends_cycle c = rw (← c.ends_cycle.ensures, c.if-ends_cycle.false) refl
