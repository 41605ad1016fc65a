use mathlib.Core.Path.{refl}
use Rattle.moves.specs.Lookups.{entry_after, state_after}
use Rattle.moves.proofs.entry_after.Goals as goal

pub returns-then-ends_cycle : goal.returns-then-ends_cycle
unfolding state_after
returns-then-ends_cycle c = rw (← c.ends_cycle.ensures, c.if-ends_cycle.true) refl

pub returns-then-follows-reached : goal.returns-then-follows-reached
unfolding state_after entry_after
returns-then-follows-reached c = rw (← c.ends_cycle.ensures, c.if-ends_cycle.false, c.if-follows-reached.true) refl

pub returns-else-follows-reached : goal.returns-else-follows-reached
unfolding state_after entry_after
returns-else-follows-reached c = rw (← c.ends_cycle.ensures, c.if-ends_cycle.false, c.if-follows-reached.false) refl
