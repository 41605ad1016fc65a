use mathlib.Core.Path.{refl, sym, ◌∙◌}
use native.Mathlib.Omega.{arith}
use Rattle.moves.specs.Lookups.{state_after}
use Rattle.moves.proofs.Deciding.{not_last}
use Rattle.moves.proofs.cycle_after.Goals as goal

pub overflow_add-result : goal.overflow_add-result
overflow_add-result c = omega (arith, not_last c.args.table c.args.state c.requires (sym c.ends_cycle.ensures ∙ c.if-ends_cycle.true))

pub returns-then-ends_cycle : goal.returns-then-ends_cycle
unfolding state_after
returns-then-ends_cycle c = rw (← c.ends_cycle.ensures, c.if-ends_cycle.true) refl

pub returns-else-ends_cycle : goal.returns-else-ends_cycle
unfolding state_after
returns-else-ends_cycle c = rw (← c.ends_cycle.ensures, c.if-ends_cycle.false) refl
