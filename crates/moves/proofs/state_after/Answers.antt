use mathlib.Core.Path.{refl}
use Rattle.moves.specs.Lookups.{state_after}
use Rattle.moves.proofs.state_after.Goals as goal

pub returns : goal.returns
unfolding state_after
returns c = rw (c.entry_after.ensures, c.tick_after.ensures, c.cycle_after.ensures) refl
