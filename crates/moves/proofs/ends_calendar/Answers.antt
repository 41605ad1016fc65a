use mathlib.Core.Path.{refl}
use Rattle.moves.specs.Lookups.{ends_calendar}
use Rattle.moves.proofs.ends_calendar.Goals as goal

pub returns : goal.returns
unfolding ends_calendar
returns c = rw c.ends_cycle.ensures refl
