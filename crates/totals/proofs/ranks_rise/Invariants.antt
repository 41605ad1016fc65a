use mathlib.Core.Path.{◌≡◌}
use Rattle.std.specs.Prelude.{Some}
use Rattle.totals.specs.Gathers.{climbed}
use Rattle.totals.proofs.ranks_rise.Given as goal

abbrev pub invariant-loop-rank : goal.invariant-loop-rank
invariant-loop-rank l = climbed l.words l.rank ≡ Some l.climb
