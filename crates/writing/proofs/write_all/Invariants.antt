use Prim.Native.Nat.{◌*◌}
use mathlib.Core.Path.{◌≡◌}
use lib.ListN.{length}
use Rattle.plan.specs.Dispatch.{tables_below}
use Rattle.writing.specs.Stored.{stored}
use Rattle.writing.proofs.write_all.Given as goal

abbrev pub invariant-loop-lane : goal.invariant-loop-lane
invariant-loop-lane l = (l.at ≡ 4 * length (tables_below l.image l.lane)) × (l.bytes ≡ stored l.initial.bytes 0 (tables_below l.image l.lane))
