use Prim.Native.Nat.{◌%◌}
use mathlib.Core.Path.{◌≡◌}
use lib.ListN.{length}
use Rattle.plan.specs.Boundary.{words_of}
use Rattle.turns.proofs.Turning.{lowest}
use Rattle.turns.proofs.refused_there.Given as goal

abbrev pub invariant-loop-bytes : goal.invariant-loop-bytes
invariant-loop-bytes l = (l.bytes-iterator.size ≡ 28) × (length l.bytes-iterator.rest.now % 28 ≡ 0) × (lowest (words_of l.words) l.first l.states ≡ lowest (words_of l.words) l.at l.bytes-iterator.rest.now)
