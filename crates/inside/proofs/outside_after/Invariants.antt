use Prim.Native.Nat.{◌≤◌}
use mathlib.Core.Path.{◌≡◌}
use Rattle.std.specs.Prelude.{None}
use Rattle.plan.specs.declared.Table.TheVariants.{Windows}
use Rattle.plan.specs.Image.{rows, most_vcpus}
use Rattle.plan.specs.Search.{first_no}
use Rattle.plan.specs.Questions.{piece_inside}
use Rattle.tallies.specs.Tallies.{Kept}
use Rattle.inside.specs.Holders.{holders}
use Rattle.inside.proofs.Holding.{Led}
use Rattle.inside.proofs.outside_after.Given as goal

abbrev pub invariant-loop-piece : goal.invariant-loop-piece
invariant-loop-piece l = (l.window ≤ rows l.image Windows) × Kept l.last 0 most_vcpus (holders l.image l.window) × Led l.image l.window l.piece × (first_no l.piece (piece_inside l.image) ≡ None)
