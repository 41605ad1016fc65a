use mathlib.Core.Path.{◌≡◌}
use Rattle.std.specs.Prelude.{None}
use Rattle.plan.specs.Search.{first_no}
use Rattle.places.specs.Places.{place_of, to_of}
use Rattle.tallies.specs.Tallies.{latest, Kept}
use Rattle.clashes.specs.Clashes.{clear_of}
use Rattle.places.specs.Index.{most_places}
use Rattle.clashes.proofs.clash_after.Given as goal

abbrev pub invariant-loop-row : goal.invariant-loop-row
invariant-loop-row l = Kept l.ends 0 most_places (latest (place_of l.image l.occupant) (to_of l.image l.occupant) l.row) × (first_no l.row (clear_of l.image l.occupant) ≡ None)
