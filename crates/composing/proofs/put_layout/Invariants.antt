use Prim.Native.Nat.{ℕ, ◌+◌, ◌*◌, ◌≤◌}
use mathlib.Core.Path.{◌≡◌}
use mathlib.Core.List.{List}
use lib.ListN.{length}
use Rattle.plan.specs.declared.Table.{Table}
use Rattle.composing.specs.Composing.{Wrote, Tallied}
use Rattle.composing.proofs.Writing.{end_to, places_to}
use Rattle.composing.proofs.put_layout.Given as goal

abbrev pub invariant-loop-i : goal.invariant-loop-i
invariant-loop-i l = (l.place ≡ l.at + 8 * l.i) × ((l.from ≤ l.i * 131072) × ((length l.joined ≡ length l.initial.joined) × ((rs : Table → List (List ℕ)) → Tallied rs l.counts → (l.from ≡ end_to rs l.i) × Wrote l.initial.joined l.at (places_to rs l.i) l.place l.joined)))
