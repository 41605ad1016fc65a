use Prim.Native.Nat.{ℕ}
use mathlib.Core.Path.{sym, ap, ◌∙◌}
use mathlib.Core.List.{List, flat_map}
use lib.ListN.{length}
use Rattle.picking.proofs.Picks.{picked_long}
use Rattle.composing.proofs.Writing.{flat_long}
use Rattle.composing.proofs.rows_joined.Goals as goal

pub returns : goal.returns
returns c = let a = c.args in let q = c.pick.ensures in (
  sym (ap length (sym q.are) ∙ picked_long a.first.now a.second.now a.shared a.table _ c.pick.result),
  ap (λ (xs : List (List ℕ)). length (flat_map (λ x. x) xs)) (sym q.are) ∙ flat_long a.first.now a.second.now a.shared a.table _ c.pick.result q.numbers,
)
