-- 32, of a row that has a predecessor.
use Prim.Native.Nat.{ℕ, ◌-◌}
use mathlib.Core.Path.{◌≡◌, refl}
use mathlib.Core.Logic.{◌≢◌}
use mathlib.Core.List.{List}
use borrow.Author.Tests.{ne_eqb}
use Rattle.plan.specs.declared.Table.{Table}
use Rattle.plan.specs.Search.{rises}
use Rattle.plan.specs.Questions.{order_words, in_order}

pub order_asked : (s : List ℕ) (r : ℕ) → r ≢ 0 → (t : Table) → in_order s t r ≡ rises (order_words s t (r - 1)) (order_words s t r)
unfolding in_order
order_asked s r h t = rw (ne_eqb r 0 h) refl
