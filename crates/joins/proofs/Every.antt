-- What holds of every row of a list: kept where rows are appended, left out and put in order.
use Prim.Native.Nat.{ℕ, zero, suc, ◌<◌}
use mathlib.Core.Path.{◌≡◌, refl}
use mathlib.Core.Bool.{Bool, true, false, cond}
use mathlib.Core.List.{List, ◌∷◌, ◌++◌, []}
use native.Mathlib.Nat.{not-suc-le-zero, le_of_suc-le-suc}
use native.Mathlib.Omega.{arith}
use lib.ListN.{length, get_or, drop}
use Rattle.plan.specs.declared.Table.{Table}
use Rattle.plan.specs.Search.{rises}
use Rattle.joins.specs.Joins.{below, is_new, new_rows, by_start, insert, sorted}
use Rattle.joins.proofs.Sorting.{insert_yes, insert_no, insert_none}

abbrev pub All : (List ℕ → Type 0) → List (List ℕ) → Type 0
All P [] = Unit {0}
All P (x ∷ xs) = P x × All P xs

module _ (P : List ℕ → Type 0) where
  pub all_at : (xs : List (List ℕ)) → All P xs → (i : ℕ) → i < length xs → P (get_or xs i [])
  all_at [] h i l = absurd (not-suc-le-zero l)
  all_at (x ∷ xs) h zero l = h.0
  all_at (x ∷ xs) h (suc i) l = all_at xs h.1 i (le_of_suc-le-suc l)

  pub all_append : (xs ys : List (List ℕ)) → All P xs → All P ys → All P (xs ++ ys)
  all_append [] ys h k = k
  all_append (x ∷ xs) ys h k = (h.0, all_append xs ys h.1 k)

  pub all_below : (f : ℕ → List ℕ) (n : ℕ) → ((i : ℕ) → i < n → P (f i)) → All P (below n f)
  unfolding below
  all_below f zero h = tt
  all_below f (suc n) h = all_append (below n f) (f n ∷ []) (all_below f n (λ i l. h i (omega arith))) (h n (omega arith), tt)

  pub all_drop : (n : ℕ) (xs : List (List ℕ)) → All P xs → All P (drop n xs)
  all_drop zero xs h = h
  all_drop (suc n) [] h = tt
  all_drop (suc n) (x ∷ xs) h = all_drop n xs h.1

  pub all_new : (rs xs : List (List ℕ)) → All P xs → All P (new_rows rs xs)
  unfolding new_rows
  all_new rs [] h = tt
  all_new rs (x ∷ xs) h = all_append (cond (is_new rs x) (x ∷ []) []) (new_rows rs xs) (one (is_new rs x)) (all_new rs xs h.1)
    where
      one : (b : Bool) → All P (cond b (x ∷ []) [])
      one true = (h.0, tt)
      one false = tt

  pub all_insert : (t : Table) (x : List ℕ) (ys : List (List ℕ)) → P x → All P ys → All P (insert t x ys)
  all_insert t x [] p h = rw (insert_none t x) (p, tt)
  all_insert t x (y ∷ ys) p h = go (rises (by_start t x) (by_start t y)) refl (all_insert t x ys p h.1)
    where
      go : (b : Bool) → rises (by_start t x) (by_start t y) ≡ b → All P (insert t x ys) → All P (insert t x (y ∷ ys))
      go true e k = rw (insert_yes t x y ys e) (p, h)
      go false e k = rw (insert_no t x y ys e) (h.0, k)

  pub all_sorted : (t : Table) (xs : List (List ℕ)) → All P xs → All P (sorted t xs)
  unfolding sorted
  all_sorted t [] h = tt
  all_sorted t (x ∷ xs) h = all_insert t x (sorted t xs) h.0 (all_sorted t xs h.1)

pub all_of : (P Q : List ℕ → Type 0) → ((x : List ℕ) → P x → Q x) → (xs : List (List ℕ)) → All P xs → All Q xs
all_of P Q f [] h = tt
all_of P Q f (x ∷ xs) h = (f x h.0, all_of P Q f xs h.1)
