-- The latest end at a place, and the law of rows none of which begins after a later one ends: a row is clear of all lower rows at its place exactly if
-- it begins no sooner than the latest end before it there. Questions 8, 12, 19 and 41 cite it.
use Prim.Native.Nat.{ℕ, zero, suc, ◌+◌, max, ◌<◌, ◌≤◌}
use mathlib.Core.Path.{◌≡◌, refl, sym, ap, ◌∙◌, subst}
use mathlib.Core.Logic.{◌⊎◌, inl, inr, ◌≢◌}
use mathlib.Core.Bool.{Bool}
use mathlib.Core.List.{List}
use native.Mathlib.Nat.{not-suc-le-zero, eq-or-lt_of_le, le_of_suc-le-suc}
use native.Mathlib.Decide.{ℕ_discrete, dec_lt}
use native.Mathlib.Omega.{arith}
use native.Mathlib.Numerals.{add-one}
use lib.ListN.{length, get_or, set}
use lib.Dec.{leb}
use borrow.Author.Tests.{le-leb, lt-leb}
use Rattle.std.specs.Prelude.{Some, None}
use Rattle.plan.specs.Search.{Interval, first_no}
use Rattle.plan.specs.Reading.{Apart}
use Rattle.plan.proofs.Shows.{bool_eq}
use Rattle.plan.proofs.Searching.{turn_yes, stops}
use Rattle.plan.proofs.Tests.{Reads, r_le}
use Rattle.tallies.specs.Tallies.{tally, latest, Kept}
use Rattle.tallies.proofs.Tallying.{kept_at, kept_as, tally_on, tally_none, tally_at, tally_other}

module _ (place end : ℕ → ℕ) where
  latest_none : (p : ℕ) → latest place end 0 p ≡ 0
  unfolding latest
  latest_none p = tally_none max 0 place end p

  latest_at : (n : ℕ) → latest place end (suc n) (place n) ≡ max (latest place end n (place n)) (end n)
  unfolding latest
  latest_at n = tally_at max 0 place end n

  latest_other : (n p : ℕ) → p ≢ place n → latest place end (suc n) p ≡ latest place end n p
  unfolding latest
  latest_other n p d = tally_other max 0 place end n p d

  -- no lower row at the place ends later
  pub ends_by : (n p q : ℕ) → q < n → place q ≡ p → end q ≤ latest place end n p
  ends_by zero p q l e = absurd (not-suc-le-zero l)
  ends_by (suc n) p q l e = go (eq-or-lt_of_le (le_of_suc-le-suc l)) (ℕ_discrete p (place n)) (λ k. ends_by n p q k e)
    where
      here : p ≡ place n → latest place end (suc n) p ≡ max (latest place end n p) (end n)
      here d = subst (λ (z : ℕ). latest place end (suc n) z ≡ max (latest place end n z) (end n)) (sym d) (latest_at n)

      go : (q ≡ n) ⊎ (q < n) → Dec (p ≡ place n) → (q < n → end q ≤ latest place end n p) → end q ≤ latest place end (suc n) p
      go (inl d) (yes c) k = omega (arith, here c, ap end d)
      go (inl d) (no c) k = absurd (c (sym e ∙ ap place d))
      go (inr d) (yes c) k = omega (arith, here c, k d)
      go (inr d) (no c) k = omega (arith, latest_other n p c, k d)

  -- where none ends later than x, the latest end is no later
  pub latest_by : (n p x : ℕ) → ((q : ℕ) → q < n → place q ≡ p → end q ≤ x) → latest place end n p ≤ x
  latest_by zero p x h = omega (arith, latest_none p)
  latest_by (suc n) p x h = go (ℕ_discrete p (place n)) (latest_by n p x (λ q l e. h q (omega arith) e))
    where
      go : Dec (p ≡ place n) → latest place end n p ≤ x → latest place end (suc n) p ≤ x
      go (yes c) k =
          let m : latest place end (suc n) p ≡ max (latest place end n p) (end n) = subst (λ (z : ℕ). latest place end (suc n) z ≡ max (latest place end n z) (end n)) (sym c) (latest_at n) in
          omega (arith, k, h n (omega arith) (sym c))
      go (no c) k = omega (arith, latest_other n p c)

  -- one of them ends then, unless there is none
  pub latest_row : (n p : ℕ) → 0 < latest place end n p → (q : ℕ) × (q < n) × (place q ≡ p) × (end q ≡ latest place end n p)
  latest_row zero p l = absurd (omega (arith, latest_none p))
  latest_row (suc n) p l = go (ℕ_discrete p (place n)) (λ k. latest_row n p k)
    where
      go : Dec (p ≡ place n) → (0 < latest place end n p → (q : ℕ) × (q < n) × (place q ≡ p) × (end q ≡ latest place end n p))
          → (q : ℕ) × (q < suc n) × (place q ≡ p) × (end q ≡ latest place end (suc n) p)
      go (no c) k = let w = k (omega (arith, latest_other n p c)) in (w.0, omega (arith, w.1), w.2, omega (arith, w.3, latest_other n p c))
      go (yes c) k = pick (dec_lt (latest place end n p) (end n))
        where
          here : latest place end (suc n) p ≡ max (latest place end n p) (end n)
          here = subst (λ (z : ℕ). latest place end (suc n) z ≡ max (latest place end n z) (end n)) (sym c) (latest_at n)

          pick : Dec (latest place end n p < end n) → (q : ℕ) × (q < suc n) × (place q ≡ p) × (end q ≡ latest place end (suc n) p)
          pick (yes d) = (n, omega arith, sym c, omega (arith, here))
          pick (no d) = let w = k (omega (arith, here)) in (w.0, omega (arith, w.1), w.2, omega (arith, w.3, here))

-- ---- the words that keep it, one for each place

-- fresh words: of no rows
pub latest_fresh : (place end : ℕ → ℕ) (words : List ℕ) (many : ℕ) → Kept words 0 many (λ _. 0) → Kept words 0 many (latest place end 0)
unfolding latest
latest_fresh place end words many h = kept_as words 0 many (λ _. 0) h (tally max 0 place end 0) (λ p l. tally_none max 0 place end p)

-- a row more: its place is raised to its end
pub latest_on : (place end : ℕ → ℕ) (words : List ℕ) (many n : ℕ) → Kept words 0 many (latest place end n) → place n < many
    → Kept (set words (place n) (max (get_or words (place n) 0) (end n))) 0 many (latest place end (n + 1))
unfolding latest
latest_on place end words many n h l = tally_on max 0 place end words many n h (max (get_or words (place n) 0) (end n)) l refl

-- tests that read statements which say the same are equal
same_test : {a b : Bool} {A B : Type 0} → Reads a A → Reads b B → (A → B) → (B → A) → a ≡ b
same_test {a} {b} f g h k = bool_eq a b (λ e. g.1 (h (f.0 e))) (λ e. f.1 (k (g.0 e)))

-- ---- the law

-- rows by place and interval, of which none begins after a later one ends, and a test of each row: is it clear of all lower rows of its place?
module _ (place : ℕ → ℕ) (iv : ℕ → Interval) (ok : ℕ → Bool) (n many : ℕ)
    (reads : (r : ℕ) → r < n → Reads (ok r) ((q : ℕ) → q < r → place q ≡ place r → Apart (iv q) (iv r)))
    (near : (q r : ℕ) → q < r → r < n → (iv q).from < (iv r).to) (placed : (r : ℕ) → r < n → place r < many) where
  abbrev pub ends_before : ℕ → ℕ → ℕ
  ends_before = latest place (λ q. (iv q).to)

  later : (q r : ℕ) → q < r → r < n → Apart (iv q) (iv r) → (iv q).to ≤ (iv r).from
  later q r l m (inl h) = h
  later q r l m (inr h) = absurd (omega (arith, near q r l m))

  -- it is, exactly if it begins no sooner than the latest end before it there
  clear_latest : (r : ℕ) → r < n → ok r ≡ leb (ends_before r (place r)) (iv r).from
  clear_latest r m =
      same_test
      (reads r m)
      (r_le (ends_before r (place r)) (iv r).from)
      (λ h. latest_by place (λ q. (iv q).to) r (place r) (iv r).from (λ q l e. later q r l m (h q l e)))
      (λ h q l e. inl (let b = ends_by place (λ q. (iv q).to) r (place r) q l e in omega arith))

  -- a turn of a loop that keeps the latest ends in words, a word for each place
  module _ (ends : List ℕ) (r : ℕ) (l : r < n) (k : Kept ends 0 many (ends_before r)) where
    pub place_inside : place r < length ends
    place_inside = let m = k.room in omega (arith, placed r l)

    asked : ok r ≡ leb (get_or ends (place r) 0) (iv r).from
    asked = clear_latest r l ∙ ap (λ (x : ℕ). leb x (iv r).from) (sym (kept_at ends many (ends_before r) k (place r) (placed r l)))

    pub clash : first_no r ok ≡ None → (iv r).from < get_or ends (place r) 0 → Some r ≡ first_no n ok
    clash e d = sym (stops ok n r e l (asked ∙ lt-leb _ _ d))

    pub clear_on : first_no r ok ≡ None → get_or ends (place r) 0 ≤ (iv r).from → first_no (r + 1) ok ≡ None
    clear_on e d = rw add-one (turn_yes ok r e (asked ∙ le-leb _ _ d))

    pub ends_on : Kept (set ends (place r) (max (get_or ends (place r) 0) (iv r).to)) 0 many (ends_before (r + 1))
    ends_on = latest_on place (λ q. (iv q).to) ends many r k (placed r l)
