-- Steps that lead from row to row: as many as there are rows are enough, so one more finds nothing new.
use Prim.Native.Nat.{ℕ, zero, suc, ◌+◌, ◌-◌, ◌≤◌, ◌<◌}
use mathlib.Core.Path.{◌≡◌, refl, sym, ap, subst, ◌∙◌}
use mathlib.Core.Logic.{◌⊎◌, inl, inr}
use mathlib.Core.Bool.{Bool, true, false, not, ◌&&◌, ◌||◌, true≢false}
use native.Mathlib.Nat.{not-suc-le-zero, eq-or-lt_of_le, le_of_suc-le-suc}
use native.Mathlib.Omega.{arith}
use native.Mathlib.Decide.{dec_lt}
use lib.Dec.{eqb}
use borrow.Author.Tests.{not-true, eqb-true, eq-eqb}
use Rattle.plan.specs.Search.{any, count, leads}
use Rattle.plan.proofs.Searching.{and_true, count_most}
use Rattle.plan.proofs.Tests.{or_cases, any_row, row_any, with_row, without_row, no_count}
use Rattle.plan.proofs.Tables.{count_lt}

either : (a b : Bool) → (a ≡ true) ⊎ (b ≡ true) → a || b ≡ true
either true b h = refl
either false b (inl e) = absurd (true≢false (sym e))
either false b (inr e) = e

both : {a b : Bool} → a ≡ true → b ≡ true → a && b ≡ true
both p q = rw (p, q) refl

-- two tests that follow from each other are one
same_test : (a b : Bool) → (a ≡ true → b ≡ true) → (b ≡ true → a ≡ true) → a ≡ b
same_test true b f g = sym (f refl)
same_test false true f g = g refl
same_test false false f g = refl

-- more rows pass where every row that passed does, and one more
count_less : (f g : ℕ → Bool) (n t : ℕ) → ((i : ℕ) → i < n → f i ≡ true → g i ≡ true) → t < n → f t ≡ false → g t ≡ true → count n f + 1 ≤ count n g
count_less f g zero t h l a b = absurd (not-suc-le-zero l)
count_less f g (suc n) t h l a b = go (eq-or-lt_of_le (le_of_suc-le-suc l)) (λ k. count_less f g n t (λ i j. h i (omega arith)) k a b)
  where
    at_most : (m : ℕ) → m ≤ suc n → count m f ≤ count m g
    at_most zero k = omega (arith, no_count f)
    at_most (suc m) k = pick (f m) refl (g m) refl (at_most m (omega arith))
      where
        pick : (x : Bool) → f m ≡ x → (y : Bool) → g m ≡ y → count m f ≤ count m g → count (suc m) f ≤ count (suc m) g
        pick true p true q r = omega (arith, with_row f m p, with_row g m q)
        pick true p false q r = absurd (true≢false (sym (h m k p) ∙ q))
        pick false p true q r = omega (arith, without_row f m p, with_row g m q)
        pick false p false q r = omega (arith, without_row f m p, without_row g m q)

    last : (x : Bool) → f n ≡ x → (y : Bool) → g n ≡ y → count n f + 1 ≤ count n g → count (suc n) f + 1 ≤ count (suc n) g
    last true p true q r = omega (arith, with_row f n p, with_row g n q)
    last true p false q r = absurd (true≢false (sym (h n (omega arith) p) ∙ q))
    last false p true q r = omega (arith, without_row f n p, with_row g n q)
    last false p false q r = omega (arith, without_row f n p, without_row g n q)

    go : (t ≡ n) ⊎ (t < n) → (t < n → count n f + 1 ≤ count n g) → count (suc n) f + 1 ≤ count (suc n) g
    go (inl e) k =
        let p : f n ≡ false = ap f (sym e) ∙ a in
        let q : g n ≡ true = ap g (sym e) ∙ b in
        omega (arith, without_row f n p, with_row g n q, at_most n (omega arith))
    go (inr j) k = last (f n) refl (g n) refl (k j)

module _ (m : ℕ) (step : ℕ → ℕ → Bool) (b : ℕ) where
  abbrev L : ℕ → ℕ → Bool
  L n a = leads m step n a b

  -- by one step more: there already, or a step and then as many
  pub on : (n a : ℕ) → L (suc n) a ≡ true → (a ≡ b) ⊎ ((t : ℕ) × (t < m) × (step a t ≡ true) × (L n t ≡ true))
  unfolding leads
  on n a e = go (or_cases (eqb a b) (any m (λ t. step a t && leads m step n t b)) e)
    where
      go : (eqb a b ≡ true) ⊎ (any m (λ t. step a t && leads m step n t b) ≡ true) → (a ≡ b) ⊎ ((t : ℕ) × (t < m) × (step a t ≡ true) × (L n t ≡ true))
      go (inl h) = inl (eqb-true a b h)
      go (inr h) =
          let w = any_row (λ t. step a t && leads m step n t b) m h in
          let p = and_true (step a w.0) (leads m step n w.0 b) w.2 in
          inr (w.0, w.1, p.0, p.1)

  pub there : (n a : ℕ) → a ≡ b → L n a ≡ true
  unfolding leads
  there zero a e = eq-eqb a b e
  there (suc n) a e = rw (eq-eqb a b e) refl

  pub by_step : (n a t : ℕ) → t < m → step a t ≡ true → L n t ≡ true → L (suc n) a ≡ true
  unfolding leads
  by_step n a t l e h = either (eqb a b) _ (inr (row_any (λ u. step a u && leads m step n u b) m t l (both e h)))

  pub more : (n a : ℕ) → L n a ≡ true → L (suc n) a ≡ true
  unfolding leads
  more zero a e = there 1 a (eqb-true a b e)
  more (suc n) a e = go (on n a e) (more n)
    where
      go : (a ≡ b) ⊎ ((t : ℕ) × (t < m) × (step a t ≡ true) × (L n t ≡ true)) → ((t : ℕ) → L n t ≡ true → L (suc n) t ≡ true) → L (suc (suc n)) a ≡ true
      go (inl h) k = there (suc (suc n)) a h
      go (inr w) k = by_step (suc n) a w.0 w.1 w.2 (k w.0 w.3)

  -- nothing new among the rows below m
  abbrev Settled : ℕ → Type 0
  Settled n = (t : ℕ) → t < m → L (suc n) t ≡ true → L n t ≡ true

  -- then nothing new from any row, from there on
  settled_on : (n : ℕ) → Settled n → (a : ℕ) → L (suc (suc n)) a ≡ true → L (suc n) a ≡ true
  settled_on n h a e = go (on (suc n) a e)
    where
      go : (a ≡ b) ⊎ ((t : ℕ) × (t < m) × (step a t ≡ true) × (L (suc n) t ≡ true)) → L (suc n) a ≡ true
      go (inl k) = there (suc n) a k
      go (inr w) = by_step n a w.0 w.1 w.2 (h w.0 w.1 w.3)

  settled_later : (n k : ℕ) → Settled n → Settled (k + n)
  settled_later n zero h = let e : 0 + n ≡ n = omega arith in rw e h
  settled_later n (suc k) h = let e : suc k + n ≡ suc (k + n) = omega arith in rw e (λ t l. settled_on (k + n) (settled_later n k h) t)

  -- settled, or a row that is new
  tells : (n : ℕ) → Settled n ⊎ ((t : ℕ) × (t < m) × (L n t ≡ false) × (L (suc n) t ≡ true))
  tells n = go (any m new) refl
    where
      new : ℕ → Bool
      new t = not (L n t) && L (suc n) t

      go : (v : Bool) → any m new ≡ v → Settled n ⊎ ((t : ℕ) × (t < m) × (L n t ≡ false) × (L (suc n) t ≡ true))
      go true e = let w = any_row new m e in let p = and_true (not (L n w.0)) (L (suc n) w.0) w.2 in inr (w.0, w.1, not-true (L n w.0) p.0, p.1)
      go false e = inl (λ t l q. old t l q (L n t) refl)
        where
          old : (t : ℕ) → t < m → L (suc n) t ≡ true → (x : Bool) → L n t ≡ x → L n t ≡ true
          old t l q true p = p
          old t l q false p = absurd (true≢false (sym (row_any new m t l (both {a = not (L n t)} (ap not p) q)) ∙ e))

  module _ (hb : b < m) where
    -- each turn that is not settled finds a row
    grows : (n : ℕ) → ((k : ℕ) × (k < n) × Settled k) ⊎ (n + 1 ≤ count m (L n))
    grows zero = inr (omega (arith, count_lt (L 0) b m hb (there 0 b refl)))
    grows (suc n) = go (grows n) (tells n)
      where
        go : ((k : ℕ) × (k < n) × Settled k) ⊎ (n + 1 ≤ count m (L n)) → Settled n ⊎ ((t : ℕ) × (t < m) × (L n t ≡ false) × (L (suc n) t ≡ true))
            → ((k : ℕ) × (k < suc n) × Settled k) ⊎ (suc n + 1 ≤ count m (L (suc n)))
        go (inl w) d = inl (w.0, omega (arith, w.1), w.2)
        go (inr h) (inl w) = inl (n, omega arith, w)
        go (inr h) (inr w) = inr (omega (arith, count_less (L n) (L (suc n)) m w.0 (λ i l e. more n i e) w.1 w.2 w.3))

    settled_in : (n : ℕ) × (n < m) × Settled n
    settled_in = go (grows m)
      where
        go : ((k : ℕ) × (k < m) × Settled k) ⊎ (m + 1 ≤ count m (L m)) → (n : ℕ) × (n < m) × Settled n
        go (inl w) = w
        go (inr h) = absurd (omega (arith, count_most (L m) m))

  -- only a row below m is reached from one
  reached_below : (n a : ℕ) → a < m → L n a ≡ true → b < m
  unfolding leads
  reached_below zero a l e = let q = eqb-true a b e in omega arith
  reached_below (suc n) a l e = go (on n a e) (reached_below n)
    where
      go : (a ≡ b) ⊎ ((t : ℕ) × (t < m) × (step a t ≡ true) × (L n t ≡ true)) → ((t : ℕ) → t < m → L n t ≡ true → b < m) → b < m
      go (inl q) k = omega arith
      go (inr w) k = k w.0 w.1 w.3

  -- m steps are enough
  pub enough : (a : ℕ) → L (suc m) a ≡ true → L m a ≡ true
  enough a e = go (dec_lt b m) (on m a e)
    where
      below : b < m → L m a ≡ true
      below hb =
          let w = settled_in hb in
          let k : ℕ = m - 1 - w.0 in
          let p : suc (k + w.0) ≡ m = omega (arith, w.1) in
          let h = settled_on (k + w.0) (settled_later w.0 k w.2) a in
          subst (λ (n : ℕ). L n a ≡ true) p (h (subst (λ (n : ℕ). L (suc n) a ≡ true) (sym p) e))

      go : Dec (b < m) → (a ≡ b) ⊎ ((t : ℕ) × (t < m) × (step a t ≡ true) × (L m t ≡ true)) → L m a ≡ true
      go (yes hb) d = below hb
      go (no hb) (inl q) = there m a q
      go (no hb) (inr w) = absurd (hb (reached_below m w.0 w.1 w.3))
