-- Two rows of intervals whose starts rise, walked side by side: where one ends before the other begins, it need not be looked at again.
-- Over any intervals.
use Prim.Native.Nat.{ℕ, ◌+◌, ◌≤◌, ◌<◌}
use mathlib.Core.Path.{◌≡◌, refl, sym, ap, ◌∙◌}
use mathlib.Core.Logic.{◌⊎◌, inl, inr}
use mathlib.Core.Bool.{Bool, true, false, not, ◌&&◌}
use native.Mathlib.Nat.{not-suc-le-zero}
use native.Mathlib.Omega.{arith}
use native.Mathlib.Decide.{dec_lt}
use lib.Dec.{ltb}
use borrow.Author.Tests.{ltb-false}
use Rattle.plan.specs.Search.{Interval, overlap, all}
use Rattle.plan.proofs.Searching.{yes_all, all_stops}
use Rattle.plan.proofs.Tests.{r_apart}

module _ (f g : ℕ → Interval) (m n : ℕ) where
  -- the intervals are apart, of every pair of which one has been passed
  abbrev pub ApartTo : ℕ → ℕ → Type 0
  ApartTo j k = (x y : ℕ) → x < m → y < n → (x < j) ⊎ (y < k) → not (overlap (f x) (g y)) ≡ true

  pub apart_none : ApartTo 0 0
  apart_none x y l h (inl q) = absurd (not-suc-le-zero q)
  apart_none x y l h (inr q) = absurd (not-suc-le-zero q)

  -- all pairs are
  pub apart_all : (j k : ℕ) → (m ≤ j) ⊎ (n ≤ k) → ApartTo j k → all m (λ x. all n (λ y. not (overlap (f x) (g y)))) ≡ true
  apart_all j k e h = yes_all _ m (λ x l. yes_all _ n (λ y r. h x y l r (passed x y l r e)))
    where
      passed : (x y : ℕ) → x < m → y < n → (m ≤ j) ⊎ (n ≤ k) → (x < j) ⊎ (y < k)
      passed x y l r (inl q) = inl (omega arith)
      passed x y l r (inr q) = inr (omega arith)

  -- one pair is not
  pub not_apart : (j k : ℕ) → j < m → k < n → overlap (f j) (g k) ≡ true → all m (λ x. all n (λ y. not (overlap (f x) (g y)))) ≡ false
  not_apart j k l r e = all_stops _ m j l (all_stops _ n k r (rw e refl))

  module _ (j k : ℕ) (h : ApartTo j k) where
    -- f j ends before g k begins, and so before every later one of g begins
    pub pass_left : ((x y : ℕ) → x ≤ y → y < n → (g x).from ≤ (g y).from) → (f j).to ≤ (g k).from → ApartTo (j + 1) k
    pass_left rise e x y l r (inr q) = h x y l r (inr q)
    pass_left rise e x y l r (inl q) = pick (dec_lt x j) (dec_lt y k)
      where
        pick : Dec (x < j) → Dec (y < k) → not (overlap (f x) (g y)) ≡ true
        pick (yes a) d = h x y l r (inl a)
        pick (no a) (yes b) = h x y l r (inr b)
        pick (no a) (no b) =
            let t : x ≡ j = omega arith in
            (r_apart (f x) (g y)).1 (inl (let u = ap (λ (z : ℕ). (f z).to) t in let v = rise k y (omega arith) r in omega arith))

    -- g k ends before f j begins
    pub pass_right : ((x y : ℕ) → x ≤ y → y < m → (f x).from ≤ (f y).from) → (g k).to ≤ (f j).from → ApartTo j (k + 1)
    pass_right rise e x y l r (inl q) = h x y l r (inl q)
    pass_right rise e x y l r (inr q) = pick (dec_lt x j) (dec_lt y k)
      where
        pick : Dec (x < j) → Dec (y < k) → not (overlap (f x) (g y)) ≡ true
        pick (yes a) d = h x y l r (inl a)
        pick (no a) (yes b) = h x y l r (inr b)
        pick (no a) (no b) =
            let t : y ≡ k = omega arith in
            (r_apart (f x) (g y)).1 (inr (let u = ap (λ (z : ℕ). (g z).to) t in let v = rise j x (omega arith) l in omega arith))

-- of two intervals that do not overlap, where the first does not end before the second begins, the second ends before the first begins
pub other_side : (a b : Interval) → overlap a b ≡ false → b.from < a.to → b.to ≤ a.from
unfolding overlap
other_side a b e l = go (ltb a.from b.to) (ltb b.from a.to) refl refl e
  where
    go : (p q : Bool) → ltb a.from b.to ≡ p → ltb b.from a.to ≡ q → ltb a.from b.to && ltb b.from a.to ≡ false → b.to ≤ a.from
    go false q x y z = ltb-false a.from b.to x
    go true false x y z = absurd (let w = ltb-false b.from a.to y in omega arith)
    go true true x y z = absurd (mathlib.Core.Bool.true≢false (sym (rw (x, y) refl) ∙ z))
