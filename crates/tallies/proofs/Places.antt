-- Places of jobs: each has one of its own, and there are no more than pieces where every job has a piece.
use Prim.Native.Nat.{ℕ, zero, suc, ◌+◌, ◌-◌, ◌≤◌, ◌<◌}
use mathlib.Core.Path.{◌≡◌, refl, sym, ap, subst}
use mathlib.Core.Logic.{◌⊎◌, inl, inr}
use mathlib.Core.Bool.{Bool, true, false, cond}
use native.Mathlib.Nat.{not-suc-le-zero, eq-or-lt_of_le, le_of_suc-le-suc}
use native.Mathlib.Decide.{dec_lt}
use native.Mathlib.Omega.{arith}
use lib.Dec.{eqb}
use borrow.Author.Tests.{eqb-true, eq-eqb}
use Rattle.plan.specs.Search.{sum}
use Rattle.tallies.proofs.Sums.{sum_next, sum_zero, sum_le, sum_ones, swapped}

module _ (f : ℕ → ℕ) where
  pub sum_mono : (a b : ℕ) → a ≤ b → sum a f ≤ sum b f
  sum_mono a zero l = let e : a ≡ 0 = omega arith in subst (λ (x : ℕ). sum x f ≤ sum 0 f) (sym e) (omega arith)
  sum_mono a (suc b) l = go (eq-or-lt_of_le l) (λ q. sum_mono a b q)
    where
      go : (a ≡ suc b) ⊎ (a < suc b) → (a ≤ b → sum a f ≤ sum b f) → sum a f ≤ sum (suc b) f
      go (inl q) k = subst (λ (x : ℕ). sum x f ≤ sum (suc b) f) (sym q) (omega arith)
      go (inr q) k = let h = k (le_of_suc-le-suc q) in omega (arith, sum_next f b)

  -- the place of job k of task t lies below the places of later tasks
  pub place_below : (t n k : ℕ) → t < n → k < f t → sum t f + k < sum n f
  place_below t n k l h = omega (arith, sum_next f t, sum_mono (suc t) n l)

  -- no two jobs have one place
  pub place_one : (t k u j : ℕ) → k < f t → j < f u → sum t f + k ≡ sum u f + j → (t ≡ u) × (k ≡ j)
  place_one t k u j h g e = go (dec_lt t u) (dec_lt u t)
    where
      go : Dec (t < u) → Dec (u < t) → (t ≡ u) × (k ≡ j)
      go (yes l) d = absurd (omega (arith, place_below t u k l h))
      go (no l) (yes m) = absurd (omega (arith, place_below u t j m g))
      go (no l) (no m) = let q : t ≡ u = omega arith in (q, omega (arith, ap (λ (x : ℕ). sum x f) q))

  -- each place below the sum is one of a job
  pub place_of : (n v : ℕ) → v < sum n f → (t : ℕ) × (k : ℕ) × (t < n) × (k < f t) × (sum t f + k ≡ v)
  place_of zero v l = absurd (omega (arith, sum_zero f))
  place_of (suc n) v l = go (dec_lt v (sum n f)) (λ h. place_of n v h)
    where
      go : Dec (v < sum n f) → (v < sum n f → (t : ℕ) × (k : ℕ) × (t < n) × (k < f t) × (sum t f + k ≡ v))
          → (t : ℕ) × (k : ℕ) × (t < suc n) × (k < f t) × (sum t f + k ≡ v)
      go (yes h) r = let w = r h in (w.0, w.1, omega (arith, w.2), w.3, w.4)
      go (no h) r = (n, v - sum n f, omega arith, omega (arith, sum_next f n), omega arith)

-- ---- counting

-- one of v's values at the most is x
hits : ℕ → ℕ → ℕ
hits x v = cond (eqb x v) 1 0

hit : (x v : ℕ) → x ≡ v → hits x v ≡ 1
unfolding hits
hit x v e = rw (eq-eqb x v e) refl

few : (x m : ℕ) → (sum m (hits x) ≤ 1) × (m ≤ x → sum m (hits x) ≡ 0)
unfolding hits
few x zero = (omega (arith, sum_zero (hits x)), λ _. sum_zero (hits x))
few x (suc m) = go (eqb x m) refl (few x m)
  where
    go : (b : Bool) → eqb x m ≡ b → (sum m (hits x) ≤ 1) × (m ≤ x → sum m (hits x) ≡ 0)
        → (sum (suc m) (hits x) ≤ 1) × (suc m ≤ x → sum (suc m) (hits x) ≡ 0)
    go true e h =
        let q = eqb-true x m e in let w : hits x m ≡ 1 = rw e refl in let z = h.1 (omega arith) in
        (omega (arith, sum_next (hits x) m), λ l. absurd (omega arith))
    go false e h = let w : hits x m ≡ 0 = rw e refl in (omega (arith, sum_next (hits x) m), λ l. omega (arith, sum_next (hits x) m, h.1 (omega arith)))

at_least : (g : ℕ → ℕ) (n i : ℕ) → i < n → g i ≤ sum n g
at_least g zero i l = absurd (not-suc-le-zero l)
at_least g (suc n) i l = go (eq-or-lt_of_le (le_of_suc-le-suc l)) (λ q. at_least g n i q)
  where
    go : (i ≡ n) ⊎ (i < n) → (i < n → g i ≤ sum n g) → g i ≤ sum (suc n) g
    go (inl q) k = omega (arith, sum_next g n, ap g q)
    go (inr q) k = let h = k q in omega (arith, sum_next g n)

-- where each number below m is the value of one of n rows, m is at most n
pub covered : (value : ℕ → ℕ) (n m : ℕ) → ((v : ℕ) → v < m → (i : ℕ) × (i < n) × (value i ≡ v)) → m ≤ n
covered value n m h =
    let h' : ℕ → ℕ → ℕ = λ v i. hits (value i) v in
    let low = sum_le (λ _. 1) (λ v. sum n (h' v)) m (λ v l. let w = h v l in omega (arith, at_least (h' v) n w.0 w.1, hit (value w.0) v w.2)) in
    let high = sum_le (λ i. sum m (λ v. h' v i)) (λ _. 1) n (λ i l. (few (value i) m).0) in
    omega (arith, sum_ones m, sum_ones n, swapped h' m n)
