-- A window keeps its core exactly if the latest end of the lower windows of its VCPU is its start, where none of them ends later and
-- it is not empty. Rows are in order, so a higher window of the VCPU ends there only if it is as empty.
use Prim.Native.Nat.{ℕ, zero, suc, ◌+◌, ◌-◌, max, ◌<◌, ◌≤◌}
use mathlib.Core.Path.{◌≡◌, refl, sym, ◌∙◌, subst}
use mathlib.Core.Logic.{◌⊎◌, inl, inr, ◌≢◌}
use mathlib.Core.Bool.{Bool, true, false}
use mathlib.Core.List.{List, ◌∷◌, []}
use native.Mathlib.Nat.{eq-or-lt_of_le}
use native.Mathlib.Decide.{dec_lt}
use native.Mathlib.Omega.{arith}
use lib.ListN.{length, get_or, set}
use borrow.Author.Tests.{eq-eqb, eqb-true, eqb-false, ne_eqb, lt-ltb, le-ltb, not-true}
use Rattle.plan.specs.declared.Table.TheVariants.{Cores, Vcpus, Windows}
use Rattle.plan.specs.Image.{rows, shape, window, core, most_vcpus}
use Rattle.plan.specs.Questions.{window_core, window_end, keeps_from, keeps_core, charge, order_words}
use Rattle.plan.specs.Reading.{Rises}
use Rattle.plan.specs.Held.{Sound}
use Rattle.plan.proofs.Searching.{and_true, any_stops}
use Rattle.plan.proofs.Kept.{any_false}
use Rattle.plan.proofs.Orders.{windows_rise}
use Rattle.tallies.specs.Tallies.{Kept}
use Rattle.tallies.proofs.Tallying.{kept_at}
use Rattle.tallies.proofs.Latest.{ends_by, latest_row, latest_fresh, latest_on}
use Rattle.charges.specs.Charges.{ends_before, end_before}

-- ---- words that rise from row to row rise from any row to any later one

rises_self : (xs : List ℕ) → Rises xs xs
rises_self [] = tt
rises_self (x ∷ xs) = inr (refl, rises_self xs)

rises_on : (xs ys zs : List ℕ) → Rises xs ys → Rises ys zs → Rises xs zs
rises_on [] ys zs a b = tt
rises_on (x ∷ xs) [] zs a b = absurd a
rises_on (x ∷ xs) (y ∷ ys) [] a b = absurd b
rises_on (x ∷ xs) (y ∷ ys) (z ∷ zs) a b = go a b (rises_on xs ys zs)
  where
    go : (x < y) ⊎ ((x ≡ y) × Rises xs ys) → (y < z) ⊎ ((y ≡ z) × Rises ys zs) → (Rises xs ys → Rises ys zs → Rises xs zs) → (x < z) ⊎ ((x ≡ z) × Rises xs zs)
    go (inl l) (inl m) k = inl (omega arith)
    go (inl l) (inr m) k = inl (omega (arith, m.0))
    go (inr l) (inl m) k = inl (omega (arith, l.0))
    go (inr l) (inr m) k = inr (l.0 ∙ m.0, k l.1 m.1)

module _ (words : ℕ → List ℕ) (n : ℕ) (up : (r : ℕ) → r < n → 1 ≤ r → Rises (words (r - 1)) (words r)) where
  rises_to : (r q : ℕ) → q ≤ r → r < n → Rises (words q) (words r)
  rises_to zero q l m = let e : q ≡ 0 = omega arith in subst (λ (x : ℕ). Rises (words x) (words 0)) (sym e) (rises_self (words 0))
  rises_to (suc r) q l m = go (eq-or-lt_of_le l) (λ k. rises_to r q k (omega arith))
    where
      go : (q ≡ suc r) ⊎ (q < suc r) → (q ≤ r → Rises (words q) (words r)) → Rises (words q) (words (suc r))
      go (inl e) k = subst (λ (x : ℕ). Rises (words x) (words (suc r))) (sym e) (rises_self (words (suc r)))
      go (inr e) k =
          let d : suc r - 1 ≡ r = omega arith in
          rises_on (words q) (words r) (words (suc r)) (k (omega arith)) (subst (λ (x : ℕ). Rises (words x) (words (suc r))) d (up (suc r) m (omega arith)))

not_yes : (b : Bool) → (b ≡ true → ⊥) → b ≡ false
not_yes true h = absurd (h refl)
not_yes false h = refl

module _ (s : List ℕ) (h : Sound s) where
  -- of windows of one VCPU that begin together the later row is no shorter
  no_shorter : (w u : ℕ) → w ≤ u → u < rows s Windows → (window s u).start ≤ (window s w).start → (window s u).vcpu ≡ (window s w).vcpu → (window s w).length ≤ (window s u).length
  unfolding order_words
  no_shorter w u l m a b = first (rises_to (order_words s Windows) (rows s Windows) (h.order Windows) u w l m)
    where
      fourth : ((window s w).length < (window s u).length) ⊎ (((window s w).length ≡ (window s u).length) × Unit {0}) → (window s w).length ≤ (window s u).length
      fourth (inl x) = omega arith
      fourth (inr x) = omega (arith, x.0)

      third : {A : Type 0} → (A → (window s w).length ≤ (window s u).length)
          → ((window s w).start < (window s u).start) ⊎ (((window s w).start ≡ (window s u).start) × A) → (window s w).length ≤ (window s u).length
      third k (inl x) = absurd (omega arith)
      third k (inr x) = k x.1

      second : {A : Type 0} → (A → (window s w).length ≤ (window s u).length)
          → ((window s w).vcpu < (window s u).vcpu) ⊎ (((window s w).vcpu ≡ (window s u).vcpu) × A) → (window s w).length ≤ (window s u).length
      second k (inl x) = absurd (omega arith)
      second k (inr x) = k x.1

      first : Rises (order_words s Windows w) (order_words s Windows u) → (window s w).length ≤ (window s u).length
      first = third (second (third fourth))

  module _ (w : ℕ) (l : w < rows s Windows) where
    keeps_of : (u : ℕ) → keeps_from s w u ≡ true → (u ≢ w) × ((window s u).vcpu ≡ (window s w).vcpu) × (window_end s u ≡ (window s w).start)
    unfolding keeps_from
    keeps_of u e =
        let p = and_true _ _ e in let q = and_true _ _ p.0 in
        (eqb-false u w (not-true _ q.0), eqb-true _ _ q.1, eqb-true _ _ p.1)

    of_keeps : (u : ℕ) → u ≢ w → (window s u).vcpu ≡ (window s w).vcpu → window_end s u ≡ (window s w).start → keeps_from s w u ≡ true
    unfolding keeps_from
    of_keeps u a b c = rw (ne_eqb u w a, eq-eqb _ _ b, eq-eqb _ _ c) refl

    -- a lower window ends where it begins
    pub keeps : end_before s w ≡ (window s w).start → 0 < (window s w).start → 0 ≡ charge s w
    unfolding charge keeps_core end_before ends_before
    keeps e p =
        let r = latest_row (λ u. (window s u).vcpu) (window_end s) w (window s w).vcpu (omega arith) in
        let k = of_keeps r.0 (λ z. absurd (omega (arith, r.1))) r.2 (r.3 ∙ e) in
        let a = any_stops (keeps_from s w) (rows s Windows) r.0 (omega (arith, r.1)) k in
        rw (lt-ltb 0 (window s w).start p, a) refl

    -- at tick 0 none does
    pub pays_at_0 : (window s w).start ≡ 0 → (core s (window_core s w)).v ≡ charge s w
    unfolding charge keeps_core
    pays_at_0 e = rw (le-ltb 0 (window s w).start (omega arith)) refl

    ends_at : (u : ℕ) → window_end s u ≡ (window s u).start + (window s u).length
    unfolding window_end
    ends_at u = refl

    -- none ends where it begins
    none_keeps : end_before s w < (window s w).start → 0 < (window s w).length → (u : ℕ) → u < rows s Windows → keeps_from s w u ≡ true → ⊥
    unfolding end_before ends_before
    none_keeps e p u m k = let q = keeps_of u k in go (dec_lt u w) q
      where
        go : Dec (u < w) → (u ≢ w) × ((window s u).vcpu ≡ (window s w).vcpu) × (window_end s u ≡ (window s w).start) → ⊥
        go (yes d) q = let b = ends_by (λ x. (window s x).vcpu) (window_end s) w (window s w).vcpu u d q.1 in omega (arith, q.2)
        go (no d) q =
            let r = windows_rise s h w u (omega arith) m in
            let n = no_shorter w u (omega arith) m (omega (arith, ends_at u, q.2)) q.1 in
            omega (arith, ends_at u, q.2)

    pub pays : end_before s w < (window s w).start → 0 < (window s w).length → (core s (window_core s w)).v ≡ charge s w
    unfolding charge keeps_core
    pays e p = rw (any_false (rows s Windows) (keeps_from s w) (λ u m. not_yes (keeps_from s w u) (none_keeps e p u m)), lt-ltb 0 (window s w).start (omega arith)) refl

  pub core_exists : (w : ℕ) → w < rows s Windows → window_core s w < rows s Cores
  unfolding window_core
  core_exists w l = h.names Vcpus _ (h.names Windows w l)

  -- ---- the words of the VCPUs

  pub vcpu_most : (w : ℕ) → w < rows s Windows → (window s w).vcpu < most_vcpus
  unfolding shape
  vcpu_most w l = let c = h.inside.counts Vcpus in omega (arith, h.names Windows w l)

  pub none_ended : (ends : List ℕ) → Kept ends 0 most_vcpus (λ _. 0) → Kept ends 0 most_vcpus (ends_before s 0)
  unfolding ends_before
  none_ended ends = latest_fresh (λ u. (window s u).vcpu) (window_end s) ends most_vcpus

  module _ (ends : List ℕ) (w : ℕ) (l : w < rows s Windows) (k : Kept ends 0 most_vcpus (ends_before s w)) where
    pub vcpu_inside : (window s w).vcpu < length ends
    vcpu_inside = let m = k.room in omega (arith, vcpu_most w l)

    pub end_read : get_or ends (window s w).vcpu 0 ≡ end_before s w
    unfolding end_before
    end_read = kept_at ends most_vcpus (ends_before s w) k (window s w).vcpu (vcpu_most w l)

    pub ended_on : Kept (set ends (window s w).vcpu (max (get_or ends (window s w).vcpu 0) (window_end s w))) 0 most_vcpus (ends_before s (w + 1))
    unfolding ends_before
    ended_on = latest_on (λ u. (window s u).vcpu) (window_end s) ends most_vcpus w k (vcpu_most w l)
