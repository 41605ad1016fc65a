-- Ticks in cycles of h, and the next tick 0.
use Prim.Native.Nat.{ℕ, suc, ◌+◌, ◌-◌, ◌*◌, ◌/◌, ◌%◌, ◌≤◌, ◌<◌}
use mathlib.Core.Path.{◌≡◌, sym, ap, ◌∙◌}
use mathlib.Core.Logic.{◌≢◌}
use native.Mathlib.Nat.{le_of_suc-le-suc, mod-lt, div-add-mod', suc-mul, add-zero, mul-le-mul_right, div-lt_iff_lt-mul}
use native.Mathlib.Numerals.{add-one}
use native.Mathlib.Omega.{arith}
use native.Mathlib.Decide.{dec_lt}
use lib.Arith.{digits_div, digits_mod}
use Rattle.modes.specs.Claim.{next_start}

module _ (h : ℕ) (pos : 1 ≤ h) where
  pub same_cycle : (n : ℕ) → (n + 1) % h ≢ 0 → (n + 1) / h ≡ n / h
  same_cycle n d = go (dec_lt (suc (n % h)) h)
    where
      go : Dec (suc (n % h) < h) → (n + 1) / h ≡ n / h
      go (yes l) =
          let q : n + 1 ≡ n / h * h + suc (n % h) = omega (arith, div-add-mod' n h) in
          ap (λ (x : ℕ). x / h) q ∙ digits_div (n / h) l
      go (no l) =
          let q : n + 1 ≡ suc (n / h) * h + 0 = omega (arith, div-add-mod' n h, suc-mul (n / h) h, mod-lt n pos) in
          absurd (d (ap (λ (x : ℕ). x % h) q ∙ digits_mod (suc (n / h)) pos))

  pub whole_cycles : (n : ℕ) → n % h ≡ 0 → n / h * h ≡ n
  whole_cycles n e = omega (arith, div-add-mod' n h)

  pub in_cycle_holds : (n : ℕ) → n % h ≢ 0 → n / h * h < n
  in_cycle_holds n d = omega (arith, div-add-mod' n h)

  -- the next tick 0
  pub next_low : (n : ℕ) → n ≤ next_start h n
  unfolding next_start
  next_low n = omega (arith, div-add-mod' (n + (h - 1)) h, mod-lt (n + (h - 1)) pos)

  pub next_high : (n : ℕ) → next_start h n ≤ n + (h - 1)
  unfolding next_start
  next_high n = omega (arith, div-add-mod' (n + (h - 1)) h)

  pub next_is_start : (n : ℕ) → next_start h n % h ≡ 0
  unfolding next_start
  next_is_start n = ap (λ (x : ℕ). x % h) (sym (add-zero ((n + (h - 1)) / h * h))) ∙ digits_mod ((n + (h - 1)) / h) pos

  -- no tick between is a tick 0
  pub none_between : (n i : ℕ) → n ≤ i → i < next_start h n → i % h ≢ 0
  unfolding next_start
  none_between n i l k e =
      let q : i / h * h ≡ i = whole_cycles i e in
      let b : (n + (h - 1)) / h < suc (i / h) = (div-lt_iff_lt-mul {k = h} {x = n + (h - 1)} {y = suc (i / h)} pos).1 (omega (arith, suc-mul (i / h) h)) in
      let m : (n + (h - 1)) / h * h ≤ i / h * h = mul-le-mul_right h (le_of_suc-le-suc b) in
      omega arith

  -- a request in a cycle is due at the next one
  pub next_cycle : (n : ℕ) → n % h ≢ 0 → next_start h n ≡ (n / h + 1) * h
  unfolding next_start
  next_cycle n d =
      let q : n + (h - 1) ≡ suc (n / h) * h + (n % h - 1) = omega (arith, div-add-mod' n h, suc-mul (n / h) h) in
      let r : n % h - 1 < h = omega (arith, mod-lt n pos) in
      ap (λ (x : ℕ). x / h * h) q ∙ ap (λ (x : ℕ). x * h) (digits_div (suc (n / h)) r ∙ sym (add-one (n / h)))
