-- A number's digits, put one after another.
use Prim.Native.Nat.{ℕ, ◌+◌, ◌/◌, ◌%◌, ◌^◌, ◌≤◌, ◌<◌}
use mathlib.Core.Path.{◌≡◌, sym, ap, ◌∙◌}
use mathlib.Core.List.{List}
use native.Mathlib.Omega.{arith}
use lib.ListN.{set}
use Rattle.texts.specs.Characters.{decimal}
use Rattle.lines.specs.Putting.{Put}
use Rattle.texts.proofs.Digits.{decimal_low, decimal_high, decimal_ten}
use Rattle.lines.proofs.Storing.{put_one, put_more, put_as}

module _ (b : List ℕ) (at n : ℕ) where
  -- one digit
  pub low_put : n < 10 → (after : List ℕ) → after ≡ set b at (48 + n) → Put b at (decimal n) 10 (at + 1) after
  low_put l after e =
      let q : 48 + n ≡ n + 48 = omega arith in
      put_as b at (sym (decimal_low n l)) (omega arith) (put_one b at (n + 48) after (e ∙ ap (set b at) q))

  -- the last digit after the others
  pub high_put : 10 ≤ n → n < 2 ^ 32 → {place : ℕ} {mid : List ℕ} → Put b at (decimal (n / 10)) 10 place mid
      → (after : List ℕ) → after ≡ set mid place (48 + n % 10) → Put b at (decimal n) 10 (place + 1) after
  high_put l k {place} {mid} h after e =
      let q : 48 + n % 10 ≡ n % 10 + 48 = omega arith in
      let p = put_as b at {n = 11} (sym (decimal_high n l)) (omega arith) (put_more b at h (put_one mid place (n % 10 + 48) after (e ∙ ap (set mid place) q))) in
      record { reached = p.reached; few = omega (arith, p.reached, decimal_ten n k); holds = p.holds }
