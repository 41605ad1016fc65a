-- Rows gathered by place: a word for each place, brought up to date row by row. Any rows, any places, any way of joining values.
use Rattle.std.specs.Prelude.{ℕ, zero, suc, ◌+◌, max, ◌<◌, ◌≤◌, ◌≡◌, cond, List, eqb, length, get_or}

-- the values of the rows below n at place p, joined by `op` from `none` on
unfoldable pub tally : (ℕ → ℕ → ℕ) → ℕ → (ℕ → ℕ) → (ℕ → ℕ) → ℕ → ℕ → ℕ
tally op none place value zero p = none
tally op none place value (suc n) p =
    cond (eqb (place n) p) (op (tally op none place value n p) (value n)) (tally op none place value n p)

-- the latest end of the rows below n at place p, 0 for none
unfoldable pub latest : (ℕ → ℕ) → (ℕ → ℕ) → ℕ → ℕ → ℕ
latest = tally max 0

-- a word for each of `many` places, from word `base` on, holds what a definition gives of the place
pub record Kept (words : List ℕ) (base many : ℕ) (value : ℕ → ℕ) : Type 0 where
  pub room : base + many ≤ length words
  pub each : (p : ℕ) → p < many → get_or words (base + p) 0 ≡ value p
