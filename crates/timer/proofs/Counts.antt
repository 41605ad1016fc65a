-- Counts modulo 2^32.
use Rattle.std.proofs.Common.{◌≡◌, ℕ, ◌+◌, ◌-◌, ◌%◌, ◌^◌, ◌<◌, ◌≤◌, arith}
use Rattle.timer.specs.Registers.{wrap, minus}

-- what added to b wraps to a is a less b
pub is_minus : (r a b : ℕ) → r < 2 ^ 32 → b < 2 ^ 32 → (r + b) % 2 ^ 32 ≡ a → r ≡ minus a b
unfolding minus wrap
is_minus r a b l m e = omega arith

-- the ticks gone by, where fewer than 2^32 have passed
pub gone_by : (a b : ℕ) → a ≤ b → b < a + 2 ^ 32 → minus (wrap b) (wrap a) ≡ b - a
unfolding minus wrap
gone_by a b l m = omega arith

-- compare less a count: the ticks until the counter comes to compare
pub comes_in : (a c j : ℕ) → c < 2 ^ 32 → j < 2 ^ 32 → wrap (a + j) ≡ c → minus c (wrap a) ≡ j
unfolding minus wrap
comes_in a c j l m e = omega arith

pub comes_at : (a c : ℕ) → c < 2 ^ 32 → wrap (a + minus c (wrap a)) ≡ c
unfolding minus wrap
comes_at a c l = omega arith

-- further ticks, counted from a count
pub wrap_on : (a n : ℕ) → wrap (wrap a + n) ≡ wrap (a + n)
unfolding wrap
wrap_on a n = omega arith
