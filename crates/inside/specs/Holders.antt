-- The window of a VCPU that a piece may lie in: the last one to begin by the piece's start.
use Rattle.std.specs.Prelude.{ℕ, zero, suc, ◌+◌, ◌<◌, ◌≤◌, Bool, false, List}
use Rattle.plan.specs.declared.Table.TheVariants.{Windows}
use Rattle.plan.specs.Image.{rows, window, task, piece}
use Rattle.plan.specs.Questions.{inside}
use Rattle.tallies.specs.Tallies.{latest}

-- of the windows below n, the last one of a VCPU: one more than its row, 0 for none
unfoldable pub holders : List ℕ → ℕ → ℕ → ℕ
holders s = latest (λ w. (window s w).vcpu) (λ w. w + 1)

-- is a piece inside the window so named
unfoldable pub inside_last : List ℕ → ℕ → ℕ → Bool
inside_last s i zero = false
inside_last s i (suc w) = inside s i w

unfoldable pub vcpu_of : List ℕ → ℕ → ℕ
vcpu_of s i = (task s (piece s i).task).vcpu

-- the windows below n begin by a tick
abbrev pub Starting : List ℕ → ℕ → ℕ → Type 0
Starting s tick n = (w : ℕ) → w < n → (window s w).start ≤ tick

-- and those are all
pub record Begun (s : List ℕ) (tick n : ℕ) : Type 0 where
  pub rows_most : n ≤ rows s Windows
  pub begun : Starting s tick n
  pub next : n < rows s Windows → tick < (window s n).start
