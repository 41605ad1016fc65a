-- The charge of every window, found once and kept in a word each.
use Rattle.std.specs.Prelude.{ℕ, ◌≡◌, List, length}
use Rattle.plan.specs.declared.Table.TheVariants.{Windows}
use Rattle.plan.specs.Image.{rows, window, most_windows}
use Rattle.plan.specs.Questions.{window_end, charge}
use Rattle.tallies.specs.Tallies.{latest, Kept}

-- the latest end of the windows below n of a VCPU, and of the windows below w of w's own
unfoldable pub ends_before : List ℕ → ℕ → ℕ → ℕ
ends_before s = latest (λ u. (window s u).vcpu) (window_end s)

unfoldable pub end_before : List ℕ → ℕ → ℕ
end_before s w = ends_before s w (window s w).vcpu

-- of the windows below n
pub record ChargedTo (s charges : List ℕ) (n : ℕ) : Type 0 where
  pub size : length charges ≡ most_windows
  pub each : Kept charges 0 n (charge s)

abbrev pub Charged : List ℕ → List ℕ → Type 0
Charged s charges = ChargedTo s charges (rows s Windows)
