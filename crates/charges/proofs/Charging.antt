-- Charges are found window by window.
use Prim.Native.Nat.{ℕ, ◌+◌, ◌<◌}
use mathlib.Core.Path.{◌≡◌, refl, ◌∙◌}
use mathlib.Core.List.{List}
use native.Mathlib.Omega.{arith}
use lib.ListN.{length, set, length-set}
use Rattle.plan.specs.Questions.{charge}
use Rattle.tallies.proofs.Tallying.{kept_none, kept_on}
use Rattle.charges.specs.Charges.{ChargedTo}
use Rattle.plan.specs.Image.{most_windows}

module _ (s : List ℕ) where
  pub charged_none : (charges : List ℕ) → length charges ≡ most_windows → ChargedTo s charges 0
  charged_none charges e = record { size = e; each = kept_none charges 0 _ (omega arith) }

  pub charged_more : (charges : List ℕ) (n : ℕ) → n < most_windows → ChargedTo s charges n → ChargedTo s (set charges n (charge s n)) (n + 1)
  charged_more charges n l h =
      record {
        size = length-set charges n (charge s n) ∙ h.size;
        each = kept_on charges n _ h.each (omega (arith, h.size)) (charge s n) refl;
      }
