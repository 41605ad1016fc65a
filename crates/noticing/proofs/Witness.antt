-- Two load tools with the plans of crates/guests, from different cycles: at tick 17 VCPU 0 works in both by another piece row, at tick 12 VCPU 1 idles in the
-- one's window and switches tasks in the other.
use Prim.Native.Nat.{ℕ, zero, suc, ◌*◌, ◌%◌, ◌≤◌, ◌<◌}
use mathlib.Core.Path.{◌≡◌, refl, sym, ap, ◌∙◌}
use mathlib.Core.List.{◌∷◌, []}
use native.Mathlib.Omega.{arith}
use lib.ListN.{length, replicate}
use Rattle.plan.specs.Dispatch.{shown_at}
use Rattle.plan.specs.Boundary.{bytes_of, answer_number, check_number}
use Rattle.plan.specs.Cases.{bytes}
use Rattle.writing.specs.AllTables.{all_tables}
use Rattle.loading.specs.Loaded.{AreBytes, shown_bytes}
use Rattle.loading.proofs.Calls.{can_build_all}
use Rattle.guests.specs.Cases.{before, changed, cases}
use Rattle.guests.proofs.Witness.{alike}
use Rattle.noticing.specs.Noticing.{Tool, tick, shown, ToolsUnnoticed}
use Rattle.noticing.proofs.Tools.{tool_bytes, unnoticed_through_c}
use Rattle.noticing.proofs.Begun.{tools_there}

-- any bytes
zeros : (n : ℕ) → AreBytes (replicate n 0)
zeros zero i = omega arith
zeros (suc n) zero = omega arith
zeros (suc n) (suc i) = zeros n i

taken_both : (check_number (bytes before) ≡ 0) × (check_number (bytes changed) ≡ 0)
unfolding cases check_number answer_number
taken_both = (refl, refl)

enough : (4 * length (all_tables (bytes before)) ≤ 600) × (4 * length (all_tables (bytes changed)) ≤ 600)
unfolding cases all_tables
enough = (omega arith, omega arith)

-- lane 0 at tick n of cycle 5, of cycle 900
first_tool : (n : ℕ) → n < 24 → (a : Tool (bytes before) 0) × (tick a ≡ n % 24)
unfolding cases
first_tool n h =
    let w = tools_there (bytes before) (replicate 600 0) (replicate 56 0) 5 n 0 (zeros 600) (can_build_all (bytes before) (replicate 600 0) taken_both.0 enough.0) refl (omega arith) (omega arith) (omega arith) in
    (w.0, w.4)

second_tool : (n : ℕ) → n < 24 → (a : Tool (bytes changed) 0) × (tick a ≡ n % 24)
unfolding cases
second_tool n h =
    let w = tools_there (bytes changed) (replicate 600 0) (replicate 84 0) 900 n 0 (zeros 600) (can_build_all (bytes changed) (replicate 600 0) taken_both.1 enough.1) refl (omega arith) (omega arith) (omega arith) in
    (w.0, w.4)

module _ (n : ℕ) (h : n < 24) where
  abbrev one : Tool (bytes before) 0
  one = (first_tool n h).0

  abbrev other : Tool (bytes changed) 0
  other = (second_tool n h).0

  -- nobody but VCPU 1 notices at any tick
  unnoticed : ToolsUnnoticed (bytes before) (bytes changed) 1 0 one other
  unfolding cases
  unnoticed = unnoticed_through_c (bytes before) (bytes changed) 1 alike 0 (omega arith) one other ((first_tool n h).1 ∙ sym (second_tool n h).1)

  one_shows : shown one ≡ shown_bytes (shown_at (bytes before) 0 (n % 24))
  unfolding cases
  one_shows = tool_bytes (bytes before) 0 (omega arith) one ∙ ap (λ (x : ℕ). shown_bytes (shown_at (bytes before) 0 x)) (first_tool n h).1

  other_shows : shown other ≡ shown_bytes (shown_at (bytes changed) 0 (n % 24))
  unfolding cases
  other_shows = tool_bytes (bytes changed) 0 (omega arith) other ∙ ap (λ (x : ℕ). shown_bytes (shown_at (bytes changed) 0 x)) (second_tool n h).1

-- bytes 20 to 27: kind 4 and the piece's row
works_17 : (shown (one 17 (omega arith)) ≡ 4 ∷ 0 ∷ 0 ∷ 0 ∷ 2 ∷ 0 ∷ 0 ∷ 0 ∷ []) × (shown (other 17 (omega arith)) ≡ 4 ∷ 0 ∷ 0 ∷ 0 ∷ 3 ∷ 0 ∷ 0 ∷ 0 ∷ [])
unfolding cases bytes_of
works_17 = (one_shows 17 (omega arith), other_shows 17 (omega arith))

-- kind 2 and the window's row, kind 3 and the piece's
differs_12 : (shown (one 12 (omega arith)) ≡ 2 ∷ 0 ∷ 0 ∷ 0 ∷ 1 ∷ 0 ∷ 0 ∷ 0 ∷ []) × (shown (other 12 (omega arith)) ≡ 3 ∷ 0 ∷ 0 ∷ 0 ∷ 2 ∷ 0 ∷ 0 ∷ 0 ∷ [])
unfolding cases bytes_of
differs_12 = (one_shows 12 (omega arith), other_shows 12 (omega arith))
