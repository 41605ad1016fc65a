-- Every word of an accepted plan's tables fits 32 bits.
use Prim.Native.Nat.{ℕ, zero, suc, ◌+◌, ◌-◌, ◌≤◌, ◌<◌}
use mathlib.Core.Path.{◌≡◌, refl}
use mathlib.Core.Bool.{Bool, true, false, cond}
use mathlib.Core.List.{List, ◌∷◌, []}
use native.Mathlib.Omega.{arith}
use lib.Dec.{ltb}
use Rattle.std.specs.Prelude.{Option}
use Rattle.std.specs.Prelude.{Some, None}
use Rattle.plan.specs.declared.Table.{Table}
use Rattle.plan.specs.declared.Table.TheVariants.{Cores, Windows, Pieces, Frames}
use Rattle.plan.specs.Image.{shape, rows, cycle_ticks, piece, window, most_pieces}
use Rattle.plan.specs.Questions.{answer_of, accepted, switch_ticks, charge}
use Rattle.plan.specs.Dispatch.{Shown, show, piece_at, window_at, frame_at, on_core, on_link, shown_at, begins, entries, table_of, tables_below}
use Rattle.plan.proofs.Showing.{core_piece, core_window, core_idle, link_frame, link_idle}
use Rattle.plan.proofs.Searching.{first_at}
use Rattle.lanes.proofs.Accepted.{cycle_small}
use Rattle.plan.proofs.Sounds.{accepted_sound}
use Rattle.words.proofs.Words.{Fit, fit_append}
use Rattle.writing.proofs.AllTables.{count_small}

-- what is shown is of a small kind and a row that there is
abbrev pub Small : Shown → Type 0
Small x = (x.kind < 6) × (x.row < most_pieces)

small_either : (b : Bool) (x y : Shown) → Small x → Small y → Small (cond b x y)
small_either true x y h k = h
small_either false x y h k = k

small_show : (k r : ℕ) → k < 6 → r < most_pieces → Small (show k r)
unfolding show
small_show k r h l = (h, l)

module _ (s : List ℕ) (e : answer_of s ≡ accepted) where
  few : (t : Table) → (shape t).most ≤ most_pieces → (i : ℕ) → i < rows s t → i < most_pieces
  few t h i l = omega (arith, (accepted_sound s e).inside.counts t)

  core_small : (core t : ℕ) → Small (on_core s core t)
  unfolding piece_at window_at shape
  core_small core t = go (piece_at s core t) refl (window_at s core t) refl
    where
      go : (f : Option ℕ) → piece_at s core t ≡ f → (g : Option ℕ) → window_at s core t ≡ g → Small (on_core s core t)
      go (Some i) p g q =
          let l = few Pieces (omega arith) i (first_at _ _ i p).0 in
          rw (core_piece s core t i p) (small_either (ltb t ((piece s i).start + switch_ticks s (piece s i).task)) (show 3 i) (show 4 i) (small_show 3 i (omega arith) l) (small_show 4 i (omega arith) l))
      go None p (Some w) q =
          let l = few Windows (omega arith) w (first_at _ _ w q).0 in
          rw (core_window s core t w p q) (small_either (ltb t ((window s w).start + charge s w)) (show 1 w) (show 2 w) (small_show 1 w (omega arith) l) (small_show 2 w (omega arith) l))
      go None p None q = rw (core_idle s core t p q) (small_show 0 0 (omega arith) (omega arith))

  link_small : (link t : ℕ) → Small (on_link s link t)
  unfolding frame_at shape
  link_small link t = go (frame_at s link t) refl
    where
      go : (f : Option ℕ) → frame_at s link t ≡ f → Small (on_link s link t)
      go (Some i) p = rw (link_frame s link t i p) (small_show 5 i (omega arith) (few Frames (omega arith) i (first_at _ _ i p).0))
      go None p = rw (link_idle s link t p) (small_show 0 0 (omega arith) (omega arith))

  pub shown_small : (lane t : ℕ) → Small (shown_at s lane t)
  unfolding shown_at
  shown_small lane t =
      small_either (ltb lane (rows s Cores)) (on_core s lane t) (on_link s (lane - rows s Cores) t) (core_small lane t) (link_small (lane - rows s Cores) t)

  entries_fit : (lane n : ℕ) → n ≤ cycle_ticks s → Fit (entries s lane n)
  unfolding entries
  entries_fit lane zero l = tt
  entries_fit lane (suc t) l = fit_append (entries s lane t) _ (entries_fit lane t (omega arith)) (go (begins s lane t))
    where
      go : (b : Bool) → Fit (cond b (t ∷ (shown_at s lane t).kind ∷ (shown_at s lane t).row ∷ []) [])
      go true = let h = shown_small lane t in (omega (arith, cycle_small s e), (omega (arith, h.0), (omega (arith, h.1), tt)))
      go false = tt

  pub table_fits : (lane : ℕ) → Fit (table_of s lane)
  unfolding table_of
  table_fits lane =
      (omega (arith, cycle_small s e), (omega (arith, count_small s e lane), entries_fit lane (cycle_ticks s) (omega arith)))

  pub below_fits : (n : ℕ) → Fit (tables_below s n)
  unfolding tables_below
  below_fits zero = tt
  below_fits (suc n) = fit_append (tables_below s n) (table_of s n) (below_fits n) (table_fits n)
