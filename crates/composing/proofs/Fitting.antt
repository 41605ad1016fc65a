-- What 37 says, by the length that was counted.
use Rattle.std.proofs.Common.{Option, Some, None}
use Prim.Native.Nat.{ℕ, ◌+◌, ◌*◌, ◌≤◌, ◌<◌}
use mathlib.Core.Path.{◌≡◌, refl, sym, ap, ◌∙◌}
use mathlib.Core.Bool.{Bool, true, false, ◌&&◌}
use mathlib.Core.List.{List, ◌++◌}
use native.Mathlib.Omega.{arith}
use lib.Dec.{leb}
use lib.ListN.{length, drop}
use borrow.Author.Tests.{le-leb, lt-leb}
use Rattle.plan.specs.Image.{tables, trailer_bytes}
use Rattle.plan.proofs.Searching.{and_true}
use Rattle.joins.specs.Joins.{table_words, rows_fit, joined_rows, joined_image, join_fits}
use Rattle.composing.specs.Composing.{Tallied, Counted, Written}
use Rattle.composing.proofs.Writing.{joined_room}
use Rattle.joins.proofs.Laying.{trailer_is}

module _ (a b : List ℕ) (s : ℕ) (counts : List ℕ) where
  abbrev fit : Bool
  fit = rows_fit (joined_rows a b s) tables

  module _ (lent : List ℕ) where
    abbrev enough : Bool
    enough = leb (length (joined_image a b s)) (length lent)

    nothing : join_fits a b s (length lent) ≡ false → Written a b s lent None lent
    nothing e = record { size = rw e refl; bytes = rw e refl }

    -- 37 says no where there is no length
    pub too_many : Counted (joined_rows a b s) counts None → Written a b s lent None lent
    unfolding join_fits
    too_many h = nothing (go (fit && enough) refl)
      where
        go : (c : Bool) → fit && enough ≡ c → fit && enough ≡ false
        go true q = absurd (let y = (h.fits (and_true fit enough q).0).0 in cc)
        go false q = q

  module _ (n : ℕ) (h : Counted (joined_rows a b s) counts (Some n)) where
    -- a length that is given is that of the image
    pub counted_fits : (fit ≡ true) × ((n ≡ length (joined_image a b s)) × Tallied (joined_rows a b s) counts)
    counted_fits = go fit refl
      where
        go : (c : Bool) → fit ≡ c → (fit ≡ true) × ((n ≡ length (joined_image a b s)) × Tallied (joined_rows a b s) counts)
        go true e =
            let q = h.fits e in
            let z : n ≡ trailer_bytes + 4 * length (table_words (joined_rows a b s) tables) = let y = q.0 in cc in
            (e, (omega (arith, z, joined_room a b s, trailer_is), q.1))
        go false e = absurd (let y = h.exceeds e in cc)

    module _ (lent : List ℕ) where
      -- and where it is more than the bytes lent
      pub too_long : length lent < n → Written a b s lent None lent
      unfolding join_fits
      too_long l =
          let q = counted_fits in
          nothing lent (rw (q.0, lt-leb (length (joined_image a b s)) (length lent) (omega (arith, q.1.0))) refl)

      pub all_written : n ≤ length lent → (after : List ℕ) → after ≡ joined_image a b s ++ drop (length (joined_image a b s)) lent → Written a b s lent (Some n) after
      unfolding join_fits
      all_written l after e =
          let q = counted_fits in
          let f : join_fits a b s (length lent) ≡ true = rw (q.0, le-leb (length (joined_image a b s)) (length lent) (omega (arith, q.1.0))) refl in
          record { size = ap (λ (x : ℕ). Some x) q.1.0 ∙ sym (rw f refl); bytes = e ∙ sym (rw f refl) }

-- what is written, by what 37 says
module _ (a b : List ℕ) (s : ℕ) (lent : List ℕ) (n : Option ℕ) (after : List ℕ) (w : Written a b s lent n after) where
  pub written_yes : join_fits a b s (length lent) ≡ true → (n ≡ Some (length (joined_image a b s))) × (after ≡ joined_image a b s ++ drop (length (joined_image a b s)) lent)
  written_yes e = (rw e at w.size, rw e at w.bytes)

  pub written_no : join_fits a b s (length lent) ≡ false → (n ≡ None) × (after ≡ lent)
  written_no e = (rw e at w.size, rw e at w.bytes)
