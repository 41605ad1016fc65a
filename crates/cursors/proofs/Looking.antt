-- Where a walk looks on: the rows of a place rise by start, so the first that has not ended says what takes up the ticks up to its end or its start.
use Prim.Native.Nat.{ℕ, suc, ◌≤◌, ◌<◌}
use mathlib.Core.Path.{◌≡◌, refl, sym, ◌∙◌}
use mathlib.Core.Bool.{Bool, true, false, not, ◌&&◌}
use mathlib.Core.List.{List}
use native.Mathlib.Omega.{arith}
use native.Mathlib.Decide.{dec_lt}
use lib.Dec.{leb, ltb, eqb}
use borrow.Author.Tests.{eqb-true, eq-eqb, ltb-true, leb-true, lt-ltb, le-leb}
use Rattle.std.specs.Prelude.{None}
use Rattle.plan.specs.Image.{rows, cycle_ticks}
use Rattle.plan.specs.Search.{first}
use Rattle.plan.specs.Held.{Sound}
use Rattle.plan.proofs.Searching.{and_true, none_iff, first_is}
use Rattle.plan.proofs.Facts.{Facts}
use Rattle.places.specs.declared.Occupant.{Occupant}
use Rattle.places.specs.Places.{table_for, place_of, from_of, to_of, NextRow}
use Rattle.cursors.specs.Taken.{covers, taken_by, Cursor, Current, TakenFrom, FreeFrom}
use Rattle.cursors.proofs.Accepted.{begins_within, ends, rises}

no_row : (test : ℕ → Bool) (n : ℕ) → ((i : ℕ) → i < n → test i ≡ true → ⊥) → first n test ≡ None
unfolding first
no_row test n h = (none_iff (λ i. not (test i)) n).1 (λ i l. go i l (test i) refl)
  where
    go : (i : ℕ) → i < n → (b : Bool) → test i ≡ b → not (test i) ≡ true
    go i l true e = absurd (h i l e)
    go i l false e = rw e refl

module _ (s : List ℕ) (o : Occupant) (c : ℕ) where
  record Covers (t i : ℕ) : Type 0 where
    place : place_of s o i ≡ c
    low : from_of s o i ≤ t
    high : t < to_of s o i

  covers_in : (t i : ℕ) → covers s o c t i ≡ true → Covers t i
  unfolding covers
  covers_in t i e =
      let p = and_true (eqb (place_of s o i) c && leb (from_of s o i) t) (ltb t (to_of s o i)) e in
      let q = and_true (eqb (place_of s o i) c) (leb (from_of s o i) t) p.0 in
      record { place = eqb-true _ _ q.0; low = leb-true _ _ q.1; high = ltb-true _ _ p.1 }

  in_covers : {t i : ℕ} → Covers t i → covers s o c t i ≡ true
  unfolding covers
  in_covers {t} {i} h =
      rw (eq-eqb (place_of s o i) c h.place, le-leb (from_of s o i) t h.low, lt-ltb t (to_of s o i) h.high) refl

  -- ---- cursors

  -- at the place's lowest row
  pub cursor_first : (t r : ℕ) → NextRow s o c 0 r → Cursor s o c t r
  cursor_first t r h = record { within = h.within; place = h.place; ended = λ i l e. absurd (h.none i (omega arith) l e) }

  -- later on
  pub cursor_later : {t u r : ℕ} → t ≤ u → Cursor s o c t r → Cursor s o c u r
  cursor_later l h = record { within = h.within; place = h.place; ended = λ i k e. omega (arith, h.ended i k e) }

  -- at the next row, where this one has ended
  pub cursor_next : {t r q : ℕ} → Cursor s o c t r → r < rows s (table_for o) → to_of s o r ≤ t → NextRow s o (place_of s o r) (suc r) q → Cursor s o c t q
  cursor_next {t} {r} {q} h l e n =
      record { within = n.within; place = λ k. n.place k ∙ h.place l; ended = λ i k p. go i k p (dec_lt i r) (dec_lt r i) }
    where
      go : (i : ℕ) → i < q → place_of s o i ≡ c → Dec (i < r) → Dec (r < i) → to_of s o i ≤ t
      go i k p (yes a) d = h.ended i a p
      go i k p (no a) (yes b) = absurd (n.none i b k (p ∙ sym (h.place l)))
      go i k p (no a) (no b) = let z : i ≡ r = omega arith in rw z e

  pub current_end : {t r : ℕ} → Cursor s o c t r → rows s (table_for o) ≤ r → Current s o c t r
  current_end h l = record { cursor = h; lasts = λ k. absurd (omega arith) }

  pub current_row : {t r : ℕ} → Cursor s o c t r → t < to_of s o r → Current s o c t r
  current_row h l = record { cursor = h; lasts = λ k. l }

  -- ---- what is found

  module _ (t r : ℕ) (h : Current s o c t r) where
    pub taken : Facts s → r < rows s (table_for o) → from_of s o r ≤ t → TakenFrom s o c t r
    unfolding taken_by
    taken f l b =
        record {
          row = l;
          after = h.lasts l;
          within = ends s f o r l;
          only = λ x lo hi. let v : Covers x r = record { place = h.cursor.place l; low = omega arith; high = hi } in
              first_is (covers s o c x) (rows s (table_for o)) r l (in_covers v) (λ j q d. before x lo j q (covers_in x j d));
        }
      where
        before : (x : ℕ) → t ≤ x → (j : ℕ) → j < r → Covers x j → ⊥
        before x lo j q v = omega (arith, v.high, h.cursor.ended j q v.place)

    -- no row of the place begins before tick n
    free : (n : ℕ) → t < n → n ≤ cycle_ticks s → ((i : ℕ) → r ≤ i → i < rows s (table_for o) → n ≤ from_of s o i) → FreeFrom s o c t n
    unfolding taken_by
    free n l m k =
        record {
          after = l;
          within = m;
          none = λ x lo hi. no_row (covers s o c x) (rows s (table_for o)) (λ i a e. go x lo hi i a (covers_in x i e) (dec_lt i r));
        }
      where
        go : (x : ℕ) → t ≤ x → x < n → (i : ℕ) → i < rows s (table_for o) → Covers x i → Dec (i < r) → ⊥
        go x lo hi i a v (yes q) = omega (arith, v.high, h.cursor.ended i q v.place)
        go x lo hi i a v (no q) = omega (arith, v.low, k i (omega arith) a)

    pub free_to : Sound s → Facts s → r < rows s (table_for o) → t < from_of s o r → FreeFrom s o c t (from_of s o r)
    free_to d f l b = free (from_of s o r) b (begins_within s f o r l) (λ i lo hi. rises s d o r i lo hi)

    pub free_end : t < cycle_ticks s → rows s (table_for o) ≤ r → FreeFrom s o c t (cycle_ticks s)
    free_end l b = free (cycle_ticks s) l (omega arith) (λ i lo hi. absurd (omega arith))
