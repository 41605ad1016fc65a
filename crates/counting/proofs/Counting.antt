-- What the loop of an edit leaves: the ranks and totals of all pieces with one piece more or less, and every other word as it was.
use Prim.Native.Nat.{ℕ, suc, ◌+◌, ◌^◌, ◌≤◌, ◌<◌}
use mathlib.Core.Path.{◌≡◌, refl, sym, ◌∙◌, subst}
use mathlib.Core.Logic.{◌≢◌}
use mathlib.Core.Bool.{Bool, true, false, not, ◌&&◌, cond}
use mathlib.Core.List.{List, ◌∷◌, []}
use native.Mathlib.Nat.{not-suc-le-zero}
use native.Mathlib.Numerals.{add-one}
use native.Mathlib.Omega.{arith}
use lib.ListN.{length, get_or}
use lib.Seq.{sets}
use Rattle.plan.specs.declared.Piece.{Piece}
use Rattle.plan.specs.Search.{count}
use Rattle.plan.proofs.Counting.{count_next}
use Rattle.plan.proofs.Searching.{count_most}
use Rattle.drafts.specs.Drafts.{draft_words, places, place_at, is_below, piece_at, rank_at, total_at, is_free}
use Rattle.drafts.specs.Edits.{store_rows}
use Rattle.drafts.proofs.Storing.{length_rows, rows_other, rows_at}
use Rattle.drafts.proofs.Heads.{same_piece}
use Rattle.counting.specs.Counting.{with_part, rank_part, total_part, counted, Countable, AllCountable}

-- ---- the loop over the places

module _ (more : Bool) (x : Piece) where
  pub counted_none : (w : List ℕ) (q : ℕ) → is_free w q ≡ true → counted more x w q ≡ []
  unfolding counted
  counted_none w q e = rw e refl

  pub counted_two : (w : List ℕ) (q : ℕ) → is_free w q ≡ false
      → counted more x w q ≡ with_part more (rank_at w q) (rank_part x (piece_at w q)) ∷ with_part more (total_at w q) (total_part x (piece_at w q)) ∷ []
  unfolding counted
  counted_two w q e = rw e refl

  short : (w : List ℕ) (q : ℕ) → length (counted more x w q) ≤ 2
  short w q = go (is_free w q) refl
    where
      go : (b : Bool) → is_free w q ≡ b → length (counted more x w q) ≤ 2
      go true e = rw (counted_none w q e) (omega arith)
      go false e = rw (counted_two w q e) (omega arith)

  module _ (w : List ℕ) where
    -- the words after n places
    abbrev pub counted_to : ℕ → List ℕ
    counted_to n = store_rows (λ q. place_at q + 4) (counted more x w) n w

    pub length_counted : (n : ℕ) → length (counted_to n) ≡ length w
    length_counted n = length_rows (λ q. place_at q + 4) (counted more x w) n w

    -- a word that is no rank and no total of a piece before n
    pub counted_other : (n j : ℕ) → ((q m : ℕ) → q < n → is_free w q ≡ false → m < 2 → j ≢ place_at q + 4 + m) → get_or (counted_to n) j 0 ≡ get_or w j 0
    counted_other n j h = rows_other (λ q. place_at q + 4) (counted more x w) n w j (λ q m l b. go q m l b (is_free w q) refl)
      where
        go : (q m : ℕ) → q < n → m < length (counted more x w q) → (f : Bool) → is_free w q ≡ f → j ≢ place_at q + 4 + m
        go q m l b true e = absurd (not-suc-le-zero (subst (λ (v : List ℕ). m < length v) (counted_none w q e) b))
        go q m l b false e = h q m l e (omega (arith, short w q))

    -- the rows of place n and of those behind it
    behind : (n q m : ℕ) → n ≤ q → get_or (counted_to n) (place_at q + m) 0 ≡ get_or w (place_at q + m) 0
    unfolding place_at
    behind n q m l = counted_other n (place_at q + m) (λ p i k e b z. omega arith)

    first_word : (n q : ℕ) → n ≤ q → get_or (counted_to n) (place_at q) 0 ≡ get_or w (place_at q) 0
    unfolding place_at
    first_word n q l = counted_other n (place_at q) (λ p i k e b z. omega arith)

    pub piece_behind : (n q : ℕ) → n ≤ q → piece_at (counted_to n) q ≡ piece_at w q
    piece_behind n q l = same_piece w (counted_to n) q (first_word n q l) (behind n q 1 l) (behind n q 2 l) (behind n q 3 l)

    pub free_behind : (n q : ℕ) → n ≤ q → is_free (counted_to n) q ≡ is_free w q
    unfolding is_free
    free_behind n q l = rw (piece_behind n q l) refl

    rank_behind : (n q : ℕ) → n ≤ q → rank_at (counted_to n) q ≡ rank_at w q
    unfolding rank_at
    rank_behind n q l = behind n q 4 l

    total_behind : (n q : ℕ) → n ≤ q → total_at (counted_to n) q ≡ total_at w q
    unfolding total_at
    total_behind n q l = behind n q 5 l

    -- so the turn of place n finds what was there at first
    pub countable_still : (n : ℕ) → Countable more x w n → Countable more x (counted_to n) n
    countable_still n c =
        let p = piece_behind n n (omega arith) in let r = rank_behind n n (omega arith) in let t = total_behind n n (omega arith) in
        record {
          rank_fits = rw (p, r) c.rank_fits;
          total_fits = rw (p, t) c.total_fits;
          rank_holds = λ e. rw (p, r) (c.rank_holds e);
          total_holds = λ e. rw (p, t) (c.total_holds e);
        }

    pub counted_next : (n : ℕ) → sets (counted_to n) (place_at n + 4) (counted more x (counted_to n) n) ≡ counted_to (suc n)
    unfolding store_rows counted
    counted_next n =
        rw (free_behind n n (omega arith), piece_behind n n (omega arith), rank_behind n n (omega arith), total_behind n n (omega arith)) refl

    -- a piece's rank and total afterwards
    pub counted_words : draft_words ≤ length w → (q m : ℕ) → q < places → m < length (counted more x w q)
        → get_or (counted_to places) (place_at q + 4 + m) 0 ≡ get_or (counted more x w q) m 0
    unfolding place_at draft_words places
    counted_words room q m l b =
        rows_at (λ p. place_at p + 4) (counted more x w) places w (λ r p d. omega (arith, short w r)) (λ r d. omega (arith, short w r)) q m l b

    -- what the turn of place n is asked, of words v that are those after n places
    pub turn_ready : (v : List ℕ) (n : ℕ) → v ≡ counted_to n → draft_words ≤ length w → n < places → AllCountable more x w
        → ((draft_words ≤ length v) × (n < places)) × (is_free v n ≡ false → Countable more x v n)
    turn_ready v n e room l h =
        rw e ((rw (length_counted n) room, l), λ f. countable_still n (h n l (sym (free_behind n n (omega arith)) ∙ f)))

-- ---- the rank of a piece, counted place by place

module _ (w : List ℕ) (x : Piece) where
  abbrev pub is_lower : ℕ → Bool
  is_lower q = not (is_free w q) && is_below x.task x.job (piece_at w q)

  pub lower_next : (n r part : ℕ) → r ≡ count n is_lower → part ≡ cond (is_lower n) 1 0 → r + part ≡ count (n + 1) is_lower
  lower_next n r part e d = rw add-one (rw (e, d) (sym (count_next is_lower n)))

  pub lower_fits : (n r part : ℕ) → r ≡ count n is_lower → part ≡ cond (is_lower n) 1 0 → n < 2048 → r + part < 2 ^ 32
  lower_fits n r part e d l = let h = lower_next n r part e d in omega (arith, count_most is_lower (n + 1))
