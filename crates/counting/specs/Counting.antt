-- What the loop of an edit stores: the ranks and totals of all other pieces, with one piece more or less.
use Rattle.std.specs.Prelude.{ℕ, ◌+◌, ◌-◌, ◌^◌, ◌<◌, ◌≤◌, ◌≡◌, Bool, false, cond, List, ◌∷◌, []}
use Rattle.plan.specs.declared.Piece.{Piece}
use Rattle.drafts.specs.Drafts.{places, is_of, is_below, piece_at, rank_at, total_at, is_free}

-- a number with a part more or less
unfoldable pub with_part : Bool → ℕ → ℕ → ℕ
with_part more n part = cond more (n + part) (n - part)

-- what piece x gives to the rank and to the total of a piece y
unfoldable pub rank_part : Piece → Piece → ℕ
rank_part x y = cond (is_below y.task y.job x) 1 0

unfoldable pub total_part : Piece → Piece → ℕ
total_part x y = cond (is_of y.task y.job x) x.length 0

-- the rank and total of place q with piece x more or less; nothing for a free place
unfoldable pub counted : Bool → Piece → List ℕ → ℕ → List ℕ
counted more x w q =
    let y = piece_at w q in
    cond (is_free w q) [] (with_part more (rank_at w q) (rank_part x y) ∷ with_part more (total_at w q) (total_part x y) ∷ [])

-- they fit their words
pub record Countable (more : Bool) (x : Piece) (w : List ℕ) (q : ℕ) : Type 0 where
  pub rank_fits : rank_at w q + rank_part x (piece_at w q) < 2 ^ 32
  pub total_fits : total_at w q + total_part x (piece_at w q) < 2 ^ 32
  pub rank_holds : more ≡ false → rank_part x (piece_at w q) ≤ rank_at w q
  pub total_holds : more ≡ false → total_part x (piece_at w q) ≤ total_at w q

abbrev pub AllCountable : Bool → Piece → List ℕ → Type 0
AllCountable more x w = (q : ℕ) → q < places → is_free w q ≡ false → Countable more x w q
