-- The places of rows that take up ticks, and the next row of a place.
use Rattle.std.specs.Prelude.{ℕ, ◌≤◌, ◌<◌, ◌≡◌, ◌≢◌, List}
use Rattle.plan.specs.declared.Table.{Table}
use Rattle.plan.specs.declared.Table.TheVariants.{Windows, Pieces, Frames}
use Rattle.plan.specs.Image.{rows, piece, window, frame}
use Rattle.plan.specs.Questions.{piece_core, piece_end, window_core, window_end, frame_end}
use Rattle.places.specs.declared.Occupant.{Occupant}
use Rattle.places.specs.declared.Occupant.TheVariants.{Piece, Window, Frame}

unfoldable pub table_for : Occupant → Table
table_for Piece = Pieces
table_for Window = Windows
table_for Frame = Frames

module _ (s : List ℕ) where
  -- a row's core or link
  unfoldable pub place_of : Occupant → ℕ → ℕ
  place_of Piece i = piece_core s i
  place_of Window w = window_core s w
  place_of Frame f = (frame s f).link

  -- its first tick, and the tick after its last
  unfoldable pub from_of : Occupant → ℕ → ℕ
  from_of Piece i = (piece s i).start
  from_of Window w = (window s w).start
  from_of Frame f = (frame s f).start

  unfoldable pub to_of : Occupant → ℕ → ℕ
  to_of Piece i = piece_end s i
  to_of Window w = window_end s w
  to_of Frame f = frame_end s f

  -- of the rows from i on, r is the lowest at place c; the number of rows where there is none
  pub record NextRow (o : Occupant) (c i r : ℕ) : Type 0 where
    pub from : i ≤ r
    pub within : r ≤ rows s (table_for o)
    pub place : r < rows s (table_for o) → place_of o r ≡ c
    pub none : (j : ℕ) → i ≤ j → j < r → place_of o j ≢ c
