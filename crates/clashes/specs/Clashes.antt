-- Whether a row is clear of the lower rows of its place, as questions 8, 12 and 19 ask it.
use Rattle.std.specs.Prelude.{ℕ, ◌<◌, Bool, List}
use Rattle.plan.specs.Image.{rows}
use Rattle.plan.specs.Questions.{piece_clear, window_clear, frame_clear}
use Rattle.places.specs.declared.Occupant.{Occupant}
use Rattle.places.specs.declared.Occupant.TheVariants.{Piece, Window, Frame}
use Rattle.places.specs.Places.{table_for, from_of, to_of}

unfoldable pub clear_of : List ℕ → Occupant → ℕ → Bool
clear_of s Piece = piece_clear s
clear_of s Window = window_clear s
clear_of s Frame = frame_clear s

-- every row takes up a tick
abbrev pub Lasting : List ℕ → Occupant → Type 0
Lasting s o = (r : ℕ) → r < rows s (table_for o) → from_of s o r < to_of s o r
