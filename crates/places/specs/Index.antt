-- The rows of each place in order, gathered once into words: those of pieces first, then those of windows, then those of frames. Of an
-- occupant's, word c is the lowest row of place c; after these, word i is the next row, after row i, of row i's place.
use Rattle.std.specs.Prelude.{ℕ, suc, ◌+◌, ◌<◌, ◌≤◌, ◌≡◌, List, length, get_or, set}
use Rattle.plan.specs.Image.{rows, most_windows, most_pieces, most_links, most_frames}
use Rattle.places.specs.declared.Occupant.{Occupant}
use Rattle.places.specs.declared.Occupant.TheVariants.{Piece, Window, Frame}
use Rattle.places.specs.Places.{table_for, place_of, NextRow}

-- as many places for each occupant as there may be links, more than there are cores; where the words of windows and frames begin, and how
-- many words there are
abbrev pub most_places : ℕ
most_places = most_links

abbrev pub windows_at : ℕ
windows_at = most_places + most_pieces

abbrev pub frames_at : ℕ
frames_at = windows_at + (most_places + most_windows)

abbrev pub index_words : ℕ
index_words = frames_at + (most_places + most_frames)

unfoldable pub base_of : Occupant → ℕ
base_of Piece = 0
base_of Window = windows_at
base_of Frame = frames_at

-- row i is put before those of place c
unfoldable pub linked_at : List ℕ → ℕ → ℕ → ℕ → List ℕ
linked_at index base c i = set (set index (base + most_places + i) (get_or index (base + c) 0)) (base + c) i

-- words below an occupant's are as they were before
abbrev pub Untouched : ℕ → List ℕ → List ℕ → Type 0
Untouched base before index = (k : ℕ) → k < base → get_or index k 0 ≡ get_or before k 0

-- the first n places are without rows
pub record Cleared (base many : ℕ) (index : List ℕ) (n : ℕ) : Type 0 where
  pub size : length index ≡ index_words
  pub firsts : (c : ℕ) → c < n → get_or index (base + c) 0 ≡ many

-- the rows from i on have been taken in
pub record Linked (s : List ℕ) (o : Occupant) (index : List ℕ) (i : ℕ) : Type 0 where
  pub size : length index ≡ index_words
  pub firsts : (c : ℕ) → c < most_places → NextRow s o c i (get_or index (base_of o + c) 0)
  pub nexts : (j : ℕ) → i ≤ j → j < rows s (table_for o) → NextRow s o (place_of s o j) (suc j) (get_or index (base_of o + most_places + j) 0)

-- all rows of every occupant have
abbrev pub Indexed : List ℕ → List ℕ → Type 0
Indexed s index = (o : Occupant) → Linked s o index 0
