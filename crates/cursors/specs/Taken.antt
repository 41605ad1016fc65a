-- What takes up the ticks of a core or a link, where a walk looks for it, and what it finds.
use Rattle.std.specs.Prelude.{ℕ, ◌≤◌, ◌<◌, ◌≡◌, Bool, ◌&&◌, List, leb, ltb, eqb}
use Rattle.std.specs.Prelude.{Option, Result, Some, None, Ok, Err}
use Rattle.plan.specs.Image.{rows, cycle_ticks}
use Rattle.plan.specs.Search.{first}
use Rattle.places.specs.declared.Occupant.{Occupant}
use Rattle.places.specs.Places.{table_for, place_of, from_of, to_of}

module _ (s : List ℕ) where
  -- does row i take up tick t of place c; the row that does. `piece_at`, `window_at` and `frame_at` are this, of each kind of row.
  unfoldable pub covers : Occupant → ℕ → ℕ → ℕ → Bool
  covers o c t i = eqb (place_of s o i) c && leb (from_of s o i) t && ltb t (to_of s o i)

  unfoldable pub taken_by : Occupant → ℕ → ℕ → Option ℕ
  taken_by o c t = first (rows s (table_for o)) (covers o c t)

  -- where to look on at place c from tick t: at row r of the place, or there is none and r is the number of rows; those before it have ended
  pub record Cursor (o : Occupant) (c t r : ℕ) : Type 0 where
    pub within : r ≤ rows s (table_for o)
    pub place : r < rows s (table_for o) → place_of s o r ≡ c
    pub ended : (i : ℕ) → i < r → place_of s o i ≡ c → to_of s o i ≤ t

  -- and row r has not
  pub record Current (o : Occupant) (c t r : ℕ) : Type 0 where
    pub cursor : Cursor o c t r
    pub lasts : r < rows s (table_for o) → t < to_of s o r

  -- row i takes up every tick of place c from t up to its end
  pub record TakenFrom (o : Occupant) (c t i : ℕ) : Type 0 where
    pub row : i < rows s (table_for o)
    pub after : t < to_of s o i
    pub within : to_of s o i ≤ cycle_ticks s
    pub only : (x : ℕ) → t ≤ x → x < to_of s o i → taken_by o c x ≡ Some i

  -- no row takes up a tick of place c from t up to n
  pub record FreeFrom (o : Occupant) (c t n : ℕ) : Type 0 where
    pub after : t < n
    pub within : n ≤ cycle_ticks s
    pub none : (x : ℕ) → t ≤ x → x < n → taken_by o c x ≡ None

  abbrev pub Nearest : Occupant → ℕ → ℕ → Result ℕ ℕ → Type 0
  Nearest o c t (Ok i) = TakenFrom o c t i
  Nearest o c t (Err n) = FreeFrom o c t n
