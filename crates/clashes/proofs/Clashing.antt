-- A turn of the loop: whether a row is clear, by the latest end at its place; and that windows, pieces and frames take up ticks.
use Prim.Native.Nat.{ℕ, ◌+◌, max, ◌<◌, ◌≤◌}
use mathlib.Core.Path.{◌≡◌}
use mathlib.Core.List.{List}
use native.Mathlib.Omega.{arith}
use lib.ListN.{length, get_or, set}
use Rattle.std.specs.Prelude.{Some, None}
use Rattle.plan.specs.declared.Table.TheVariants.{Cores, Vcpus, Tasks, Windows, Pieces, Links, Frames}
use Rattle.plan.specs.Image.{rows, shape}
use Rattle.plan.specs.Search.{Interval, first_no}
use Rattle.plan.specs.Reading.{Apart}
use Rattle.plan.proofs.Tests.{Reads}
use Rattle.plan.proofs.Meanings.{window_apart_holds, piece_apart_holds, frame_apart_holds}
use Rattle.plan.specs.Questions.{window_core, window_end, window_interval, piece_core, piece_end, piece_interval, frame_interval, core_of, piece_questions}
use Rattle.plan.specs.Held.{Sound, Passed}
use Rattle.plan.proofs.Orders as Orders
use Rattle.plan.proofs.Orders.{windows_rise, pieces_rise, frames_rise}
use Rattle.plan.proofs.Passing.{windows_fit, pieces_fit}
use Rattle.places.specs.declared.Occupant.{Occupant}
use Rattle.places.specs.declared.Occupant.TheVariants.{Piece, Window, Frame}
use Rattle.places.specs.Places.{table_for, place_of, from_of, to_of}
use Rattle.tallies.specs.Tallies.{latest, Kept}
use Rattle.tallies.proofs.Latest as Latest
use Rattle.tallies.proofs.Latest.{latest_fresh}
use Rattle.clashes.specs.Clashes.{clear_of, Lasting}
use Rattle.places.specs.Index.{most_places}

module _ (s : List ℕ) (h : Sound s) (o : Occupant) where
  abbrev interval : ℕ → Interval
  interval r = record { from = from_of s o r; to = to_of s o r }

  -- the three questions are one, of any occupant
  reads : (o : Occupant) (r : ℕ) → Reads (clear_of s o r)
      ((q : ℕ) → q < r → place_of s o q ≡ place_of s o r → Apart (record { from = from_of s o q; to = to_of s o q }) (record { from = from_of s o r; to = to_of s o r }))
  unfolding clear_of place_of from_of to_of piece_interval window_interval frame_interval
  reads Piece r = piece_apart_holds s r
  reads Window r = window_apart_holds s r
  reads Frame r = frame_apart_holds s r

  rise : (o : Occupant) (q r : ℕ) → q ≤ r → r < rows s (table_for o) → from_of s o q ≤ from_of s o r
  unfolding table_for from_of
  rise Piece = pieces_rise s h
  rise Window = windows_rise s h
  rise Frame = frames_rise s h

  place_most : (o : Occupant) (r : ℕ) → r < rows s (table_for o) → place_of s o r < most_places
  unfolding table_for place_of window_core piece_core core_of shape
  place_most Piece r l = let c = h.inside.counts Cores in omega (arith, h.names Vcpus _ (h.names Tasks _ (h.names Pieces r l)))
  place_most Window r l = let c = h.inside.counts Cores in omega (arith, h.names Vcpus _ (h.names Windows r l))
  place_most Frame r l = let c = h.inside.counts Links in omega (arith, (h.names Frames r l).1)

  pub none_before : (ends : List ℕ) → Kept ends 0 most_places (λ _. 0) → Kept ends 0 most_places (latest (place_of s o) (to_of s o) 0)
  none_before ends = latest_fresh (place_of s o) (to_of s o) ends most_places

  module _ (long : Lasting s o) where
    near : (q r : ℕ) → q < r → r < rows s (table_for o) → from_of s o q < to_of s o r
    near q r d l = omega (arith, rise o q r (omega arith) l, long r l)

    module _ (ends : List ℕ) (r : ℕ) (l : r < rows s (table_for o)) (k : Kept ends 0 most_places (latest (place_of s o) (to_of s o) r)) where
      pub place_inside : place_of s o r < length ends
      place_inside = Latest.place_inside (place_of s o) interval (clear_of s o) (rows s (table_for o)) most_places (λ r _. reads o r) near (place_most o) ends r l k

      pub clash : first_no r (clear_of s o) ≡ None → from_of s o r < get_or ends (place_of s o r) 0 → Some r ≡ first_no (rows s (table_for o)) (clear_of s o)
      clash = Latest.clash (place_of s o) interval (clear_of s o) (rows s (table_for o)) most_places (λ r _. reads o r) near (place_most o) ends r l k

      pub clear_on : first_no r (clear_of s o) ≡ None → get_or ends (place_of s o r) 0 ≤ from_of s o r → first_no (r + 1) (clear_of s o) ≡ None
      clear_on = Latest.clear_on (place_of s o) interval (clear_of s o) (rows s (table_for o)) most_places (λ r _. reads o r) near (place_most o) ends r l k

      pub ends_on : Kept (set ends (place_of s o r) (max (get_or ends (place_of s o r) 0) (to_of s o r))) 0 most_places (latest (place_of s o) (to_of s o) (r + 1))
      ends_on = Latest.ends_on (place_of s o) interval (clear_of s o) (rows s (table_for o)) most_places (λ r _. reads o r) near (place_most o) ends r l k

-- 7 passed: windows take up ticks; 10 passed: pieces do
pub windows_last : (s : List ℕ) (n : ℕ) → Passed (piece_questions s) n → 1 ≤ n → Lasting s Window
unfolding table_for from_of to_of window_end
windows_last s n p l r m = omega (arith, (windows_fit s n p l r m).0)

pub pieces_last : (s : List ℕ) (n : ℕ) → Passed (piece_questions s) n → 4 ≤ n → Lasting s Piece
unfolding table_for from_of to_of piece_end
pieces_last s n p l r m = omega (arith, (pieces_fit s n p l r m).1)

-- frames do in any case
pub frames_last : (s : List ℕ) → Sound s → Lasting s Frame
unfolding table_for from_of to_of
frames_last = Orders.frames_last
