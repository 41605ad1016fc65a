-- What an accepted plan gives besides the facts by name: rows that take up ticks lie in the cycle and rise by start.
use Prim.Native.Nat.{ℕ, ◌+◌, ◌*◌, ◌≤◌, ◌<◌}
use mathlib.Core.List.{List}
use native.Mathlib.Nat.{le-div_iff_mul-le}
use native.Mathlib.Omega.{arith}
use Rattle.plan.specs.declared.Table.TheVariants.{Tasks, Pieces, Streams, Frames}
use Rattle.plan.specs.Image.{rows, cycle_ticks, task, stream, frame}
use Rattle.plan.specs.Questions.{jobs, stream_period, piece_end, window_end, frame_end}
use Rattle.plan.specs.Held.{Sound}
use Rattle.plan.proofs.Facts.{Facts}
use Rattle.plan.proofs.Orders.{pieces_rise, windows_rise, frames_rise}
use Rattle.places.specs.declared.Occupant.{Occupant}
use Rattle.places.specs.declared.Occupant.TheVariants.{Piece, Window, Frame}
use Rattle.places.specs.Places.{table_for, from_of, to_of}

-- ---- rows that take up ticks

module _ (s : List ℕ) (f : Facts s) where
  pub piece_end_holds : (i : ℕ) → i < rows s Pieces → piece_end s i ≤ cycle_ticks s
  piece_end_holds i l = let w = f.piece_inside i l in omega (arith, w.4, (f.window_fits w.0 w.1).1)

  pub frame_end_holds : (i : ℕ) → i < rows s Frames → frame_end s i ≤ cycle_ticks s
  unfolding jobs stream_period
  frame_end_holds i l =
      let a = f.frame_fits i l in
      let t = (stream s (frame s i).stream).sender in
      let pos : 1 ≤ (task s t).period = (f.ranges Tasks t (f.names Streams _ (f.names Frames i l).0).0).0 in
      let b : ((frame s i).job + 1) * (task s t).period ≤ cycle_ticks s = (le-div_iff_mul-le pos).0 (omega (arith, a.0)) in
      omega (arith, a.3)

  -- they end in the cycle
  pub ends : (o : Occupant) (i : ℕ) → i < rows s (table_for o) → to_of s o i ≤ cycle_ticks s
  unfolding table_for to_of
  ends Piece i l = piece_end_holds i l
  ends Window w l = (f.window_fits w l).1
  ends Frame i l = frame_end_holds i l

  -- and begin in it
  begins_low : (o : Occupant) (i : ℕ) → from_of s o i ≤ to_of s o i
  unfolding from_of to_of piece_end window_end frame_end
  begins_low Piece i = omega arith
  begins_low Window i = omega arith
  begins_low Frame i = omega arith

  pub begins_within : (o : Occupant) (i : ℕ) → i < rows s (table_for o) → from_of s o i ≤ cycle_ticks s
  begins_within o i l = omega (arith, begins_low o i, ends o i l)

-- 32: they rise by start
pub rises : (s : List ℕ) → Sound s → (o : Occupant) (q r : ℕ) → q ≤ r → r < rows s (table_for o) → from_of s o q ≤ from_of s o r
unfolding table_for from_of
rises s h Piece q r l m = pieces_rise s h q r l m
rises s h Window q r l m = windows_rise s h q r l m
rises s h Frame q r l m = frames_rise s h q r l m
