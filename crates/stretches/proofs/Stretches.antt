-- What the rows found show: a stretch of a piece, a window, a frame or nothing is what the lane shows.
use Prim.Native.Nat.{ℕ, ◌-◌, ◌≤◌, ◌<◌, min}
use mathlib.Core.Path.{◌≡◌, refl, sym, ◌∙◌}
use mathlib.Core.Bool.{Bool, true, false, cond}
use mathlib.Core.List.{List}
use native.Mathlib.Omega.{arith}
use lib.Dec.{ltb}
use Rattle.plan.specs.declared.Table.TheVariants.{Cores}
use Rattle.std.specs.Prelude.{Option}
use Rattle.plan.specs.Image.{rows, cycle_ticks}
use Rattle.plan.specs.Dispatch.{show, piece_at, window_at, frame_at, on_core, on_link, shown_at}
use Rattle.plan.proofs.Facts.{Facts}
use Rattle.plan.proofs.Showing.{core_piece, core_window, core_idle, core_lane, link_frame, link_idle, link_lane}
use Rattle.places.specs.declared.Occupant.TheVariants.{Piece, Window, Frame}
use Rattle.places.specs.Places.{table_for, place_of, from_of, to_of}
use Rattle.cursors.specs.Taken.{covers, taken_by, TakenFrom, FreeFrom}
use Rattle.stretches.specs.Stretches.{stretch_at, idle_stretch, piece_stretch, window_stretch, frame_stretch, Shows}
use Rattle.stretches.specs.declared.Stretch.{Stretch}

idle_shows : (n x : ℕ) → stretch_at (idle_stretch n) x ≡ show 0 0
unfolding stretch_at idle_stretch
idle_shows n x = go (ltb x 0)
  where
    go : (b : Bool) → cond b (show 0 0) (show 0 0) ≡ show 0 0
    go true = refl
    go false = refl

frame_shows : (s : List ℕ) (i x : ℕ) → stretch_at (frame_stretch s i) x ≡ show 5 i
unfolding stretch_at frame_stretch
frame_shows s i x = go (ltb x 0)
  where
    go : (b : Bool) → cond b (show 5 i) (show 5 i) ≡ show 5 i
    go true = refl
    go false = refl

module _ (s : List ℕ) (c t : ℕ) where
  piece_at_holds : (x : ℕ) {d : Option ℕ} → taken_by s Piece c x ≡ d → piece_at s c x ≡ d
  unfolding taken_by covers table_for place_of from_of to_of piece_at
  piece_at_holds x e = e

  window_at_holds : (x : ℕ) {d : Option ℕ} → taken_by s Window c x ≡ d → window_at s c x ≡ d
  unfolding taken_by covers table_for place_of from_of to_of window_at
  window_at_holds x e = e

  frame_at_holds : (x : ℕ) {d : Option ℕ} → taken_by s Frame c x ≡ d → frame_at s c x ≡ d
  unfolding taken_by covers table_for place_of from_of to_of frame_at
  frame_at_holds x e = e

  pub piece_shows : Facts s → (i : ℕ) → TakenFrom s Piece c t i → Shows (on_core s c) t (cycle_ticks s) (piece_stretch s i)
  unfolding to_of stretch_at piece_stretch
  piece_shows f i h =
      record {
        after = h.after;
        ahead = record { within = h.within; shows = λ x lo hi. core_piece s c x i (piece_at_holds x (h.only x lo hi)) };
      }

  pub window_shows : (w next : ℕ) → FreeFrom s Piece c t next → TakenFrom s Window c t w → Shows (on_core s c) t (cycle_ticks s) (window_stretch s w next)
  unfolding to_of stretch_at window_stretch
  window_shows w next g h =
      record {
        after = omega (arith, h.after, g.after);
        ahead =
            record {
              within = omega (arith, h.within);
              shows = λ x lo hi. core_window s c x w (piece_at_holds x (g.none x lo (omega arith))) (window_at_holds x (h.only x lo (omega arith)));
            };
      }

  pub core_idles : (free next : ℕ) → FreeFrom s Piece c t next → FreeFrom s Window c t free → Shows (on_core s c) t (cycle_ticks s) (idle_stretch (min free next))
  unfolding idle_stretch
  core_idles free next g h =
      record {
        after = omega (arith, h.after, g.after);
        ahead =
            record {
              within = omega (arith, h.within);
              shows = λ x lo hi.
                  core_idle s c x (piece_at_holds x (g.none x lo (omega arith))) (window_at_holds x (h.none x lo (omega arith))) ∙ sym (idle_shows (min free next) x);
            };
      }

  pub frame_sends : (i : ℕ) → TakenFrom s Frame c t i → Shows (on_link s c) t (cycle_ticks s) (frame_stretch s i)
  unfolding to_of frame_stretch
  frame_sends i h =
      record {
        after = h.after;
        ahead = record { within = h.within; shows = λ x lo hi. link_frame s c x i (frame_at_holds x (h.only x lo hi)) ∙ sym (frame_shows s i x) };
      }

  pub link_idles : (free : ℕ) → FreeFrom s Frame c t free → Shows (on_link s c) t (cycle_ticks s) (idle_stretch free)
  unfolding idle_stretch
  link_idles free h =
      record {
        after = h.after;
        ahead = record { within = h.within; shows = λ x lo hi. link_idle s c x (frame_at_holds x (h.none x lo hi)) ∙ sym (idle_shows free x) };
      }

-- ---- lanes

module _ (s : List ℕ) (f : Facts s) (lane t : ℕ) (r : Stretch) where
  pub core_shows : lane < rows s Cores → Shows (on_core s lane) t (cycle_ticks s) r → Shows (shown_at s lane) t (cycle_ticks s) r
  core_shows l h =
      record {
        after = h.after;
        ahead = record { within = h.ahead.within; shows = λ x lo hi. core_lane s x l ∙ h.ahead.shows x lo hi };
      }

  pub link_shows : rows s Cores ≤ lane → Shows (on_link s (lane - rows s Cores)) t (cycle_ticks s) r → Shows (shown_at s lane) t (cycle_ticks s) r
  link_shows l h =
      record {
        after = h.after;
        ahead = record { within = h.ahead.within; shows = λ x lo hi. link_lane s {l = lane} x l ∙ h.ahead.shows x lo hi };
      }
