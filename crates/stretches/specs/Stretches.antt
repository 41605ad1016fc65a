-- What a lane shows for a while. How far a stretch or a segment reaches is open: these say only that what it shows is what the lane shows,
-- and that it goes on.
use Rattle.std.specs.Prelude.{ℕ, ◌+◌, ◌≤◌, ◌<◌, min, ◌≡◌, cond, List, ltb}
use Rattle.plan.specs.Image.{cycle_ticks, piece, window}
use Rattle.plan.specs.Questions.{piece_end, switch_ticks, window_end, charge, frame_end, answer_of, accepted}
use Rattle.plan.specs.Dispatch.{Shown, show, shown_at}
use Rattle.charges.specs.Charges.{Charged}
use Rattle.places.specs.Index.{Indexed}
use Rattle.cursors.specs.Keeps.{Keeps}
use Rattle.stretches.specs.declared.Stretch.{Stretch}
use Rattle.stretches.specs.declared.Segment.{Segment}
use Rattle.stretches.specs.declared.View.{View}

-- what a stretch shows at tick x
unfoldable pub stretch_at : Stretch → ℕ → Shown
stretch_at r x = cond (ltb x r.turn) (show r.kind r.row) (show r.later r.row)

-- nothing up to a tick, a piece, a window up to a tick, a frame
unfoldable pub idle_stretch : ℕ → Stretch
idle_stretch n = record { kind = 0; later = 0; row = 0; turn = 0; until = n }

unfoldable pub piece_stretch : List ℕ → ℕ → Stretch
piece_stretch s i = record { kind = 3; later = 4; row = i; turn = (piece s i).start + switch_ticks s (piece s i).task; until = piece_end s i }

unfoldable pub window_stretch : List ℕ → ℕ → ℕ → Stretch
window_stretch s w most = record { kind = 1; later = 2; row = w; turn = (window s w).start + charge s w; until = min (window_end s w) most }

unfoldable pub frame_stretch : List ℕ → ℕ → Stretch
frame_stretch s f = record { kind = 5; later = 5; row = f; turn = 0; until = frame_end s f }

-- the first segment of a stretch from tick t on
unfoldable pub segment_of : Stretch → ℕ → Segment
segment_of r t =
    cond (ltb t r.turn)
    (record { kind = r.kind; row = r.row; until = min r.turn r.until })
    (record { kind = r.later; row = r.row; until = r.until })

module _ (shown : ℕ → Shown) (t ticks : ℕ) where
  -- a stretch is right from tick t on, up to its end
  pub record Ahead (r : Stretch) : Type 0 where
    pub within : r.until ≤ ticks
    pub shows : (x : ℕ) → t ≤ x → x < r.until → shown x ≡ stretch_at r x

  -- and is not over
  pub record Shows (r : Stretch) : Type 0 where
    pub after : t < r.until
    pub ahead : Ahead r

-- ---- a lane

-- an accepted plan, its windows' charges, and its rows place by place
pub record Gathered (s charges index : List ℕ) : Type 0 where
  pub passed : answer_of s ≡ accepted
  pub charged : Charged s charges
  pub indexed : Indexed s index

module _ (s : List ℕ) (lane : ℕ) where
  -- a view is right from tick t on
  pub record Sees (t : ℕ) (v : View) : Type 0 where
    pub shows : Shows (shown_at s lane) t (cycle_ticks s) v.stretch
    pub keeps : Keeps s lane t v.cursors
