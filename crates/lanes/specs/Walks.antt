-- A walk along a lane. How far a segment reaches is open: these say only that what it shows is what the lane shows, and that it goes on.
use Rattle.std.specs.Prelude.{ℕ, ◌-◌, ◌≤◌, ◌<◌, ◌≡◌, List}
use Rattle.plan.specs.Image.{cycle_ticks}
use Rattle.plan.specs.Dispatch as D
use Rattle.plan.specs.Dispatch.{show, shown_at}
use Rattle.cursors.specs.Keeps.{Keeps}
use Rattle.stretches.specs.Stretches.{Ahead}
pub use Rattle.stretches.specs.Stretches.{Gathered}
use Rattle.lanes.specs.declared.Walk.{Walk}

module _ (s : List ℕ) (lane : ℕ) where
  -- a walk's last tick, and what is known from there on
  pub record Reached (w : Walk) : Type 0 where
    pub within : w.until ≤ cycle_ticks s
    pub last : 1 ≤ w.until → shown_at s lane (w.until - 1) ≡ show w.kind w.row
    pub ahead : Ahead (shown_at s lane) w.until (cycle_ticks s) w.view.stretch
    pub keeps : Keeps s lane w.until w.view.cursors

  -- a walk after a step from tick t
  pub record StepFrom (t : ℕ) (w : Walk) : Type 0 where
    pub from : w.from ≡ t
    pub after : w.from < w.until
    pub shows : (x : ℕ) → w.from ≤ x → x < w.until → shown_at s lane x ≡ show w.kind w.row
    pub begins : w.begins ≡ D.begins s lane w.from
    pub reached : Reached w
