-- Where a walk along a lane is.
use Rattle.std.specs.Prelude.{ℕ, ◌-◌, ◌≤◌, ◌<◌, List}
use Rattle.plan.specs.declared.Table.TheVariants.{Cores}
use Rattle.plan.specs.Image.{rows}
use Rattle.places.specs.declared.Occupant.TheVariants.{Piece, Window, Frame}
use Rattle.cursors.specs.declared.Cursors.{Cursors}
use Rattle.cursors.specs.Taken.{Cursor}

module _ (s : List ℕ) (lane : ℕ) where
  -- cursors point to where a lane is at tick t: to a piece and a window of its core, or to a frame of its link
  pub record Keeps (t : ℕ) (k : Cursors) : Type 0 where
    pub core : lane < rows s Cores → Cursor s Piece lane t k.piece × Cursor s Window lane t k.window
    pub link : rows s Cores ≤ lane → Cursor s Frame (lane - rows s Cores) t k.frame
