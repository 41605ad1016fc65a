-- What a lane shows at a tick, by what is found there: a piece, else a window, else nothing; a frame or nothing.
use Prim.Native.Nat.{ℕ, ◌+◌, ◌-◌, ◌≤◌, ◌<◌}
use mathlib.Core.Path.{◌≡◌, refl}
use mathlib.Core.Bool.{cond}
use mathlib.Core.List.{List}
use lib.Dec.{ltb}
use borrow.Author.Tests.{lt-ltb, le-ltb}
use Rattle.plan.specs.declared.Table.TheVariants.{Cores}
use Rattle.plan.specs.Image.{rows, piece, window}
use Rattle.std.specs.Prelude.{Some, None}
use Rattle.plan.specs.Questions.{charge, switch_ticks}
use Rattle.plan.specs.Dispatch.{show, piece_at, window_at, frame_at, on_core, on_link, shown_at}

module _ (s : List ℕ) where
  pub core_piece : (c x i : ℕ) → piece_at s c x ≡ Some i → on_core s c x ≡ cond (ltb x ((piece s i).start + switch_ticks s (piece s i).task)) (show 3 i) (show 4 i)
  unfolding on_core
  core_piece c x i e = rw (e, on_core) refl

  pub core_window : (c x w : ℕ) → piece_at s c x ≡ None → window_at s c x ≡ Some w → on_core s c x ≡ cond (ltb x ((window s w).start + charge s w)) (show 1 w) (show 2 w)
  unfolding on_core
  core_window c x w e q = rw (e, q, on_core) refl

  pub core_idle : (c x : ℕ) → piece_at s c x ≡ None → window_at s c x ≡ None → on_core s c x ≡ show 0 0
  unfolding on_core
  core_idle c x e q = rw (e, q, on_core) refl

  pub link_frame : (l x i : ℕ) → frame_at s l x ≡ Some i → on_link s l x ≡ show 5 i
  unfolding on_link
  link_frame l x i e = rw (e, on_link) refl

  pub link_idle : (l x : ℕ) → frame_at s l x ≡ None → on_link s l x ≡ show 0 0
  unfolding on_link
  link_idle l x e = rw (e, on_link) refl

  -- a core's lane, a link's lane
  pub core_lane : {l : ℕ} (x : ℕ) → l < rows s Cores → shown_at s l x ≡ on_core s l x
  unfolding shown_at
  core_lane x h = rw (lt-ltb _ _ h) refl

  pub link_lane : {l : ℕ} (x : ℕ) → rows s Cores ≤ l → shown_at s l x ≡ on_link s (l - rows s Cores) x
  unfolding shown_at
  link_lane x h = rw (le-ltb _ _ h) refl
