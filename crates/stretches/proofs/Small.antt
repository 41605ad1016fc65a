-- Sums of ticks of an accepted plan are small.
use Prim.Native.Nat.{ℕ, ◌+◌, ◌≤◌, ◌<◌}
use mathlib.Core.Path.{◌≡◌}
use mathlib.Core.List.{List}
use native.Mathlib.Omega.{arith}
use Rattle.plan.specs.declared.Table.TheVariants.{Windows, Pieces, Frames}
use Rattle.plan.specs.Image.{rows, piece, window}
use Rattle.plan.specs.Questions.{answer_of, accepted, piece_end, window_end, frame_end, switch_ticks, charge}
use Rattle.plan.proofs.Sounds.{accepted_sound}
use Rattle.plan.proofs.Facts.{facts}
use Rattle.cursors.proofs.Accepted.{piece_end_holds, frame_end_holds}

module _ (s : List ℕ) (e : answer_of s ≡ accepted) where
  -- a piece's end, and the tick at which its work begins
  pub piece_small : (i : ℕ) → i < rows s Pieces → (piece s i).start + (piece s i).length ≤ 1000000
  unfolding piece_end
  piece_small i l = omega (arith, piece_end_holds s (facts s e) i l, (accepted_sound s e).cycle_most)

  pub work_small : (i : ℕ) → i < rows s Pieces → (piece s i).start + switch_ticks s (piece s i).task ≤ 1000000
  work_small i l = omega (arith, piece_small i l, ((facts s e).piece_fits i l).1)

  -- a window's end, and the end of its first ticks
  pub window_small : (w : ℕ) → w < rows s Windows → (window s w).start + (window s w).length ≤ 1000000
  unfolding window_end
  window_small w l = omega (arith, ((facts s e).window_fits w l).1, (accepted_sound s e).cycle_most)

  pub charged_small : (w : ℕ) → w < rows s Windows → (window s w).start + charge s w ≤ 1000000
  charged_small w l = omega (arith, window_small w l, ((facts s e).window_fits w l).0)

  pub frame_small : (i : ℕ) → i < rows s Frames → frame_end s i ≤ 1000000
  frame_small i l = omega (arith, frame_end_holds s (facts s e) i l, (accepted_sound s e).cycle_most)
