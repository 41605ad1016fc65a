-- The cycle of an accepted plan is small.
use Prim.Native.Nat.{ℕ, ◌≤◌}
use mathlib.Core.Path.{◌≡◌}
use mathlib.Core.List.{List}
use Rattle.plan.specs.Image.{cycle_ticks}
use Rattle.plan.specs.Questions.{answer_of, accepted}
use Rattle.plan.proofs.Sounds.{accepted_sound}

pub cycle_small : (s : List ℕ) → answer_of s ≡ accepted → cycle_ticks s ≤ 1000000
cycle_small s e = (accepted_sound s e).cycle_most
