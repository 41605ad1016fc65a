-- A frame's octet fits: its queue is at most 7.
use Prim.Native.Nat.{ℕ, ◌*◌, ◌%◌, ◌^◌, ◌≤◌, ◌<◌}
use mathlib.Core.Path.{◌≡◌}
use mathlib.Core.List.{List}
use native.Mathlib.Nat.{pow-le-pow_right}
use native.Mathlib.Omega.{arith}
use Rattle.plan.specs.declared.Table.TheVariants.{Frames}
use Rattle.plan.specs.Image.{rows}
use Rattle.plan.specs.Questions.{answer_of, accepted, queue_of}
use Rattle.plan.proofs.Facts.{facts, queue_facts}

pub queue_most : (s : List ℕ) → answer_of s ≡ accepted → (f : ℕ) → f < rows s Frames → queue_of s f ≤ 7
unfolding queue_of
queue_most s e f l = (queue_facts s e).queue_fits _ ((facts s e).names Frames f l).0

pub octet_fits : (q : ℕ) → q ≤ 7 → 1 * 2 ^ q % 4294967296 ≡ 2 ^ q
octet_fits q h = let r : 2 ^ q ≤ 2 ^ 7 = pow-le-pow_right (omega arith) h in omega arith
