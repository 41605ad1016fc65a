-- Bounds on the shapes of the ten tables.
use Prim.Native.Nat.{ℕ, ◌*◌, ◌≤◌}
use native.Mathlib.Omega.{arith}
use native.Mathlib.Nat.{mul-le-mul_right}
use Rattle.plan.specs.declared.Table.{Table}
use Rattle.plan.specs.declared.Table.TheVariants.{Cores, Vcpus, Tasks, Windows, Pieces, Links, Streams, Frames, Buffers, Chains}
use Rattle.plan.specs.Image.{shape}

pub number_most : (t : Table) → (shape t).number ≤ 10
unfolding shape
number_most Cores = omega arith
number_most Vcpus = omega arith
number_most Tasks = omega arith
number_most Windows = omega arith
number_most Pieces = omega arith
number_most Links = omega arith
number_most Streams = omega arith
number_most Frames = omega arith
number_most Buffers = omega arith
number_most Chains = omega arith

-- room for wider rows
pub width_most : (t : Table) → (shape t).width ≤ 8
unfolding shape
width_most Cores = omega arith
width_most Vcpus = omega arith
width_most Tasks = omega arith
width_most Windows = omega arith
width_most Pieces = omega arith
width_most Links = omega arith
width_most Streams = omega arith
width_most Frames = omega arith
width_most Buffers = omega arith
width_most Chains = omega arith

-- the words of so many rows
pub row_words : (t : Table) (n : ℕ) → (shape t).width * n ≤ 8 * n
row_words t n = mul-le-mul_right n (width_most t)
