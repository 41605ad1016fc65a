use mathlib.Core.Path.{refl}
use native.Mathlib.Omega.{arith}
use lib.ListN.{length-set}
use Rattle.frames.specs.Index.{taken_at}
use Rattle.frames.proofs.take_at.Goals as goal

-- src/lib.rt:72:5
pub bounds-index-place-3 : goal.bounds-index-place-3
bounds-index-place-3 c = let z = c.requires.0 in simp length-set (omega arith)

-- src/lib.rt:67:1
pub returns : goal.returns
unfolding taken_at
returns c = refl
