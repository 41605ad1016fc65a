use mathlib.Core.Path.{refl}
use native.Mathlib.Omega.{arith}
use lib.ListN.{length-set}
use Rattle.places.specs.Index.{linked_at}
use Rattle.places.proofs.link.Goals as goal

-- src/lib.rt:81:5
pub bounds-index-base-3 : goal.bounds-index-base-3
bounds-index-base-3 c = let p = c.requires in simp length-set (omega (arith, p.0, p.1.0, p.1.1.0))

-- src/lib.rt:75:1
pub returns : goal.returns
unfolding linked_at
returns c = refl
