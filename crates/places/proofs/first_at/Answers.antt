use native.Mathlib.Omega.{arith}
use Rattle.places.proofs.Linking.{base_small}
use Rattle.places.proofs.first_at.Goals as goal

-- src/lib.rt:124:11

pub overflow_add-result : goal.overflow_add-result
overflow_add-result c = let p = c.requires in let b = base_small c.args.occupant in omega (arith, b, c.base_of.ensures, p.1)

-- src/lib.rt:124:5

pub offset_bounds-index-base_of : goal.offset_bounds-index-base_of
offset_bounds-index-base_of c = let p = c.requires in let b = base_small c.args.occupant in omega (arith, b, c.base_of.ensures, p.1)

-- src/lib.rt:124:5

pub bounds-index-base_of : goal.bounds-index-base_of
bounds-index-base_of c = let p = c.requires in let o = c.args.occupant in omega (arith, base_small o, c.base_of.ensures, p.1, (p.0 o).size)

-- src/lib.rt:120:1

pub returns : goal.returns
returns c = let p = c.requires in let a = c.args in rw c.base_of.ensures ((p.0 a.occupant).firsts a.place p.1)
