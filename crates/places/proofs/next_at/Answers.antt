use native.Mathlib.Omega.{arith}
use Rattle.places.proofs.Linking.{row_small}
use Rattle.places.proofs.next_at.Goals as goal

-- src/lib.rt:132:11

pub overflow_add-result : goal.overflow_add-result
overflow_add-result c = let p = c.requires in let a = c.args in let r = row_small a.image.now p.1.0 a.occupant a.row p.1.1 in omega (arith, c.base_of.ensures, r.0)

-- src/lib.rt:132:11

pub overflow_add-result-2 : goal.overflow_add-result-2
overflow_add-result-2 c = let p = c.requires in let a = c.args in let r = row_small a.image.now p.1.0 a.occupant a.row p.1.1 in omega (arith, c.base_of.ensures, r.0)

-- src/lib.rt:132:5

pub offset_bounds-index-base_of : goal.offset_bounds-index-base_of
offset_bounds-index-base_of c = let p = c.requires in let a = c.args in let r = row_small a.image.now p.1.0 a.occupant a.row p.1.1 in omega (arith, c.base_of.ensures, r.0)

-- src/lib.rt:132:5

pub bounds-index-base_of : goal.bounds-index-base_of
bounds-index-base_of c = let p = c.requires in let a = c.args in let r = row_small a.image.now p.1.0 a.occupant a.row p.1.1 in omega (arith, c.base_of.ensures, r.0, (p.0 a.occupant).size)

-- src/lib.rt:128:1

pub returns : goal.returns
returns c = let p = c.requires in let a = c.args in rw c.base_of.ensures ((p.0 a.occupant).nexts a.row (omega arith) p.1.1)
