use Prim.Native.Nat.{◌≤◌}
use mathlib.Core.Path.{ap, ◌∙◌}
use native.Mathlib.Omega.{arith}
use native.Mathlib.Nat.{mul-le-mul_right}
use Rattle.plan.specs.declared.Shape.{Shape}
use Rattle.plan.specs.Image.{shape, rows}
use Rattle.tables.proofs.Shapes.{width_most}
use Rattle.tables.proofs.Parts.{part_length, field_inside, field_word}
use Rattle.tables.proofs.field_of.Goals as goal

-- src/lib.rt:411:21
pub overflow_mul-width : goal.overflow_mul-width
overflow_mul-width c = let a = c.args in let e = ap (λ (x : Shape). x.width) c.shape_of-width.ensures in let h : c.shape_of-width.result.width ≤ 8 = omega (arith, width_most a.table) in omega (arith, mul-le-mul_right a.row h, c.requires.row_bound.1)

-- src/lib.rt:411:21
pub overflow_add-width : goal.overflow_add-width
overflow_add-width c = let a = c.args in let e = ap (λ (x : Shape). x.width) c.shape_of-width.ensures in let h : c.shape_of-width.result.width ≤ 8 = omega (arith, width_most a.table) in omega (arith, mul-le-mul_right a.row h, c.requires.row_bound.1)

-- src/lib.rt:411:16
pub overflow_mul-width-2 : goal.overflow_mul-width-2
overflow_mul-width-2 c = let a = c.args in let e = ap (λ (x : Shape). x.width) c.shape_of-width.ensures in let h : c.shape_of-width.result.width ≤ 8 = omega (arith, width_most a.table) in omega (arith, mul-le-mul_right a.row h, c.requires.row_bound.1)

-- src/lib.rt:411:5
pub word-requires : goal.word-requires
word-requires c = let a = c.args in let p = c.requires in let s = a.image.now in let t = a.table in let e = ap (λ (x : Shape). x.width) c.shape_of-width.ensures in rw (c.part_of-rows.ensures, part_length s t p.in_image, e) (field_inside (shape t).width (rows s t) a.row a.j p.row_bound.0 p.row_bound.1)

-- src/lib.rt:404:1
pub returns : goal.returns
returns c = let a = c.args in let p = c.requires in let e = ap (λ (x : Shape). x.width) c.shape_of-width.ensures in c.word.ensures ∙ (rw (c.part_of-rows.ensures, e) (field_word a.image.now a.table p.in_image a.row a.j p.row_bound.0 p.row_bound.1))
