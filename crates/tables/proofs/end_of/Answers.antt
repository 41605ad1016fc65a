use Prim.Native.Nat.{◌≤◌}
use mathlib.Core.Path.{refl, ap}
use native.Mathlib.Omega.{arith}
use native.Mathlib.Nat.{mul-le-mul_right}
use Rattle.plan.specs.declared.Shape.{Shape}
use Rattle.plan.specs.Image.{table_end}
use Rattle.tables.proofs.Shapes.{width_most}
use Rattle.tables.proofs.end_of.Goals as goal

-- src/lib.rt:275:43
pub overflow_mul-result : goal.overflow_mul-result
overflow_mul-result c = let e = ap (λ (x : Shape). x.width) c.shape_of-width.ensures in let h : c.shape_of-width.result.width ≤ 8 = omega (arith, width_most c.args.table) in omega (arith, mul-le-mul_right c.rows_of.result h, c.rows_of.type_inv, c.offset_of.type_inv)

-- src/lib.rt:275:38
pub overflow_mul-result-2 : goal.overflow_mul-result-2
overflow_mul-result-2 c = let e = ap (λ (x : Shape). x.width) c.shape_of-width.ensures in let h : c.shape_of-width.result.width ≤ 8 = omega (arith, width_most c.args.table) in omega (arith, mul-le-mul_right c.rows_of.result h, c.rows_of.type_inv, c.offset_of.type_inv)

-- src/lib.rt:275:5
pub overflow_add-result : goal.overflow_add-result
overflow_add-result c = let e = ap (λ (x : Shape). x.width) c.shape_of-width.ensures in let h : c.shape_of-width.result.width ≤ 8 = omega (arith, width_most c.args.table) in omega (arith, mul-le-mul_right c.rows_of.result h, c.rows_of.type_inv, c.offset_of.type_inv)

-- src/lib.rt:270:1
pub returns : goal.returns
unfolding table_end
returns c = rw (c.shape_of-width.ensures, c.offset_of.ensures, c.rows_of.ensures) refl
