use mathlib.Core.Path.{refl}
use Prim.Native.Nat.{◌^◌, ◌<◌}
use native.Mathlib.Omega.{arith}
use Rattle.terms.proofs.Products.{product_fits}
use Rattle.plan.specs.Questions.{release}
use Rattle.terms.proofs.release_of.Goals as goal

-- src/lib.rt:51:5
pub overflow_mul-result : goal.overflow_mul-result
overflow_mul-result c = let j = c.args.job in let t = c.task_at in let h : j < 2 ^ 32 = omega arith in let k : t.result.period < 2 ^ 32 = omega (arith, t.type_inv) in let d : 0 < 2 ^ 32 = omega (arith, t.type_inv) in let f = product_fits h k d in omega arith

-- src/lib.rt:47:1
pub returns : goal.returns
unfolding release
returns c = rw c.task_at.ensures refl
