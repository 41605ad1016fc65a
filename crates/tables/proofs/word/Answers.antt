use Prim.Native.Nat.{◌+◌}
use mathlib.Core.Path.{refl}
use native.Mathlib.Omega.{arith}
use Rattle.plan.specs.Image.{word_at}
use Rattle.tables.proofs.word.Goals as goal

-- src/lib.rt:226:9
pub overflow_mul-result : goal.overflow_mul-result
overflow_mul-result c = omega (arith, c.shared_slice_known-1.given c.args.i, c.shared_slice_known-2-1.given (c.args.i + 1), c.shared_slice_known-3-1.given (c.args.i + 2), c.shared_slice_known-4-1.given (c.args.i + 3))

-- src/lib.rt:226:5
pub overflow_add-result : goal.overflow_add-result
overflow_add-result c = omega (arith, c.shared_slice_known-1.given c.args.i, c.shared_slice_known-2-1.given (c.args.i + 1), c.shared_slice_known-3-1.given (c.args.i + 2), c.shared_slice_known-4-1.given (c.args.i + 3))

-- src/lib.rt:226:19
pub overflow_mul-result-2 : goal.overflow_mul-result-2
overflow_mul-result-2 c = omega (arith, c.shared_slice_known-1.given c.args.i, c.shared_slice_known-2-1.given (c.args.i + 1), c.shared_slice_known-3-1.given (c.args.i + 2), c.shared_slice_known-4-1.given (c.args.i + 3))

-- src/lib.rt:226:5
pub overflow_add-result-2 : goal.overflow_add-result-2
overflow_add-result-2 c = omega (arith, c.shared_slice_known-1.given c.args.i, c.shared_slice_known-2-1.given (c.args.i + 1), c.shared_slice_known-3-1.given (c.args.i + 2), c.shared_slice_known-4-1.given (c.args.i + 3))

-- src/lib.rt:226:31
pub overflow_mul-result-3 : goal.overflow_mul-result-3
overflow_mul-result-3 c = omega (arith, c.shared_slice_known-1.given c.args.i, c.shared_slice_known-2-1.given (c.args.i + 1), c.shared_slice_known-3-1.given (c.args.i + 2), c.shared_slice_known-4-1.given (c.args.i + 3))

-- src/lib.rt:226:5
pub overflow_add-result-3 : goal.overflow_add-result-3
overflow_add-result-3 c = omega (arith, c.shared_slice_known-1.given c.args.i, c.shared_slice_known-2-1.given (c.args.i + 1), c.shared_slice_known-3-1.given (c.args.i + 2), c.shared_slice_known-4-1.given (c.args.i + 3))

-- src/lib.rt:218:1
pub returns : goal.returns
unfolding word_at
returns c = refl
