use Prim.Native.Nat.{◌≤◌}
use mathlib.Core.Path.{◌≡◌, refl}
use native.Mathlib.Omega.{arith}
use Rattle.tables.specs.Tables.{table_at}
use Rattle.plan.specs.Image.{tables}
use Rattle.tables.proofs.table_at.Goals as goal

-- src/lib.rt:82:1
pub returns-in-0 : goal.returns-in-0
unfolding table_at tables
returns-in-0 c = rw c.in-0.is refl

-- src/lib.rt:82:1
pub returns-in-1 : goal.returns-in-1
unfolding table_at tables
returns-in-1 c = rw c.in-1.is refl

-- src/lib.rt:82:1
pub returns-in-2 : goal.returns-in-2
unfolding table_at tables
returns-in-2 c = rw c.in-2.is refl

-- src/lib.rt:82:1
pub returns-in-3 : goal.returns-in-3
unfolding table_at tables
returns-in-3 c = rw c.in-3.is refl

-- src/lib.rt:82:1
pub returns-in-4 : goal.returns-in-4
unfolding table_at tables
returns-in-4 c = rw c.in-4.is refl

-- src/lib.rt:82:1
pub returns-in-5 : goal.returns-in-5
unfolding table_at tables
returns-in-5 c = rw c.in-5.is refl

-- src/lib.rt:82:1
pub returns-in-6 : goal.returns-in-6
unfolding table_at tables
returns-in-6 c = rw c.in-6.is refl

-- src/lib.rt:82:1
pub returns-in-7 : goal.returns-in-7
unfolding table_at tables
returns-in-7 c = rw c.in-7.is refl

-- src/lib.rt:82:1
pub returns-in-8 : goal.returns-in-8
unfolding table_at tables
returns-in-8 c = rw c.in-8.is refl

-- src/lib.rt:82:1
pub returns-in_default : goal.returns-in_default
unfolding table_at tables
returns-in_default c = let r = c.in_default.in_default-own.rest in let n = c.args.i in let l : 4 ≤ n = omega (arith, r.0.0.0.0.0.0.0.0.1, r.0.0.0.0.0.0.0.1, r.0.0.0.0.0.0.1, r.0.0.0.0.0.1) in let e : n ≡ 9 = omega (arith, r.0.0.0.0.1, r.0.0.0.1, r.0.0.1, r.0.1, r.1, c.requires) in rw e refl
