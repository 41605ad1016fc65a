use native.Mathlib.Omega.{arith}
use Rattle.jobs.proofs.Gathering.{place_inside, last_read}
use Rattle.jobs.proofs.last_end.Goals as goal

-- src/lib.rt:188:17
pub bounds-times-task : goal.bounds-times-task
bounds-times-task c = let p = c.requires in let z = p.0.placed.size in let t = p.0.few in omega (arith, p.1.0)

-- src/lib.rt:188:17
pub overflow_add-place : goal.overflow_add-place
overflow_add-place c = let a = c.args in let p = c.requires in let z = p.0.placed.size in omega (arith, place_inside a.image.now a.times.now p.0 a.task a.job p.1.0 p.1.1)

-- src/lib.rt:189:11
pub overflow_add-result : goal.overflow_add-result
overflow_add-result c = let a = c.args in let p = c.requires in let z = p.0.placed.size in omega (arith, place_inside a.image.now a.times.now p.0 a.task a.job p.1.0 p.1.1)

-- src/lib.rt:189:5
pub offset_bounds-times-place : goal.offset_bounds-times-place
offset_bounds-times-place c = let a = c.args in let p = c.requires in let z = p.0.placed.size in omega (arith, place_inside a.image.now a.times.now p.0 a.task a.job p.1.0 p.1.1)

-- src/lib.rt:189:5
pub bounds-times-place : goal.bounds-times-place
bounds-times-place c = let a = c.args in let p = c.requires in let z = p.0.placed.size in omega (arith, place_inside a.image.now a.times.now p.0 a.task a.job p.1.0 p.1.1)

-- src/lib.rt:184:1
pub returns : goal.returns
returns c = let a = c.args in let p = c.requires in last_read a.image.now a.times.now p.0 a.task a.job p.1.0 p.1.1
