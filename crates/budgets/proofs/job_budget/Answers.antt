use native.Mathlib.Omega.{arith}
use Rattle.plan.specs.declared.Table.TheVariants.{Tasks}
use Rattle.plan.specs.Image.{shape}
use Rattle.jobs.proofs.Gathering.{task_word_most}
use Rattle.budgets.proofs.Budgets.{no_place_left, by_work}
use Rattle.budgets.proofs.job_budget.Goals as goal

-- src/lib.rt:134:17
pub bounds-times-task : goal.bounds-times-task
unfolding shape
bounds-times-task c = let a = c.args in let s = a.image.now in let ts = a.times.now in let p = c.requires in let h = p.sound.0 in let q = p.sound.1.0 in let g = p.sound.1.1 in let l = p.task_bound.0 in let y = p.task_bound.1.0 in let z = g.placed.size in let k = h.inside.counts Tasks in omega arith

-- src/lib.rt:134:17
pub overflow_cast-place-2 : goal.overflow_cast-place-2
overflow_cast-place-2 c = let a = c.args in let s = a.image.now in let ts = a.times.now in let p = c.requires in let h = p.sound.0 in let q = p.sound.1.0 in let g = p.sound.1.1 in let l = p.task_bound.0 in let y = p.task_bound.1.0 in let z = g.placed.size in omega (arith, task_word_most s ts g.placed a.task l)

-- src/lib.rt:134:17
pub overflow_add-place : goal.overflow_add-place
overflow_add-place c = let a = c.args in let s = a.image.now in let ts = a.times.now in let p = c.requires in let h = p.sound.0 in let q = p.sound.1.0 in let g = p.sound.1.1 in let l = p.task_bound.0 in let y = p.task_bound.1.0 in let z = g.placed.size in omega (arith, task_word_most s ts g.placed a.task l)

-- src/lib.rt:136:9
pub returns-then-place-ge-JOBS : goal.returns-then-place-ge-JOBS
returns-then-place-ge-JOBS c = let a = c.args in let s = a.image.now in let ts = a.times.now in let p = c.requires in let h = p.sound.0 in let q = p.sound.1.0 in let g = p.sound.1.1 in let l = p.task_bound.0 in let y = p.task_bound.1.0 in let z = g.placed.size in no_place_left s ts h q g a.task a.job l y p.task_bound.1.1 c.if-place-ge-JOBS.true

-- src/lib.rt:129:1
pub returns : goal.returns
returns c = let a = c.args in let s = a.image.now in let ts = a.times.now in let p = c.requires in let h = p.sound.0 in let q = p.sound.1.0 in let g = p.sound.1.1 in let l = p.task_bound.0 in let y = p.task_bound.1.0 in let z = g.placed.size in rw c.task_at.ensures (by_work s ts h q g a.task a.job l y c.if-place-ge-JOBS.false)
