use mathlib.Core.Path.{◌≡◌, subst, ◌∙◌}
use native.Mathlib.Omega.{arith}
use Rattle.plan.specs.declared.Table.TheVariants.{Tasks}
use Rattle.plan.specs.Image.{rows, shape}
use Rattle.jobs.proofs.Gathering.{PlacedTo, placed_none, placed_more, place_0, place_next, place_fits, gathered_none}
use Rattle.jobs.proofs.place_tasks.Goals as goal

pub loop-task-init : goal.loop-task-init
loop-task-init c = (place_0 c.args.image.now, placed_none c.args.image.now c.args.times.now c.requires.1)

pub bounds-times-task : goal.bounds-times-task
unfolding shape
bounds-times-task c = let a = c.args in let s = a.image.now in let p = c.requires in let g = c.rows_of-tasks.ensures in let k = p.0.inside.counts Tasks in let l = c.loop-task in let z = l.invariant.1.cleared.size in omega arith

pub overflow_add-place : goal.overflow_add-place
overflow_add-place c = let a = c.args in let s = a.image.now in let p = c.requires in let g = c.rows_of-tasks.ensures in let k = p.0.inside.counts Tasks in let l = c.loop-task in let e = l.invariant.0 in let j = c.jobs_of.ensures in omega (arith, place_fits s p.0 l.task (omega arith))

pub loop-task-preserved : goal.loop-task-preserved
unfolding shape
loop-task-preserved c = let a = c.args in let s = a.image.now in let p = c.requires in let g = c.rows_of-tasks.ensures in let k = p.0.inside.counts Tasks in let l = c.loop-task in let j = c.jobs_of.ensures in (c.min-place.ensures ∙ rw (j, l.invariant.0) (place_next s l.task), rw l.invariant.0 (placed_more s l.times l.task (omega arith) l.invariant.1))

pub returns : goal.returns
returns c = let l = c.loop-task in let s = c.args.image.now in let g = c.rows_of-tasks.ensures in let e : l.task ≡ rows s Tasks = omega arith in gathered_none s l.times (subst (PlacedTo s l.times) e l.invariant.1)
