use Prim.Native.Nat.{◌<◌, ◌^◌}
use native.Mathlib.Omega.{arith}
use Rattle.terms.proofs.Products.{product_fits}
use Rattle.drafts.specs.Drafts.{task_jobs, fits_job}
use Rattle.draftwords.proofs.Headed.{head_parts, task_parts}
use Rattle.draftwords.proofs.fits_job.Goals as goal

pub task_core-core-requires : goal.task_core-core-requires
task_core-core-requires c = let p = c.requires in (p.0.room, omega (arith, (head_parts _ p.0).4, p.1))

pub task_period-period-requires : goal.task_period-period-requires
task_period-period-requires c = let p = c.requires in (p.0.room, omega (arith, (head_parts _ p.0).4, p.1))

pub task_deadline-deadline-requires : goal.task_deadline-deadline-requires
task_deadline-deadline-requires c = let p = c.requires in (p.0.room, omega (arith, (head_parts _ p.0).4, p.1))

pub core_switch-switch-requires : goal.core_switch-switch-requires
core_switch-switch-requires c = let p = c.requires in (p.0.room, omega (arith, (task_parts _ p.0 _ p.1).0, c.task_core-core.ensures))

pub nonzero_div-jobs : goal.nonzero_div-jobs
nonzero_div-jobs c = let p = c.requires in omega (arith, (task_parts _ p.0 _ p.1).1, c.task_period-period.ensures)

pub overflow_mul-release : goal.overflow_mul-release
overflow_mul-release c = let j = c.args.piece.job in let t = c.task_period-period in let h : j < 2 ^ 32 = omega arith in let k : t.result < 2 ^ 32 = omega (arith, t.type_inv) in let d : 0 < 2 ^ 32 = omega (arith, t.type_inv) in let f = product_fits h k d in omega arith

pub overflow_add-due : goal.overflow_add-due
overflow_add-due c = let j = c.args.piece.job in let t = c.task_period-period in let u = c.task_deadline-deadline in let h : j < 2 ^ 32 = omega arith in let k : t.result < 2 ^ 32 = omega (arith, t.type_inv) in let d : u.result < 2 ^ 32 = omega (arith, u.type_inv) in let f = product_fits h k d in omega arith

pub returns : goal.returns
unfolding fits_job task_jobs
returns c = cc
