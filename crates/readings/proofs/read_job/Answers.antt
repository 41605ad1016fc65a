use mathlib.Core.Path.{sym, ◌∙◌}
use native.Mathlib.Omega.{arith}
use Rattle.draftwords.proofs.Headed.{head_parts, task_parts}
use Rattle.readings.proofs.Readings.{headed_of, jobs_is, job_33, job_5, job_10, job_0}
use Rattle.readings.proofs.read_job.Goals as goal

pub returns-then-not-is_draft : goal.returns-then-not-is_draft
returns-then-not-is_draft c = let a = c.args in job_33 a.words.now a.task a.job (sym c.is_draft.ensures ∙ c.if-not-is_draft.true)

pub task_count-requires : goal.task_count-requires
task_count-requires c = (headed_of c.args.words.now (sym c.is_draft.ensures ∙ c.if-not-is_draft.false)).room

pub returns-then-task_count-task : goal.returns-then-task_count-task
returns-then-task_count-task c = let a = c.args in job_5 a.words.now a.task a.job (sym c.is_draft.ensures ∙ c.if-not-is_draft.false) (omega (arith, c.task_count.ensures, c.if-task_count-task.true))

pub task_period-period-requires : goal.task_period-period-requires
task_period-period-requires c = let a = c.args in let h = headed_of a.words.now (sym c.is_draft.ensures ∙ c.if-not-is_draft.false) in (h.room, omega (arith, (head_parts _ h).4, c.task_count.ensures, c.if-task_count-task.false))

pub cycle_of-requires : goal.cycle_of-requires
cycle_of-requires c = (headed_of c.args.words.now (sym c.is_draft.ensures ∙ c.if-not-is_draft.false)).room

pub nonzero_div-jobs : goal.nonzero_div-jobs
nonzero_div-jobs c = let a = c.args in let h = headed_of a.words.now (sym c.is_draft.ensures ∙ c.if-not-is_draft.false) in omega (arith, (task_parts _ h a.task (omega (arith, c.task_count.ensures, c.if-task_count-task.false))).1, c.task_period-period.ensures)

pub returns-then-jobs-job : goal.returns-then-jobs-job
returns-then-jobs-job c = let a = c.args in let w = a.words.now in job_10 w a.task a.job (sym c.is_draft.ensures ∙ c.if-not-is_draft.false) (omega (arith, c.task_count.ensures, c.if-task_count-task.false)) (omega (arith, jobs_is w a.task c.cycle_of.result c.task_period-period.result c.cycle_of.ensures c.task_period-period.ensures, c.if-jobs-job.true))

pub stored_total-requires : goal.stored_total-requires
stored_total-requires c = (headed_of c.args.words.now (sym c.is_draft.ensures ∙ c.if-not-is_draft.false)).room

pub returns : goal.returns
returns c = let a = c.args in let w = a.words.now in rw c.stored_total.ensures (job_0 w a.task a.job (sym c.is_draft.ensures ∙ c.if-not-is_draft.false) (omega (arith, c.task_count.ensures, c.if-task_count-task.false)) (omega (arith, jobs_is w a.task c.cycle_of.result c.task_period-period.result c.cycle_of.ensures c.task_period-period.ensures, c.if-jobs-job.false)))
