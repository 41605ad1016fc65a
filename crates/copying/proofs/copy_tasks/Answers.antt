use mathlib.Core.Path.{refl}
use mathlib.Core.List.{◌∷◌, []}
use Rattle.plan.specs.Image as Image
use Rattle.plan.specs.Image.{shape}
use Rattle.plan.specs.Questions.{core_of}
use Rattle.drafts.specs.Drafts.{task_at}
use Rattle.drafts.specs.Edits.{store_rows}
use Rattle.drafts.proofs.Storing.{rows_turn}
use Rattle.copying.proofs.copy_tasks.Goals as goal

pub loop-task-init : goal.loop-task-init
unfolding store_rows
loop-task-init c = (c.rows_of-tasks.ensures, refl)

pub loop-task-preserved : goal.loop-task-preserved
loop-task-preserved c = let a = c.args in let l = c.loop-task in (l.invariant.0, rows_turn task_at (λ x. core_of a.image.now x ∷ (Image.task a.image.now x).period ∷ (Image.task a.image.now x).deadline ∷ []) l.task a.words.now l.words _ l.invariant.1 c.copy_task.ensures)
