use mathlib.Core.Path.{◌≡◌}
use mathlib.Core.List.{◌∷◌, []}
use Rattle.plan.specs.declared.Table.TheVariants.{Tasks}
use Rattle.plan.specs.Image as Image
use Rattle.plan.specs.Image.{rows}
use Rattle.plan.specs.Questions.{core_of}
use Rattle.drafts.specs.Drafts.{task_at}
use Rattle.drafts.specs.Edits.{store_rows}
use Rattle.copying.proofs.copy_tasks.Given as goal

abbrev pub invariant-loop-task : goal.invariant-loop-task
invariant-loop-task l = (l.tasks ≡ rows l.image Tasks) × (l.words ≡ store_rows task_at (λ x. core_of l.image x ∷ (Image.task l.image x).period ∷ (Image.task l.image x).deadline ∷ []) l.task l.initial.words)
