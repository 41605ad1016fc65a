use mathlib.Core.Path.{◌≡◌}
use mathlib.Core.List.{◌∷◌, []}
use Rattle.plan.specs.declared.Table.TheVariants.{Cores}
use Rattle.plan.specs.Image as Image
use Rattle.plan.specs.Image.{rows}
use Rattle.drafts.specs.Drafts.{core_at}
use Rattle.drafts.specs.Edits.{store_rows}
use Rattle.copying.proofs.copy_cores.Given as goal

abbrev pub invariant-loop-core : goal.invariant-loop-core
invariant-loop-core l = (l.cores ≡ rows l.image Cores) × (l.words ≡ store_rows core_at (λ x. (Image.core l.image x).d ∷ []) l.core l.initial.words)
