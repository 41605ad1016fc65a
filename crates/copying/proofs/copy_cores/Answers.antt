use mathlib.Core.Path.{refl}
use mathlib.Core.List.{◌∷◌, []}
use Rattle.plan.specs.Image as Image
use Rattle.plan.specs.Image.{shape}
use Rattle.drafts.specs.Drafts.{core_at}
use Rattle.drafts.specs.Edits.{store_rows}
use Rattle.drafts.proofs.Storing.{rows_turn}
use Rattle.copying.proofs.copy_cores.Goals as goal

pub loop-core-init : goal.loop-core-init
unfolding store_rows
loop-core-init c = (c.rows_of-cores.ensures, refl)

pub loop-core-preserved : goal.loop-core-preserved
loop-core-preserved c = let a = c.args in let l = c.loop-core in (l.invariant.0, rows_turn core_at (λ x. (Image.core a.image.now x).d ∷ []) l.core a.words.now l.words _ l.invariant.1 c.copy_core.ensures)
