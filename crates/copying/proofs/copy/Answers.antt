use mathlib.Core.Path.{refl, ◌∙◌}
use Rattle.drafts.specs.Edits.{copied}
use Rattle.copying.proofs.copy.Goals as goal

pub returns : goal.returns
unfolding copied
returns c = c.copy_places.ensures ∙ (rw (c.copy_tasks.ensures, c.copy_cores.ensures, c.copy_head.ensures) refl)
