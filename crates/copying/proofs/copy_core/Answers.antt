use mathlib.Core.Path.{refl}
use native.Mathlib.Omega.{arith}
use Rattle.plan.specs.declared.Table.TheVariants.{Cores}
use Rattle.plan.specs.Image.{shape}
use Rattle.drafts.specs.Drafts.{draft_words, core_at}
use Rattle.copying.proofs.copy_core.Goals as goal

pub bounds-words-core : goal.bounds-words-core
unfolding draft_words shape
bounds-words-core c = let p = c.requires in omega (arith, p.0.1, p.1, p.0.0.inside.counts Cores)

pub returns : goal.returns
unfolding core_at
returns c = rw c.core_at-row.ensures refl
