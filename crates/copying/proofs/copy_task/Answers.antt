use Prim.Native.Nat.{◌+◌, ◌*◌}
use mathlib.Core.Path.{refl, ◌∙◌}
use native.Mathlib.Omega.{arith}
use lib.ListN.{length-set}
use Rattle.plan.specs.declared.Table.TheVariants.{Tasks}
use Rattle.plan.specs.Image.{shape}
use Rattle.drafts.specs.Drafts.{draft_words, task_at}
use Rattle.draftwords.proofs.Stores.{three_words}
use Rattle.copying.proofs.copy_task.Goals as goal

pub bounds-words-at : goal.bounds-words-at
unfolding draft_words shape
bounds-words-at c = let p = c.requires in omega (arith, p.0.1, p.1, p.0.0.inside.counts Tasks)

pub bounds-words-at-2 : goal.bounds-words-at-2
unfolding draft_words shape
bounds-words-at-2 c = let p = c.requires in rw length-set (omega (arith, p.0.1, p.1, p.0.0.inside.counts Tasks))

pub bounds-words-at-3 : goal.bounds-words-at-3
unfolding draft_words shape
bounds-words-at-3 c = let p = c.requires in rw (length-set, length-set) (omega (arith, p.0.1, p.1, p.0.0.inside.counts Tasks))

pub returns : goal.returns
unfolding task_at
returns c = let a = c.args in three_words a.words.now (67 + 3 * a.task) (67 + 3 * a.task + 1) (67 + 3 * a.task + 2) _ _ _ (omega arith) (omega arith) ∙ (rw (c.core_of-core.ensures, c.task_at-row.ensures) refl)
