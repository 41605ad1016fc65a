use mathlib.Core.Path.{refl}
use native.Mathlib.Omega.{arith}
use Rattle.drafts.specs.Drafts.{draft_words, draft_tasks}
use Rattle.draftwords.proofs.task_count.Goals as goal

pub bounds-words-2 : goal.bounds-words-2
unfolding draft_words
bounds-words-2 c = omega arith

pub returns : goal.returns
unfolding draft_tasks
returns c = refl
