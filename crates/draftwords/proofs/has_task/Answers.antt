use native.Mathlib.Omega.{arith}
use Rattle.drafts.specs.Drafts.{draft_words, draft_tasks, has_task}
use Rattle.draftwords.proofs.has_task.Goals as goal

pub bounds-words-2 : goal.bounds-words-2
unfolding draft_words
bounds-words-2 c = omega arith

pub returns : goal.returns
unfolding has_task draft_tasks
returns c = cc
