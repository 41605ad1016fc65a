use native.Mathlib.Omega.{arith}
use Rattle.drafts.specs.Drafts.{draft_words, task_at, task_deadline}
use Rattle.draftwords.proofs.task_deadline.Goals as goal

pub bounds-words-task : goal.bounds-words-task
unfolding draft_words
bounds-words-task c = omega arith

pub returns : goal.returns
unfolding task_deadline task_at
returns c = cc
