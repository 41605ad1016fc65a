use native.Mathlib.Omega.{arith}
use Rattle.drafts.specs.Drafts.{draft_words, task_at, task_period}
use Rattle.draftwords.proofs.task_period.Goals as goal

pub bounds-words-task : goal.bounds-words-task
unfolding draft_words
bounds-words-task c = omega arith

pub returns : goal.returns
unfolding task_period task_at
returns c = cc
