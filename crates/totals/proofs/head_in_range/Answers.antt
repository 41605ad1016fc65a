use native.Mathlib.Omega.{arith}
use Rattle.drafts.specs.Drafts.{draft_words, draft_cycle, draft_cores, draft_tasks, head_in_range}
use Rattle.totals.proofs.head_in_range.Goals as goal

pub bounds-words-0 : goal.bounds-words-0
unfolding draft_words
bounds-words-0 c = omega arith

pub bounds-words-1 : goal.bounds-words-1
unfolding draft_words
bounds-words-1 c = omega arith

pub bounds-words-2 : goal.bounds-words-2
unfolding draft_words
bounds-words-2 c = omega arith

pub returns : goal.returns
unfolding head_in_range draft_cycle draft_cores draft_tasks
returns c = cc
