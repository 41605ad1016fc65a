use native.Mathlib.Omega.{arith}
use lib.ListN.{length-set}
use Rattle.drafts.specs.Drafts.{draft_words}
use Rattle.copying.proofs.copy_head.Goals as goal

pub bounds-words-0 : goal.bounds-words-0
unfolding draft_words
bounds-words-0 c = omega (arith, c.requires.1)

pub bounds-words-1 : goal.bounds-words-1
unfolding draft_words
bounds-words-1 c = rw length-set (omega (arith, c.requires.1))

pub bounds-words-2 : goal.bounds-words-2
unfolding draft_words
bounds-words-2 c = rw (length-set, length-set) (omega (arith, c.requires.1))
