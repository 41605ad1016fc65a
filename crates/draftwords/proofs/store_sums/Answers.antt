use native.Mathlib.Omega.{arith}
use lib.ListN.{length-set}
use Rattle.drafts.specs.Drafts.{draft_words, places, place_at}
use Rattle.draftwords.proofs.Stores.{two_words}
use Rattle.draftwords.proofs.store_sums.Goals as goal

pub bounds-words-at : goal.bounds-words-at
unfolding draft_words places
bounds-words-at c = omega (arith, c.requires.0, c.requires.1)

pub bounds-words-at-2 : goal.bounds-words-at-2
unfolding draft_words places
bounds-words-at-2 c = rw (length-set) (omega (arith, c.requires.0, c.requires.1))

pub returns : goal.returns
unfolding place_at
returns c = two_words c.args.words.now _ _ c.args.rank c.args.total (omega arith)
