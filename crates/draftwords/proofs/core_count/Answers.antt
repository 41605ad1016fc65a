use mathlib.Core.Path.{refl}
use native.Mathlib.Omega.{arith}
use Rattle.drafts.specs.Drafts.{draft_words, draft_cores}
use Rattle.draftwords.proofs.core_count.Goals as goal

pub bounds-words-1 : goal.bounds-words-1
unfolding draft_words
bounds-words-1 c = omega arith

pub returns : goal.returns
unfolding draft_cores
returns c = refl
