use mathlib.Core.Path.{refl}
use native.Mathlib.Omega.{arith}
use Rattle.drafts.specs.Drafts.{draft_words, draft_cycle}
use Rattle.draftwords.proofs.cycle_of.Goals as goal

pub bounds-words-0 : goal.bounds-words-0
unfolding draft_words
bounds-words-0 c = omega arith

pub returns : goal.returns
unfolding draft_cycle
returns c = refl
