use mathlib.Core.Path.{refl}
use native.Mathlib.Omega.{arith}
use Rattle.drafts.specs.Drafts.{draft_words, core_at}
use Rattle.draftwords.proofs.store_core.Goals as goal

pub bounds-words-core : goal.bounds-words-core
unfolding draft_words
bounds-words-core c = omega (arith, c.requires.0, c.requires.1)

pub returns : goal.returns
unfolding core_at
returns c = refl
