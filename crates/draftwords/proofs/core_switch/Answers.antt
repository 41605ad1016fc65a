use native.Mathlib.Omega.{arith}
use Rattle.drafts.specs.Drafts.{draft_words, core_at, core_switch}
use Rattle.draftwords.proofs.core_switch.Goals as goal

pub bounds-words-core : goal.bounds-words-core
unfolding draft_words
bounds-words-core c = omega arith

pub returns : goal.returns
unfolding core_switch core_at
returns c = cc
