use native.Mathlib.Omega.{arith}
use Rattle.drafts.specs.Drafts.{draft_words, places, place_at, piece_at}
use Rattle.draftwords.proofs.piece_at.Goals as goal

pub bounds-words-at : goal.bounds-words-at
unfolding draft_words places
bounds-words-at c = omega arith

pub bounds-words-at-2 : goal.bounds-words-at-2
unfolding draft_words places
bounds-words-at-2 c = omega arith

pub bounds-words-at-3 : goal.bounds-words-at-3
unfolding draft_words places
bounds-words-at-3 c = omega arith

pub bounds-words-at-4 : goal.bounds-words-at-4
unfolding draft_words places
bounds-words-at-4 c = omega arith

pub returns : goal.returns
unfolding piece_at place_at
returns c = cc
