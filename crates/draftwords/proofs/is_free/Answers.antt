use native.Mathlib.Omega.{arith}
use Rattle.drafts.specs.Drafts.{draft_words, places, place_at, piece_at, is_free}
use Rattle.draftwords.proofs.is_free.Goals as goal

pub bounds-words-place : goal.bounds-words-place
unfolding draft_words places
bounds-words-place c = omega arith

pub returns : goal.returns
unfolding is_free piece_at place_at
returns c = cc
