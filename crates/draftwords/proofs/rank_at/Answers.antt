use native.Mathlib.Omega.{arith}
use Rattle.drafts.specs.Drafts.{draft_words, places, place_at, rank_at}
use Rattle.draftwords.proofs.rank_at.Goals as goal

pub bounds-words-place : goal.bounds-words-place
unfolding draft_words places
bounds-words-place c = omega arith

pub returns : goal.returns
unfolding rank_at place_at
returns c = cc
