use mathlib.Core.Path.{refl}
use native.Mathlib.Omega.{arith}
use Rattle.drafts.specs.Drafts.{draft_words, places, place_at}
use Rattle.edits.proofs.clear_place.Goals as goal

pub bounds-words-place : goal.bounds-words-place
unfolding draft_words places
bounds-words-place c = omega (arith, c.requires.0, c.requires.1)

pub returns : goal.returns
unfolding place_at
returns c = refl
