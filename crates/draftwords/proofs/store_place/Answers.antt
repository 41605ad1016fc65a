use native.Mathlib.Omega.{arith}
use Rattle.drafts.specs.Drafts.{draft_words, places, place_at}
use Rattle.draftwords.proofs.store_place.Goals as goal

pub store_piece-requires : goal.store_piece-requires
unfolding draft_words places
store_piece-requires c = let p = c.requires in (omega (arith, p.0, p.1), omega (arith, p.1))

pub returns : goal.returns
unfolding place_at
returns c = c.store_piece.ensures
