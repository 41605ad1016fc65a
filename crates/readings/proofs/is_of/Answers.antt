use mathlib.Core.Path.{refl}
use Rattle.drafts.specs.Drafts.{is_of}
use Rattle.readings.proofs.is_of.Goals as goal

pub returns : goal.returns
unfolding is_of
returns c = rw (c.is_free-free.ensures, c.piece_at-piece.ensures) refl
