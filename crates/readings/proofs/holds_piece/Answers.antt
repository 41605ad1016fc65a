use mathlib.Core.Path.{sym, ◌∙◌}
use native.Mathlib.Omega.{arith}
use Rattle.drafts.specs.Drafts.{places}
use Rattle.readings.proofs.Readings.{headed_of, holds_far, holds_here}
use Rattle.readings.proofs.holds_piece.Goals as goal

pub returns-then-place-ge-PLACES : goal.returns-then-place-ge-PLACES
returns-then-place-ge-PLACES c = let a = c.args in holds_far a.words.now a.place c.if-place-ge-PLACES.true

pub is_free-requires : goal.is_free-requires
unfolding places
is_free-requires c = let a = c.args in ((headed_of a.words.now (sym c.is_draft.ensures ∙ c.if-not-is_draft.false)).room, omega (arith, c.if-place-ge-PLACES.false))

pub returns : goal.returns
returns c = let a = c.args in rw c.is_free.ensures (holds_here a.words.now a.place (sym c.is_draft.ensures ∙ c.if-not-is_draft.false) (omega (arith, c.if-place-ge-PLACES.false)))
