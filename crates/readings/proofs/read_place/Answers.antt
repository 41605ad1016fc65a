use mathlib.Core.Path.{sym, ap, ◌∙◌}
use native.Mathlib.Omega.{arith}
use lib.Seq.{sets}
use Rattle.plan.specs.declared.Piece.{Piece}
use Rattle.drafts.specs.Edits.{piece_words}
use Rattle.readings.proofs.Readings.{place_33, place_34, place_0, held_place}
use Rattle.readings.proofs.read_place.Goals as goal

pub returns-then-not-holds_piece : goal.returns-then-not-holds_piece
returns-then-not-holds_piece c = let a = c.args in place_33 a.words.now a.place a.piece.now (sym c.holds_piece.ensures ∙ c.if-not-holds_piece.true)

pub returns-then-piece-lt4 : goal.returns-then-piece-lt4
returns-then-piece-lt4 c = let a = c.args in place_34 a.words.now a.place a.piece.now (sym c.holds_piece.ensures ∙ c.if-not-holds_piece.false) c.if-piece-lt4.true

pub piece_at-held-requires : goal.piece_at-held-requires
piece_at-held-requires c = let a = c.args in held_place a.words.now a.place (sym c.holds_piece.ensures ∙ c.if-not-holds_piece.false)

pub returns : goal.returns
returns c = let a = c.args in let z = place_0 a.words.now a.place a.piece.now (sym c.holds_piece.ensures ∙ c.if-not-holds_piece.false) (omega (arith, c.if-piece-lt4.false)) in (z.0, c.store_piece.ensures ∙ ap (λ (x : Piece). sets a.piece.now 0 (piece_words x)) c.piece_at-held.ensures ∙ z.1)
