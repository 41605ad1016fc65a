use mathlib.Core.Path.{sym, ◌∙◌}
use Rattle.edits.proofs.Asked.{remove_33, remove_asked, remove_0}
use Rattle.edits.proofs.remove_piece.Goals as goal

pub returns-then-not-holds_piece : goal.returns-then-not-holds_piece
returns-then-not-holds_piece c = let a = c.args in remove_33 a.words.now a.place (sym c.holds_piece.ensures ∙ c.if-not-holds_piece.true)

pub take_piece-requires : goal.take_piece-requires
take_piece-requires c = let a = c.args in remove_asked a.words.now a.place (sym c.holds_piece.ensures ∙ c.if-not-holds_piece.false)

pub returns : goal.returns
returns c = let a = c.args in remove_0 a.words.now a.place _ (sym c.holds_piece.ensures ∙ c.if-not-holds_piece.false) c.take_piece.ensures
