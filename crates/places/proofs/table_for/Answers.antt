use mathlib.Core.Path.{sym, ap}
use Rattle.places.specs.Places.{table_for}
use Rattle.places.proofs.table_for.Goals as goal

pub returns-in-Piece : goal.returns-in-Piece
unfolding table_for
returns-in-Piece c = sym (ap table_for c.in-Piece.is)

pub returns-in-Window : goal.returns-in-Window
unfolding table_for
returns-in-Window c = sym (ap table_for c.in-Window.is)

pub returns-in-Frame : goal.returns-in-Frame
unfolding table_for
returns-in-Frame c = sym (ap table_for c.in-Frame.is)
