use mathlib.Core.Path.{sym, ap}
use Rattle.places.specs.Index.{base_of}
use Rattle.places.proofs.base_of.Goals as goal

-- src/lib.rt:52:1
pub returns-in-Piece : goal.returns-in-Piece
unfolding base_of
returns-in-Piece c = sym (ap base_of c.in-Piece.is)

-- src/lib.rt:52:1
pub returns-in-Window : goal.returns-in-Window
unfolding base_of
returns-in-Window c = sym (ap base_of c.in-Window.is)

-- src/lib.rt:52:1
pub returns-in-Frame : goal.returns-in-Frame
unfolding base_of
returns-in-Frame c = sym (ap base_of c.in-Frame.is)
