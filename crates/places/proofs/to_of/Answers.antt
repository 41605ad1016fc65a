use Prim.Native.Nat.{◌<◌}
use mathlib.Core.Path.{sym, ap, subst, ◌∙◌}
use Rattle.places.specs.declared.Occupant.{Occupant}
use Rattle.plan.specs.Image.{rows}
use Rattle.places.specs.Places.{table_for, to_of}
use Rattle.places.proofs.to_of.Goals as goal

pub piece_end-requires : goal.piece_end-requires
unfolding table_for
piece_end-requires c = let p = c.requires in let a = c.args in (p.0, subst (λ (o : Occupant). a.row < rows a.image.now (table_for o)) c.in-Piece.is p.1)

pub window_end-requires : goal.window_end-requires
unfolding table_for
window_end-requires c = let p = c.requires in let a = c.args in (p.0, subst (λ (o : Occupant). a.row < rows a.image.now (table_for o)) c.in-Window.is p.1)

pub frame_end-requires : goal.frame_end-requires
unfolding table_for
frame_end-requires c = let p = c.requires in let a = c.args in (p.0, subst (λ (o : Occupant). a.row < rows a.image.now (table_for o)) c.in-Frame.is p.1)

pub returns-in-Piece : goal.returns-in-Piece
unfolding to_of
returns-in-Piece c = let a = c.args in c.piece_end.ensures ∙ sym (ap (λ (o : Occupant). to_of a.image.now o a.row) c.in-Piece.is)

pub returns-in-Window : goal.returns-in-Window
unfolding to_of
returns-in-Window c = let a = c.args in c.window_end.ensures ∙ sym (ap (λ (o : Occupant). to_of a.image.now o a.row) c.in-Window.is)

pub returns-in-Frame : goal.returns-in-Frame
unfolding to_of
returns-in-Frame c = let a = c.args in c.frame_end.ensures ∙ sym (ap (λ (o : Occupant). to_of a.image.now o a.row) c.in-Frame.is)
