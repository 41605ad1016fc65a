use Prim.Native.Nat.{◌<◌}
use mathlib.Core.Path.{sym, ap, subst, ◌∙◌}
use Rattle.places.specs.declared.Occupant.{Occupant}
use Rattle.plan.specs.declared.Frame.{Frame}
use Rattle.plan.specs.declared.Piece.{Piece}
use Rattle.plan.specs.declared.Window.{Window}
use Rattle.plan.specs.Image.{rows}
use Rattle.places.specs.Places.{table_for, from_of}
use Rattle.places.proofs.from_of.Goals as goal

pub piece_at-requires : goal.piece_at-requires
unfolding table_for
piece_at-requires c = let p = c.requires in let a = c.args in record { in_image = p.0.inside; row_bound = subst (λ (o : Occupant). a.row < rows a.image.now (table_for o)) c.in-Piece.is p.1 }

pub window_at-requires : goal.window_at-requires
unfolding table_for
window_at-requires c = let p = c.requires in let a = c.args in record { in_image = p.0.inside; row_bound = subst (λ (o : Occupant). a.row < rows a.image.now (table_for o)) c.in-Window.is p.1 }

pub frame_at-requires : goal.frame_at-requires
unfolding table_for
frame_at-requires c = let p = c.requires in let a = c.args in record { in_image = p.0.inside; row_bound = subst (λ (o : Occupant). a.row < rows a.image.now (table_for o)) c.in-Frame.is p.1 }

pub returns-in-Piece : goal.returns-in-Piece
unfolding from_of
returns-in-Piece c = let a = c.args in ap (λ (x : Piece). x.start) c.piece_at.ensures ∙ sym (ap (λ (o : Occupant). from_of a.image.now o a.row) c.in-Piece.is)

pub returns-in-Window : goal.returns-in-Window
unfolding from_of
returns-in-Window c = let a = c.args in ap (λ (x : Window). x.start) c.window_at.ensures ∙ sym (ap (λ (o : Occupant). from_of a.image.now o a.row) c.in-Window.is)

pub returns-in-Frame : goal.returns-in-Frame
unfolding from_of
returns-in-Frame c = let a = c.args in ap (λ (x : Frame). x.start) c.frame_at.ensures ∙ sym (ap (λ (o : Occupant). from_of a.image.now o a.row) c.in-Frame.is)
