use Rattle.stretches.proofs.Stretches.{piece_shows, window_shows, core_idles}
use Rattle.cursors.specs.Taken.{Nearest}
use Rattle.places.specs.Places.{table_for}
use Rattle.places.specs.declared.Occupant.TheVariants.{Piece, Window}
use Rattle.plan.proofs.Facts.{facts}
use mathlib.Core.Path.{subst}
use Rattle.stretches.proofs.core_stretch.Goals as goal

pub piece_stretch-requires : goal.piece_stretch-requires
unfolding table_for
piece_stretch-requires c = let a = c.args in let s = a.image.now in let h = subst (Nearest s Piece a.core a.tick) c.in-Ok.is c.nearest.ensures in (c.requires.image_value.0, h.row)

pub window_stretch-requires : goal.window_stretch-requires
unfolding table_for
window_stretch-requires c = let a = c.args in let s = a.image.now in let p = c.requires.image_value in let h = subst (Nearest s Window a.core a.tick) c.in-Ok-nearest.is c.nearest-in-Err.ensures in (p.0, (p.1.0, h.row))

pub returns-in-Ok : goal.returns-in-Ok
returns-in-Ok c = let a = c.args in let s = a.image.now in let h = subst (Nearest s Piece a.core a.tick) c.in-Ok.is c.nearest.ensures in rw c.piece_stretch.ensures (piece_shows s a.core a.tick (facts s c.requires.image_value.0) _ h)

pub returns-in-Ok-nearest : goal.returns-in-Ok-nearest
returns-in-Ok-nearest c = let a = c.args in let s = a.image.now in let g = subst (Nearest s Piece a.core a.tick) c.in-Err.is c.nearest.ensures in let h = subst (Nearest s Window a.core a.tick) c.in-Ok-nearest.is c.nearest-in-Err.ensures in rw c.window_stretch.ensures (window_shows s a.core a.tick _ _ g h)

pub returns-in-Err-nearest : goal.returns-in-Err-nearest
returns-in-Err-nearest c = let a = c.args in let s = a.image.now in let g = subst (Nearest s Piece a.core a.tick) c.in-Err.is c.nearest.ensures in let h = subst (Nearest s Window a.core a.tick) c.in-Err-nearest.is c.nearest-in-Err.ensures in rw (c.idle_stretch.ensures, c.min.ensures) (core_idles s a.core a.tick _ _ g h)
