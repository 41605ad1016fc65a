use Rattle.stretches.proofs.Stretches.{frame_sends, link_idles}
use Rattle.cursors.specs.Taken.{Nearest}
use Rattle.places.specs.Places.{table_for}
use Rattle.places.specs.declared.Occupant.TheVariants.{Frame}
use mathlib.Core.Path.{subst}
use Rattle.stretches.proofs.link_stretch.Goals as goal

pub frame_stretch-requires : goal.frame_stretch-requires
unfolding table_for
frame_stretch-requires c = let a = c.args in let s = a.image.now in let h = subst (Nearest s Frame a.link a.tick) c.in-Ok.is c.nearest.ensures in (c.requires.0, h.row)

pub returns-in-Ok : goal.returns-in-Ok
returns-in-Ok c = let a = c.args in let s = a.image.now in let h = subst (Nearest s Frame a.link a.tick) c.in-Ok.is c.nearest.ensures in rw c.frame_stretch.ensures (frame_sends s a.link a.tick _ h)

pub returns-in-Err : goal.returns-in-Err
returns-in-Err c = let a = c.args in let s = a.image.now in let h = subst (Nearest s Frame a.link a.tick) c.in-Err.is c.nearest.ensures in rw c.idle_stretch.ensures (link_idles s a.link a.tick _ h)
