use mathlib.Core.Path.{refl}
use native.Mathlib.Omega.{arith}
use Rattle.stretches.specs.Stretches.{frame_stretch}
use Rattle.stretches.proofs.Small.{frame_small}
use Rattle.plan.proofs.Sounds.{accepted_sound}
use Rattle.stretches.proofs.frame_stretch.Goals as goal

pub frame_end-requires : goal.frame_end-requires
frame_end-requires c = let p = c.requires in (accepted_sound _ p.0, p.1)

pub overflow_cast-result : goal.overflow_cast-result
overflow_cast-result c = let p = c.requires in let a = c.args in omega (arith, c.frame_end.ensures, frame_small a.image.now p.0 a.frame p.1)

pub returns : goal.returns
unfolding frame_stretch
returns c = rw c.frame_end.ensures refl
