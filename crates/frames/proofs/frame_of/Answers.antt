use native.Mathlib.Omega.{arith}
use Rattle.frames.proofs.Reading.{place_inside, frame_read}
use Rattle.frames.proofs.frame_of.Goals as goal

-- src/lib.rt:181:5
pub bounds-index-place : goal.bounds-index-place
bounds-index-place c = let a = c.args in let p = c.requires in let z = p.framed.1.size in omega (arith, place_inside a.image.now p.framed.0 a.stream a.job a.hop p.job_of.0 p.job_of.1 a.index.now p.framed.1 _ c.place_of-place.ensures)

-- src/lib.rt:175:1
pub returns : goal.returns
returns c = let a = c.args in let p = c.requires in frame_read a.image.now p.framed.0 a.stream a.job a.hop p.job_of.0 p.job_of.1 a.index.now p.framed.1 _ c.place_of-place.ensures
