use native.Mathlib.Omega.{arith}
use Rattle.frames.proofs.Placing.{HopOf}
use Rattle.frames.proofs.Reading.{has_one_kept, has_one_past}
use Rattle.frames.proofs.has_one.Goals as goal

-- src/lib.rt:111:1
pub returns-then-place-lt-PLACES : goal.returns-then-place-lt-PLACES
returns-then-place-lt-PLACES c = let a = c.args in let p = c.requires in let s = a.image.now in let h : HopOf s a.stream a.job a.hop = record { job = p.job_of.0.job; hop = p.job_of.1 } in has_one_kept s 2 p.sound.1.0 (omega arith) a.stream a.job a.hop h a.index.now p.sound.1.1 _ c.place_of-place.ensures c.if-place-lt-PLACES.true

-- src/lib.rt:111:1
pub returns-else-place-lt-PLACES : goal.returns-else-place-lt-PLACES
returns-else-place-lt-PLACES c = let a = c.args in let p = c.requires in let s = a.image.now in let h : HopOf s a.stream a.job a.hop = record { job = p.job_of.0.job; hop = p.job_of.1 } in has_one_past s 2 p.sound.1.0 (omega arith) a.stream a.job a.hop h a.index.now p.sound.1.1 _ c.place_of-place.ensures (λ l. absurd (omega (arith, c.if-place-lt-PLACES.false)))
