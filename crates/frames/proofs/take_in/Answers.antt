use Prim.Native.Nat.{min}
use mathlib.Core.Path.{◌≡◌, ap, ◌∙◌}
use native.Mathlib.Omega.{arith}
use Rattle.plan.specs.declared.Frame.{Frame}
use Rattle.plan.specs.declared.Table.TheVariants.{Frames}
use Rattle.frames.specs.Index.{place, frame_place}
use Rattle.frames.proofs.Gathering.{few_there, taken_in, taken_past, capped_is, capped_past}
use Rattle.plan.specs.Image.{most_frames}
use Rattle.frames.proofs.take_in.Goals as goal

-- src/lib.rt:82:17
pub place_of-place-requires : goal.place_of-place-requires
place_of-place-requires c = let a = c.args in let p = c.requires in record { sound = (p.sound.0, rw c.frame_at-f.ensures (p.sound.0.names Frames a.frame p.sound.1).0); kept = p.taken.starts }

-- src/lib.rt:84:9
pub take_at-requires : goal.take_at-requires
take_at-requires c = let a = c.args in let p = c.requires in let s = a.image.now in (p.taken.size, (c.if-place-lt-PLACES.true, few_there s a.index.now a.frame p.sound.0 p.taken _ p.sound.1 c.if-place-lt-PLACES.true))

-- src/lib.rt:76:1
pub returns-then-place-lt-PLACES : goal.returns-then-place-lt-PLACES
unfolding frame_place
returns-then-place-lt-PLACES c = let a = c.args in let p = c.requires in let s = a.image.now in let q : c.place_of-place.result ≡ min most_frames (frame_place s a.frame) = c.place_of-place.ensures ∙ ap (λ (x : Frame). min most_frames (place s x.stream x.job x.hop)) c.frame_at-f.ensures in let t = c.if-place-lt-PLACES.true in let e = capped_is _ _ q t in rw (c.take_at.ensures, e) (taken_in s a.index.now a.frame p.sound.0 p.taken (rw (← e) t))

-- src/lib.rt:76:1
pub returns-else-place-lt-PLACES : goal.returns-else-place-lt-PLACES
unfolding frame_place
returns-else-place-lt-PLACES c = let a = c.args in let p = c.requires in let s = a.image.now in let q : c.place_of-place.result ≡ min most_frames (frame_place s a.frame) = c.place_of-place.ensures ∙ ap (λ (x : Frame). min most_frames (place s x.stream x.job x.hop)) c.frame_at-f.ensures in taken_past s a.index.now a.frame p.sound.0 p.taken (capped_past _ _ q (λ l. absurd (omega (arith, c.if-place-lt-PLACES.false))))
