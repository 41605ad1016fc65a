use Prim.Native.Nat.{ℕ}
use mathlib.Core.Path.{ap, subst}
use native.Mathlib.Omega.{arith}
use Rattle.plan.specs.declared.Frame.{Frame}
use Rattle.plan.proofs.Sounds.{accepted_sound}
use Rattle.opening.specs.Listings.{GoneOn}
use Rattle.opening.proofs.Sending.{starts_later, ends_within, room_idle, ends_later, sent}
use Rattle.opening.proofs.send.Goals as goal

-- src/lib.rt:103:34
pub frame_at-requires : goal.frame_at-requires
frame_at-requires c = let p = c.requires in record { in_image = (accepted_sound _ p.image_value.0).inside; row_bound = p.image_value.1 }

-- src/lib.rt:103:9
pub idle_to-idle-requires : goal.idle_to-idle-requires
idle_to-idle-requires c = let a = c.args in let p = c.requires in let s = a.image.now in let f = ap (λ (x : Frame). x.start) c.frame_at.ensures in (p.past.1, omega (arith, starts_later s p.image_value.0 a.frame p.image_value.1 a.list.now a.at p.past.0 p.past.1 p.past.2))

-- src/lib.rt:108:9
pub frame_end-requires : goal.frame_end-requires
frame_end-requires c = let p = c.requires in (accepted_sound _ p.image_value.0, p.image_value.1)

-- src/lib.rt:108:9
pub overflow_cast-frame_end : goal.overflow_cast-frame_end
overflow_cast-frame_end c = let a = c.args in let p = c.requires in let s = a.image.now in let f = ap (λ (x : Frame). x.start) c.frame_at.ensures in let g = c.frame_end.ensures in let h = (accepted_sound s p.image_value.0).cycle_most in omega (arith, ends_within s p.image_value.0 a.frame p.image_value.1 a.list.now a.at p.past.0 p.past.1 p.past.2)

-- src/lib.rt:104:5
pub go_on-requires : goal.go_on-requires
go_on-requires c = let a = c.args in let p = c.requires in let s = a.image.now in let f = ap (λ (x : Frame). x.start) c.frame_at.ensures in let i = subst (λ (t : ℕ). GoneOn a.list.now a.at 0 t c.idle_to-idle.new.list c.idle_to-idle.result) f c.idle_to-idle.ensures in (room_idle s p.image_value.0 a.frame p.image_value.1 a.list.now a.at p.past.0 p.past.1 p.past.2 c.idle_to-idle.new.list c.idle_to-idle.result i, rw c.frame_end.ensures (ends_later s p.image_value.0 a.frame p.image_value.1 a.list.now a.at p.past.0 p.past.1 p.past.2 c.idle_to-idle.new.list c.idle_to-idle.result i))

-- src/lib.rt:98:1
pub returns : goal.returns
returns c = let a = c.args in let p = c.requires in let s = a.image.now in let f = ap (λ (x : Frame). x.start) c.frame_at.ensures in let i = subst (λ (t : ℕ). GoneOn a.list.now a.at 0 t c.idle_to-idle.new.list c.idle_to-idle.result) f c.idle_to-idle.ensures in sent s p.image_value.0 a.frame p.image_value.1 a.list.now a.at p.past.0 p.past.1 p.past.2 c.idle_to-idle.new.list c.idle_to-idle.result i c.go_on.new.list c.go_on.result (rw (← c.octet_of.ensures, ← c.frame_end.ensures) c.go_on.ensures)
