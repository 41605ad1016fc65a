use native.Mathlib.Omega.{arith}
use mathlib.Core.Path.{refl, sym, ap, ◌∙◌}
use Rattle.plan.specs.declared.Frame.{Frame}
use Rattle.plan.proofs.Sounds.{accepted_sound}
use Rattle.opening.proofs.Sending.{past_here, room, spare, walked_send, walked_skip}
use Rattle.opening.proofs.take_in.Goals as goal

-- src/lib.rt:118:8
pub frame_at-requires : goal.frame_at-requires
frame_at-requires c = let p = c.requires in record { in_image = (accepted_sound _ p.image_value.0).inside; row_bound = p.image_value.1 }

-- src/lib.rt:119:9
pub send-requires : goal.send-requires
send-requires c = let a = c.args in let p = c.requires in let s = a.image.now in let f = ap (λ (x : Frame). x.link) c.frame_at.ensures in let q = sym f ∙ c.if-frame_at-link.true in record { image_value = p.image_value; past = (past_here s p.image_value.0 a.link p.walking.lent a.frame a.list.now a.at p.walking.walked p.image_value.1 q, room s p.image_value.0 a.link p.walking.lent a.frame a.list.now a.at p.walking.walked (omega (arith, p.image_value.1)) p.walking.words, spare s p.image_value.0 a.link p.walking.lent a.frame a.list.now a.at p.walking.walked (omega (arith, p.image_value.1))) }

-- src/lib.rt:119:9
pub returns-then-frame_at-link : goal.returns-then-frame_at-link
returns-then-frame_at-link c = let a = c.args in let p = c.requires in let s = a.image.now in let f = ap (λ (x : Frame). x.link) c.frame_at.ensures in let q = sym f ∙ c.if-frame_at-link.true in let g = c.send.ensures in record { walked = λ lent words w. walked_send s p.image_value.0 a.link lent a.frame a.list.now a.at w p.image_value.1 q c.send.new.list c.send.result g; long = g.long }

-- src/lib.rt:113:1
pub returns : goal.returns
returns c = let a = c.args in let p = c.requires in let s = a.image.now in let f = ap (λ (x : Frame). x.link) c.frame_at.ensures in record { walked = λ lent words w. walked_skip s p.image_value.0 a.link lent a.frame a.list.now a.at w (λ q. c.if-frame_at-link.false (f ∙ q)); long = refl }
