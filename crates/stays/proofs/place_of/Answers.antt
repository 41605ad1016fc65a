use mathlib.Core.Path.{refl, ap}
use native.Mathlib.Omega.{arith}
use Rattle.plan.specs.declared.Frame.{Frame}
use Rattle.plan.specs.declared.Table.TheVariants.{Links, Frames}
use Rattle.plan.specs.Image.{shape}
use Rattle.plan.specs.Questions.{queue_of}
use Rattle.stays.specs.Queues.{queue_place}
use Rattle.stays.proofs.place_of.Goals as goal

-- src/lib.rt:33:5
pub overflow_mul-result : goal.overflow_mul-result
unfolding shape
overflow_mul-result c = let a = c.args in let p = c.requires in let n = p.0.inside.counts Links in let e = ap (λ (x : Frame). x.link) c.frame_at.ensures in omega (arith, (p.0.names Frames a.frame p.1.1).1)

-- src/lib.rt:33:5
pub overflow_add-result : goal.overflow_add-result
unfolding shape queue_of
overflow_add-result c = let a = c.args in let p = c.requires in let n = p.0.inside.counts Links in let e = ap (λ (x : Frame). x.link) c.frame_at.ensures in let q = c.queue_of.ensures in omega (arith, (p.0.names Frames a.frame p.1.1).1, p.1.0 _ (p.0.names Frames a.frame p.1.1).0)

-- src/lib.rt:29:1
pub returns : goal.returns
unfolding queue_place
returns c = rw (c.queue_of.ensures, c.frame_at.ensures) refl
