use native.Mathlib.Omega.{arith}
use Rattle.plan.specs.Questions.{queue_of}
use Rattle.plan.proofs.Sounds.{accepted_sound}
use Rattle.opening.proofs.Octets.{queue_most, octet_fits}
use Rattle.opening.proofs.octet_of.Goals as goal

-- src/lib.rt:48:10
pub queue_of-requires : goal.queue_of-requires
queue_of-requires c = let p = c.requires in (accepted_sound _ p.0, p.1)

-- src/lib.rt:48:5
pub overflow_shl-result : goal.overflow_shl-result
overflow_shl-result c = let a = c.args in let p = c.requires in let e = c.queue_of.ensures in omega (arith, queue_most a.image.now p.0 a.frame p.1)

-- src/lib.rt:44:1
pub returns : goal.returns
returns c = let a = c.args in let p = c.requires in rw c.queue_of.ensures (octet_fits (queue_of a.image.now a.frame) (queue_most a.image.now p.0 a.frame p.1))
