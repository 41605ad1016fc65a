use Rattle.plan.proofs.Sounds.{accepted_sound}
use Rattle.lanes.proofs.gather.Goals as goal

pub gather-requires : goal.gather-requires
gather-requires c = let p = c.requires in (accepted_sound _ p.0, p.1.0)

pub gather-requires-2 : goal.gather-requires-2
gather-requires-2 c = let p = c.requires in (accepted_sound _ p.0, p.1.1)
