use Rattle.plan.proofs.Sounds.{accepted_sound}
use Rattle.stretches.proofs.link_view.Goals as goal

pub move_on-frame-requires : goal.move_on-frame-requires
move_on-frame-requires c = let p = c.requires in (accepted_sound _ p.image_value.0, (p.image_value.1.0, p.cursor))
