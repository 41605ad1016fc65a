use Rattle.plan.proofs.Sounds.{accepted_sound}
use Rattle.stretches.proofs.core_view.Goals as goal

pub move_on-piece-requires : goal.move_on-piece-requires
move_on-piece-requires c = let p = c.requires in (accepted_sound _ p.gathered.0.passed, (p.gathered.0.indexed, p.cursor.0))

pub move_on-window-requires : goal.move_on-window-requires
move_on-window-requires c = let p = c.requires in (accepted_sound _ p.gathered.0.passed, (p.gathered.0.indexed, p.cursor.1))
