use mathlib.Core.Path.{refl}
use Rattle.plan.specs.declared.Table.TheVariants.{Pieces}
use Rattle.plan.specs.Questions.{inside}
use Rattle.inside.proofs.lies_inside.Goals as goal

-- src/lib.rt:31:25
pub task_at-requires : goal.task_at-requires
task_at-requires c = let p = c.requires in record { in_image = p.sound.0.inside; row_bound = rw c.piece_at-p.ensures (p.sound.0.names Pieces c.args.piece p.sound.1.0) }

-- src/lib.rt:33:16
pub piece_end-requires : goal.piece_end-requires
piece_end-requires c = let p = c.requires in (p.sound.0, p.sound.1.0)

-- src/lib.rt:33:43
pub window_end-requires : goal.window_end-requires
window_end-requires c = let p = c.requires in (p.sound.0, p.sound.1.1)

-- src/lib.rt:24:1
pub returns : goal.returns
unfolding inside
returns c = rw (c.window_end.ensures, c.piece_end.ensures, c.charge_at.ensures, c.task_at.ensures, c.window_at-w.ensures, c.piece_at-p.ensures) refl
