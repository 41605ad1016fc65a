use mathlib.Core.Path.{refl}
use Rattle.plan.specs.declared.Table.TheVariants.{Buffers}
use Rattle.plan.specs.Questions.{hold}
use Rattle.buffers.specs.Holds.{hold_of}
use Rattle.buffers.proofs.Rising.{same_jobs}
use Rattle.buffers.proofs.hold_of.Goals as goal

pub first_start-requires : goal.first_start-requires
first_start-requires c = let p = c.requires in rw c.buffer_at-b.ensures (p.sound.1, ((p.sound.0.names Buffers c.args.row p.row_bound.0).0, p.row_bound.1.1))

pub last_end-requires : goal.last_end-requires
last_end-requires c = let p = c.requires in rw c.buffer_at-b.ensures (p.sound.1, ((p.sound.0.names Buffers c.args.row p.row_bound.0).1, (rw (same_jobs c.args.image.now p.row_bound.1.0 c.args.row p.row_bound.0) p.row_bound.1.1)))

pub returns : goal.returns
unfolding hold_of hold
returns c = rw (c.first_start.ensures, c.last_end.ensures, c.buffer_at-b.ensures) refl
