use mathlib.Core.Path.{refl}
use Rattle.modes.specs.Modes.{held_of}
use Rattle.plan.proofs.Sounds.{accepted_sound}
use Rattle.modeblock.proofs.held_of.Goals as goal

pub cycle_ticks-requires : goal.cycle_ticks-requires
cycle_ticks-requires c = (accepted_sound c.args.image.now c.requires.0).inside.trailer

pub rows_of-requires : goal.rows_of-requires
rows_of-requires c = (accepted_sound c.args.image.now c.requires.0).inside.trailer

pub rows_of-requires-2 : goal.rows_of-requires-2
rows_of-requires-2 c = (accepted_sound c.args.image.now c.requires.0).inside.trailer

pub returns : goal.returns
unfolding held_of
returns c = rw (c.rows_of-2.ensures, c.rows_of.ensures, c.cycle_ticks.ensures, c.requires.1) refl
