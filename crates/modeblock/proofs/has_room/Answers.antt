use native.Mathlib.Omega.{arith}
use Rattle.modes.specs.Modes.{lane_count}
use Rattle.words.proofs.Words.{words_length}
use mathlib.Core.Path.{refl}
use Rattle.modeblock.specs.Blocks.{has_row, has_room}
use Rattle.modeblock.proofs.has_room.Goals as goal

pub overflow_mul-row : goal.overflow_mul-row
unfolding lane_count
overflow_mul-row c = omega (arith, c.lane_count.ensures)

pub returns : goal.returns
unfolding has_row has_room
returns c = let a = c.args in rw (c.lane_count.ensures, words_length a.words.now) refl
