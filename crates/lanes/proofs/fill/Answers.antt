use mathlib.Core.Path.{◌∙◌}
use native.Mathlib.Omega.{arith}
use lib.ListN.{length-set}
use Rattle.plan.proofs.Sounds.{accepted_sound}
use Rattle.lanes.proofs.Building.{build_short, filled}
use Rattle.lanes.proofs.fill.Goals as goal

pub returns-then-words-count : goal.returns-then-words-count
returns-then-words-count c = let a = c.args in let p = c.requires in build_short a.image.now a.lane a.words.now p.0.passed p.1 (omega (arith, c.count_entries-count.ensures, c.if-words-count.true))

pub cycle_ticks-requires : goal.cycle_ticks-requires
cycle_ticks-requires c = (accepted_sound _ c.requires.0.passed).inside.trailer

pub bounds-words-1 : goal.bounds-words-1
bounds-words-1 c = simp length-set (omega (arith, c.if-words-count.false))

pub write_entries-requires : goal.write_entries-requires
write_entries-requires c = record { gathered = c.requires; lane_in_bounds = simp length-set (omega (arith, c.count_entries-count.ensures, c.if-words-count.false)) }

pub shape_of-words : goal.shape_of-words
shape_of-words c = c.write_entries.auto.words ∙ simp length-set

pub returns : goal.returns
returns c = let a = c.args in let p = c.requires in filled a.image.now a.lane a.words.now p.0.passed p.1 _ _ _ _ c.cycle_ticks.ensures c.count_entries-count.ensures c.if-words-count.false c.write_entries.ensures c.accepted.ensures
