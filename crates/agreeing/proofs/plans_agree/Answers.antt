use mathlib.Core.Path.{refl}
use Rattle.joins.specs.Joins.{plans_agree}
use Rattle.pairs.proofs.Rows.{inside}
use Rattle.agreeing.proofs.plans_agree.Goals as goal

pub cycle_ticks-requires : goal.cycle_ticks-requires
cycle_ticks-requires c = (inside _ c.requires.first).trailer

pub cycle_ticks-requires-2 : goal.cycle_ticks-requires-2
cycle_ticks-requires-2 c = (inside _ c.requires.second).trailer

pub precision_ticks-requires : goal.precision_ticks-requires
precision_ticks-requires c = (inside _ c.requires.first).trailer

pub precision_ticks-requires-2 : goal.precision_ticks-requires-2
precision_ticks-requires-2 c = (inside _ c.requires.second).trailer

pub returns : goal.returns
unfolding plans_agree
returns c = rw (c.table_agrees-links.ensures, c.table_agrees-windows.ensures, c.table_agrees-vcpus.ensures, c.table_agrees-cores.ensures, c.precision_ticks-2.ensures, c.precision_ticks.ensures, c.cycle_ticks-2.ensures, c.cycle_ticks.ensures) refl
