use Prim.Native.Nat.{ℕ, suc, ◌+◌, ◌<◌}
use mathlib.Core.Path.{◌≡◌, refl, ap, ◌∙◌}
use native.Mathlib.Omega.{arith}
use lib.ListN.{length}
use Rattle.plan.specs.Dispatch.{lanes, tables_below}
use Rattle.writing.specs.AllTables.{all_tables}
use Rattle.writing.proofs.AllTables.{below_next, below_small, count_small, lanes_small}
use Rattle.writing.proofs.words_of_all.Goals as goal

pub loop-lane-init : goal.loop-lane-init
unfolding tables_below
loop-lane-init c = (refl)

pub overflow_add-words-in-loop-lane : goal.overflow_add-words-in-loop-lane
overflow_add-words-in-loop-lane c = let s = c.args.image.now in let p = c.requires.passed in let l = c.loop-lane in let t : l.lane < lanes s = omega (arith, c.lane_count-lanes.ensures) in let n = c.count_entries.ensures in omega (arith, n, count_small s p l.lane, l.invariant, below_small s p l.lane, lanes_small s p)

pub loop-lane-preserved : goal.loop-lane-preserved
loop-lane-preserved c = let s = c.args.image.now in let p = c.requires.passed in let l = c.loop-lane in let t : l.lane < lanes s = omega (arith, c.lane_count-lanes.ensures) in let n = c.count_entries.ensures in let e : l.lane + 1 ≡ suc l.lane = omega arith in (rw e (omega (arith, n, l.invariant, below_next s l.lane)))

pub returns : goal.returns
unfolding all_tables
returns c = let s = c.args.image.now in let l = c.loop-lane in let e : l.lane ≡ lanes s = omega (arith, c.lane_count-lanes.ensures) in l.invariant ∙ ap (λ (n : ℕ). length (tables_below s n)) e
