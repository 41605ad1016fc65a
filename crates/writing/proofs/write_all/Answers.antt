use Prim.Native.Nat.{ℕ, suc, ◌+◌, ◌<◌}
use mathlib.Core.Path.{◌≡◌, refl, ap, ◌∙◌}
use mathlib.Core.List.{List, flat_map}
use native.Mathlib.Omega.{arith}
use lib.ListN.{length}
use Rattle.plan.specs.Dispatch.{lanes, table_of, tables_below}
use Rattle.writing.specs.Stored.{stored}
use Rattle.writing.specs.AllTables.{all_tables}
use Rattle.writing.proofs.Storing.{stored_length}
use Rattle.writing.proofs.AllTables.{below_next, below_inside, stored_next}
use Rattle.writing.proofs.write_all.Goals as goal

pub loop-lane-init : goal.loop-lane-init
unfolding tables_below stored flat_map
loop-lane-init c = ((refl, refl))

pub write_table-count-requires : goal.write_table-count-requires
write_table-count-requires c = let s = c.args.image.now in let b = c.args.bytes.now in let l = c.loop-lane in let t : l.lane < lanes s = omega (arith, c.lane_count-lanes.ensures) in let i = below_inside s l.lane t in record { gathered = (c.requires.0, t); lane_in_bounds = omega (arith, i, l.invariant.0, c.requires.1, ap length l.invariant.1, stored_length b 0 (tables_below s l.lane)) }

pub overflow_add-at-in-loop-lane : goal.overflow_add-at-in-loop-lane
overflow_add-at-in-loop-lane c = let s = c.args.image.now in let b = c.args.bytes.now in let l = c.loop-lane in let t : l.lane < lanes s = omega (arith, c.lane_count-lanes.ensures) in let i = below_inside s l.lane t in let n = c.write_table-count.ensures.0 in omega (arith, n, i, l.invariant.0, c.requires.1, c.well_formed)

pub loop-lane-preserved : goal.loop-lane-preserved
loop-lane-preserved c = let s = c.args.image.now in let b = c.args.bytes.now in let l = c.loop-lane in let t : l.lane < lanes s = omega (arith, c.lane_count-lanes.ensures) in let i = below_inside s l.lane t in let n = c.write_table-count.ensures.0 in let e : l.lane + 1 ≡ suc l.lane = omega arith in (rw e (omega (arith, n, l.invariant.0, below_next s l.lane), c.write_table-count.ensures.1 ∙ ap (λ (v : List ℕ). stored v l.at (table_of s l.lane)) l.invariant.1 ∙ stored_next s b l.lane l.at l.invariant.0))

pub returns : goal.returns
unfolding all_tables
returns c = let a = c.args in let s = a.image.now in let l = c.loop-lane in let e : l.lane ≡ lanes s = omega (arith, c.lane_count-lanes.ensures) in l.invariant.1 ∙ ap (λ (n : ℕ). stored a.bytes.now 0 (tables_below s n)) e
