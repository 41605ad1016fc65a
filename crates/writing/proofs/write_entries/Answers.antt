use Prim.Native.Nat.{ℕ}
use mathlib.Core.Path.{◌≡◌, ap, ◌∙◌}
use native.Mathlib.Omega.{arith}
use Rattle.plan.specs.Image.{cycle_ticks}
use Rattle.plan.specs.Dispatch.{begins, entries, entry_count}
use Rattle.plan.proofs.Searching.{count_most}
use Rattle.lanes.proofs.Accepted.{cycle_small}
use Rattle.plan.proofs.Sounds.{accepted_sound}
use Rattle.writing.specs.Stored.{stored}
use Rattle.writing.proofs.Storing.{written_none, written_entry, written_same, written_length, room}
use Rattle.writing.proofs.write_entries.Goals as goal

pub cycle_ticks-end-requires : goal.cycle_ticks-end-requires
cycle_ticks-end-requires c = (accepted_sound _ c.requires.gathered.0.passed).inside.trailer

pub start-walk-requires : goal.start-walk-requires
start-walk-requires c = let p = c.requires.gathered in (p.0.passed, (p.0.indexed, p.1))

pub loop-walk-init : goal.loop-walk-init
loop-walk-init c = let a = c.args in let s = a.image.now in let g = c.start-walk.ensures in (g.1, rw g.0 (written_none s a.lane a.bytes.now a.at))

pub step-walk-requires : goal.step-walk-requires
step-walk-requires c = (c.requires.gathered.0, (c.loop-walk.invariant.0, omega (arith, c.cycle_ticks-end.ensures, c.loop-walk-test.true)))

pub overflow_cast-count : goal.overflow_cast-count
overflow_cast-count c = let a = c.args in let s = a.image.now in let l = c.loop-walk in let r = room s a.lane a.bytes.now a.at _ c.step-walk.ensures l.invariant.1 c.if-walk.true in omega (arith, r, c.requires.lane_in_bounds, c.well_formed)

pub overflow_mul-count : goal.overflow_mul-count
overflow_mul-count c = let a = c.args in let s = a.image.now in let l = c.loop-walk in let r = room s a.lane a.bytes.now a.at _ c.step-walk.ensures l.invariant.1 c.if-walk.true in omega (arith, r, c.requires.lane_in_bounds, c.well_formed)

pub overflow_add-at : goal.overflow_add-at
overflow_add-at c = let a = c.args in let s = a.image.now in let l = c.loop-walk in let r = room s a.lane a.bytes.now a.at _ c.step-walk.ensures l.invariant.1 c.if-walk.true in omega (arith, r, c.requires.lane_in_bounds, c.well_formed)

pub put_entry-requires : goal.put_entry-requires
put_entry-requires c = let a = c.args in let s = a.image.now in let l = c.loop-walk in let r = room s a.lane a.bytes.now a.at _ c.step-walk.ensures l.invariant.1 c.if-walk.true in omega (arith, r, c.requires.lane_in_bounds, written_length s a.lane a.bytes.now a.at l.invariant.1)

pub overflow_add-count : goal.overflow_add-count
unfolding entry_count
overflow_add-count c = let a = c.args in let s = a.image.now in let l = c.loop-walk in let r = room s a.lane a.bytes.now a.at _ c.step-walk.ensures l.invariant.1 c.if-walk.true in omega (arith, r, cycle_small s c.requires.gathered.0.passed, count_most (begins s a.lane) (cycle_ticks s))

pub loop-walk-smaller-then-walk : goal.loop-walk-smaller-then-walk
loop-walk-smaller-then-walk c = let g = c.step-walk.ensures in omega (arith, g.from, g.after, c.loop-walk-test.true)

pub loop-walk-preserved-then-walk : goal.loop-walk-preserved-then-walk
loop-walk-preserved-then-walk c = let a = c.args in let s = a.image.now in let l = c.loop-walk in let g = c.step-walk.ensures in (g.reached, rw c.put_entry.ensures (written_entry s a.lane a.bytes.now a.at _ g l.invariant.1 c.if-walk.true))

pub loop-walk-smaller : goal.loop-walk-smaller
loop-walk-smaller c = let g = c.step-walk.ensures in omega (arith, g.from, g.after, c.loop-walk-test.true)

pub loop-walk-preserved : goal.loop-walk-preserved
loop-walk-preserved c = let a = c.args in let s = a.image.now in let l = c.loop-walk in let g = c.step-walk.ensures in (g.reached, written_same s a.lane a.bytes.now a.at _ g l.invariant.1 c.if-walk.false)

pub shape_of-bytes : goal.shape_of-bytes
shape_of-bytes c = let a = c.args in let l = c.loop-walk in written_length a.image.now a.lane a.bytes.now a.at l.invariant.1

pub returns : goal.returns
unfolding entry_count
returns c = let a = c.args in let s = a.image.now in let l = c.loop-walk in let e : l.walk.until ≡ cycle_ticks s = omega (arith, l.invariant.0.within, c.cycle_ticks-end.ensures, c.loop-walk-test.false) in (l.invariant.1.counted ∙ ap (λ (n : ℕ). Rattle.plan.specs.Search.count n (begins s a.lane)) e, l.invariant.1.holds ∙ ap (λ (n : ℕ). stored a.bytes.now a.at (entries s a.lane n)) e)
