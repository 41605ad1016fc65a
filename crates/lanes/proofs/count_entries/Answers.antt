use Prim.Native.Nat.{ℕ}
use mathlib.Core.Path.{◌≡◌, sym, ap, ◌∙◌}
use native.Mathlib.Omega.{arith}
use Rattle.plan.specs.Image.{cycle_ticks}
use Rattle.plan.specs.Dispatch.{begins, entry_count}
use Rattle.plan.proofs.Searching.{count_most}
use Rattle.plan.proofs.Tests.{no_count}
use Rattle.lanes.proofs.Accepted.{cycle_small}
use Rattle.plan.proofs.Sounds.{accepted_sound}
use Rattle.lanes.proofs.Walking.{count_yes, count_no}
use Rattle.lanes.proofs.count_entries.Goals as goal

pub cycle_ticks-ticks-requires : goal.cycle_ticks-ticks-requires
cycle_ticks-ticks-requires c = (accepted_sound _ c.requires.0.passed).inside.trailer

pub start-walk-requires : goal.start-walk-requires
start-walk-requires c = let p = c.requires in (p.0.passed, (p.0.indexed, p.1))

pub loop-walk-init : goal.loop-walk-init
loop-walk-init c = let a = c.args in let g = c.start-walk.ensures in (g.1, rw g.0 (sym (no_count (begins a.image.now a.lane))))

pub step-walk-requires : goal.step-walk-requires
step-walk-requires c = (c.requires.0, (c.loop-walk.invariant.0, omega (arith, c.cycle_ticks-ticks.ensures, c.loop-walk-test.true)))

pub overflow_add-count : goal.overflow_add-count
overflow_add-count c = let a = c.args in let l = c.loop-walk in omega (arith, l.invariant.1, l.invariant.0.within, cycle_small _ c.requires.0.passed, count_most (begins a.image.now a.lane) l.walk.until)

pub loop-walk-smaller-then-walk : goal.loop-walk-smaller-then-walk
loop-walk-smaller-then-walk c = let g = c.step-walk.ensures in omega (arith, g.from, g.after, c.loop-walk-test.true)

pub loop-walk-preserved-then-walk : goal.loop-walk-preserved-then-walk
loop-walk-preserved-then-walk c = let a = c.args in let g = c.step-walk.ensures in (g.reached, omega (arith, c.loop-walk.invariant.1, count_yes a.image.now a.lane _ g c.if-walk.true))

pub loop-walk-smaller : goal.loop-walk-smaller
loop-walk-smaller c = let g = c.step-walk.ensures in omega (arith, g.from, g.after, c.loop-walk-test.true)

pub loop-walk-preserved : goal.loop-walk-preserved
loop-walk-preserved c = let a = c.args in let g = c.step-walk.ensures in (g.reached, c.loop-walk.invariant.1 ∙ sym (count_no a.image.now a.lane _ g c.if-walk.false))

pub returns : goal.returns
unfolding entry_count
returns c = let a = c.args in let s = a.image.now in let l = c.loop-walk in let e : l.walk.until ≡ cycle_ticks s = omega (arith, l.invariant.0.within, c.cycle_ticks-ticks.ensures, c.loop-walk-test.false) in l.invariant.1 ∙ ap (λ (n : ℕ). Rattle.plan.specs.Search.count n (begins s a.lane)) e
