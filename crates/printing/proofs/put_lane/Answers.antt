use Prim.Native.Nat.{ℕ}
use mathlib.Core.Path.{◌≡◌, ap}
use native.Mathlib.Omega.{arith}
use Rattle.plan.specs.Image.{cycle_ticks}
use Rattle.plan.specs.Dispatch.{entries}
use Rattle.plan.proofs.Sounds.{accepted_sound}
use Rattle.writing.proofs.AllTables.{lanes_small}
use Rattle.texts.specs.Printed.{entry_lines, lane_lines}
use Rattle.printing.proofs.Written.{written_none, written_entry, written_same, few_entries}
use Rattle.lines.proofs.Storing.{put_as, put_length}
use Rattle.printing.proofs.put_lane.Goals as goal

pub cycle_ticks-end-requires : goal.cycle_ticks-end-requires
cycle_ticks-end-requires c = (accepted_sound _ c.requires.gathered.0.passed).inside.trailer

pub start-walk-requires : goal.start-walk-requires
start-walk-requires c = let p = c.requires.gathered in (p.0.passed, (p.0.indexed, p.1))

pub loop-walk-init : goal.loop-walk-init
loop-walk-init c = let a = c.args in let g = c.start-walk.ensures in (g.1, rw g.0 (written_none a.image.now a.lane a.out.now a.at))

pub step-walk-requires : goal.step-walk-requires
step-walk-requires c = (c.requires.gathered.0, (c.loop-walk.invariant.0, omega (arith, c.cycle_ticks-end.ensures, c.loop-walk-test.true)))

pub put_entry-place-requires : goal.put_entry-place-requires
put_entry-place-requires c = let a = c.args in let s = a.image.now in let l = c.loop-walk in omega (arith, l.invariant.1.few, few_entries s c.requires.gathered.0.passed a.lane l.walk.until l.invariant.0.within, lanes_small s c.requires.gathered.0.passed, c.requires.gathered.1, c.requires.at_bound)

pub loop-walk-smaller-then-walk : goal.loop-walk-smaller-then-walk
loop-walk-smaller-then-walk c = let g = c.step-walk.ensures in omega (arith, g.from, g.after, c.loop-walk-test.true)

pub loop-walk-preserved-then-walk : goal.loop-walk-preserved-then-walk
loop-walk-preserved-then-walk c = let a = c.args in let l = c.loop-walk in let g = c.step-walk.ensures in let w = c.put_entry-place.ensures in (g.reached, written_entry a.image.now a.lane a.out.now a.at _ g l.invariant.1 c.if-walk.true w)

pub loop-walk-smaller : goal.loop-walk-smaller
loop-walk-smaller c = let g = c.step-walk.ensures in omega (arith, g.from, g.after, c.loop-walk-test.true)

pub loop-walk-preserved : goal.loop-walk-preserved
loop-walk-preserved c = let a = c.args in let l = c.loop-walk in let g = c.step-walk.ensures in (g.reached, written_same a.image.now a.lane a.out.now a.at _ g l.invariant.1 c.if-walk.false)

pub shape_of-out : goal.shape_of-out
shape_of-out c = let a = c.args in let l = c.loop-walk in put_length a.out.now a.at l.invariant.1

pub returns : goal.returns
unfolding lane_lines
returns c = let a = c.args in let s = a.image.now in let l = c.loop-walk in let e : l.walk.until ≡ cycle_ticks s = omega (arith, l.invariant.0.within, c.cycle_ticks-end.ensures, c.loop-walk-test.false) in put_as a.out.now a.at (ap (λ (n : ℕ). entry_lines a.lane (entries s a.lane n)) e) (omega (arith, few_entries s c.requires.gathered.0.passed a.lane l.walk.until l.invariant.0.within)) l.invariant.1
