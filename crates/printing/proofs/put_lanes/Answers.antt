use Prim.Native.Nat.{suc, ◌+◌, ◌<◌}
use mathlib.Core.Path.{◌≡◌, ap}
use native.Mathlib.Omega.{arith}
use Rattle.plan.specs.Dispatch.{lanes}
use Rattle.writing.proofs.AllTables.{lanes_small}
use Rattle.texts.specs.Printed.{lines_below}
use Rattle.printing.proofs.Written.{below_none, below_next}
use Rattle.lines.proofs.Storing.{put_as}
use Rattle.printing.proofs.put_lanes.Goals as goal

pub loop-lane-init : goal.loop-lane-init
loop-lane-init c = let a = c.args in (below_none a.image.now a.out.now a.at)

pub loop-lane-preserved : goal.loop-lane-preserved
loop-lane-preserved c = let a = c.args in let s = a.image.now in let l = c.loop-lane in let t : l.lane < lanes s = omega (arith, c.lane_count-count.ensures) in let w = c.put_lane-place.ensures in let e : l.lane + 1 ≡ suc l.lane = omega arith in (rw e (below_next a.image.now a.out.now a.at l.lane l.invariant w))

pub returns : goal.returns
returns c = let a = c.args in let s = a.image.now in let l = c.loop-lane in let e : l.lane ≡ lanes s = omega (arith, c.lane_count-count.ensures) in put_as a.out.now a.at (ap (lines_below s) e) (omega (arith, lanes_small s c.requires.0.passed)) l.invariant
