use Prim.Native.Nat.{◌+◌, ◌-◌}
use mathlib.Core.Path.{◌≡◌}
use native.Mathlib.Omega.{arith}
use Rattle.plan.specs.Boundary.{words_of}
use Rattle.turns.proofs.Turning.{turned_none, here_fits, turned_part, moved_all}
use Rattle.turns.proofs.move_all_there.Goals as goal

pub loop-i-init : goal.loop-i-init
loop-i-init c = turned_none (words_of c.args.words.now) c.args.states.now c.args.first c.requires.1

pub slice_bounds-move_there-count : goal.slice_bounds-move_there-count
slice_bounds-move_there-count c = omega arith

pub slice_bounds-move_there-start : goal.slice_bounds-move_there-start
slice_bounds-move_there-start c = omega arith

pub slice_bounds-move_there-end : goal.slice_bounds-move_there-end
slice_bounds-move_there-end c = let l = c.loop-i in let a = c.args in let z = l.invariant.wrote.size in omega (arith, c.requires.0, l.invariant.whole)

pub move_there-requires : goal.move_there-requires
move_there-requires c = let l = c.loop-i in let a = c.args in let z = l.invariant.wrote.size in let k : l.i + 28 - l.i ≡ 28 = omega arith in rw k (here_fits (words_of a.words.now) a.states.now a.first l.i l.at l.states l.invariant (omega (arith, c.requires.0, l.invariant.whole)))

pub table_after-at-requires : goal.table_after-at-requires
table_after-at-requires c = tt

pub loop-i-preserved : goal.loop-i-preserved
loop-i-preserved c = let l = c.loop-i in let a = c.args in let z = l.invariant.wrote.size in rw c.table_after-at.ensures (turned_part (words_of a.words.now) a.states.now a.first l.i l.at l.states l.invariant (l.i + 28 - l.i) c.move_there.new.bytes (omega arith) c.move_there.ensures (omega (arith, c.requires.0, l.invariant.whole)))

pub shape_of-states : goal.shape_of-states
shape_of-states c = c.loop-i.invariant.wrote.size

pub returns : goal.returns
returns c = let l = c.loop-i in let a = c.args in moved_all (words_of a.words.now) a.states.now a.first l.i l.at l.states l.invariant c.requires.1 (let z = l.invariant.wrote.size in omega arith)

-- the last record ends the loop
pub returns-2 : goal.returns-2
returns-2 c = let l = c.loop-i in let a = c.args in let z = l.invariant.wrote.size in let w = words_of a.words.now in let m = turned_part w a.states.now a.first l.i l.at l.states l.invariant (l.i + 28 - l.i) c.move_there.new.bytes (omega arith) c.move_there.ensures (omega (arith, c.requires.0, l.invariant.whole)) in moved_all w a.states.now a.first (l.i + 28) _ _ m c.requires.1 (omega arith)
