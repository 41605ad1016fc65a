use Prim.Native.Nat.{◌+◌, ◌-◌}
use mathlib.Core.Path.{◌≡◌}
use native.Mathlib.Omega.{arith}
use Rattle.records.proofs.Records.{moved_none, here_fits, moved_part, moved_all}
use Rattle.records.proofs.move_all.Goals as goal

pub loop-i-init : goal.loop-i-init
loop-i-init c = moved_none c.args.words.now c.args.states.now c.requires

pub slice_bounds-move_record-end : goal.slice_bounds-move_record-end
slice_bounds-move_record-end c = let l = c.loop-i in omega (arith, l.invariant.wrote.size, (here_fits c.args.words.now c.args.states.now l.i l.states l.invariant c.loop-i-test.true).0)

pub move_record-requires : goal.move_record-requires
move_record-requires c = let l = c.loop-i in let k : l.i + 28 - l.i ≡ 28 = omega arith in let h = here_fits c.args.words.now c.args.states.now l.i l.states l.invariant c.loop-i-test.true in rw k (h.1, h.2)

pub loop-i-preserved : goal.loop-i-preserved
loop-i-preserved c = let l = c.loop-i in moved_part c.args.words.now c.args.states.now l.i l.states l.invariant (l.i + 28 - l.i) c.move_record.new.bytes (omega arith) c.move_record.ensures c.loop-i-test.true

pub returns : goal.returns
returns c = let l = c.loop-i in moved_all c.args.words.now c.args.states.now l.i l.states l.invariant c.requires c.loop-i-test.false

pub returns-2 : goal.returns-2
returns-2 c =
    let l = c.loop-i in
    let w = c.args.words.now in
    let s = c.args.states.now in
    let m = moved_part w s l.i l.states l.invariant (l.i + 28 - l.i) c.move_record.new.bytes (omega arith) c.move_record.ensures c.loop-i-test.true in
    moved_all w s (l.i + 28) _ m c.requires (omega arith)
