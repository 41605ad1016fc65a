use Prim.Native.Nat.{◌+◌, ◌-◌, ◌≤◌}
use mathlib.Core.Path.{refl, ap, ◌∙◌}
use native.Mathlib.Omega.{arith}
use lib.ListN.{length}
use Rattle.plan.specs.Dispatch.{start_state}
use Rattle.plan.specs.Boundary.{words_of, state_bytes}
use Rattle.modes.specs.Modes.{table_after}
use Rattle.states.proofs.Bytes.{state_length}
use Rattle.records.proofs.Rows.{wrote_none, wrote_part, wrote_all}
use Rattle.turns.proofs.Turning.{starts, started_all}
use Rattle.turns.proofs.start_all.Goals as goal

pub loop-i-init : goal.loop-i-init
loop-i-init c = (refl, wrote_none (starts c.args.cycle) (table_after (words_of c.args.words.now)) c.args.states.now c.args.first)

pub slice_bounds-put_state-count : goal.slice_bounds-put_state-count
slice_bounds-put_state-count c = omega arith

pub slice_bounds-put_state-start : goal.slice_bounds-put_state-start
slice_bounds-put_state-start c = omega arith

pub slice_bounds-put_state-end : goal.slice_bounds-put_state-end
slice_bounds-put_state-end c = let l = c.loop-i in let a = c.args in let z = l.invariant.1.size in omega (arith, c.requires, l.invariant.0)

pub start-requires : goal.start-requires
start-requires c = tt

pub put_state-requires : goal.put_state-requires
put_state-requires c = let l = c.loop-i in let a = c.args in let z = l.invariant.1.size in omega (arith, c.requires, l.invariant.0)

pub table_after-at-requires : goal.table_after-at-requires
table_after-at-requires c = tt

pub loop-i-preserved : goal.loop-i-preserved
loop-i-preserved c = let l = c.loop-i in let a = c.args in let z = l.invariant.1.size in let h : l.i + 28 ≤ length a.states.now = omega (arith, c.requires, l.invariant.0) in let e = c.put_state.ensures ∙ ap state_bytes c.start.ensures in (omega (arith, l.invariant.0), rw c.table_after-at.ensures (wrote_part (starts a.cycle) (table_after (words_of a.words.now)) a.states.now a.first l.i l.at l.states l.invariant.1 (l.i + 28 - l.i) c.put_state.new.bytes (omega arith) h (ap length e ∙ state_length (start_state a.cycle l.at)) e))

pub shape_of-states : goal.shape_of-states
shape_of-states c = c.loop-i.invariant.1.size

pub returns : goal.returns
returns c = let l = c.loop-i in let a = c.args in wrote_all (starts a.cycle) (table_after (words_of a.words.now)) a.states.now a.first l.i l.at l.states l.invariant.1 (let z = l.invariant.1.size in omega arith) ∙ started_all (words_of a.words.now) a.cycle a.first a.states.now c.requires

-- the last record ends the loop
pub returns-2 : goal.returns-2
returns-2 c = let l = c.loop-i in let a = c.args in let z = l.invariant.1.size in let w = words_of a.words.now in let h : l.i + 28 ≤ length a.states.now = omega (arith, c.requires, l.invariant.0) in let e = c.put_state.ensures ∙ ap state_bytes c.start.ensures in let m = wrote_part (starts a.cycle) (table_after w) a.states.now a.first l.i l.at l.states l.invariant.1 (l.i + 28 - l.i) c.put_state.new.bytes (omega arith) h (ap length e ∙ state_length (start_state a.cycle l.at)) e in wrote_all (starts a.cycle) (table_after w) a.states.now a.first (l.i + 28) _ _ m (omega arith) ∙ started_all w a.cycle a.first a.states.now c.requires
