-- In the first loop, `Records.antt` says what follows where the record at i is refused, where it is not, and where none is left; in
-- the second, what the list is once the record at i is moved, and once all are.
use mathlib.Core.Path.{◌≡◌, refl, sym, ◌∙◌, ap}
use mathlib.Core.Bool.{not}
use mathlib.Core.List.{List}
use Prim.Native.Nat.{ℕ, ◌+◌, ◌<◌}
use native.Mathlib.Omega.{arith}
use lib.Dec.{T, eqb, eqb→eq}
use lib.ListN.{length, get_or, set}
use Rattle.std.proofs.Math.Dec.{not_T}
use Rattle.plan.specs.Dispatch.{step, start_state}
use Rattle.plan.specs.declared.LaneState.{LaneState}
use Rattle.plan.specs.declared.Stepped.{Stepped}
use Rattle.steps.proofs.Records.{none, refused_at, fits_at, all_fit, number_at, moved_to, moved_set, moved_all}
use Rattle.steps.proofs.step_all.Goals as goal

is_refused : (n : ℕ) → (n ≡ 0 → ⊥) → T (not (eqb n 0))
is_refused n ne = not_T (eqb n 0) (λ t. ne (eqb→eq n 0 t))

is_taken : (n : ℕ) → n ≡ 0 → T (not (not (eqb n 0)))
is_taken n e = rw e tt

pub returns-then-stepped-ne0 : goal.returns-then-stepped-ne0
unfolding start_state
returns-then-stepped-ne0 c =
    let ws = c.args.words.now in
    let ys = c.args.lanes.now in
    let e : c.step-stepped.result.number ≡ number_at ws ys c.loop-lane.lane-index = ap (λ (k : Stepped). k.number) c.step-stepped.ensures in
    let r = refused_at ws ys c.loop-lane.lane-index c.loop-lane.invariant c.loop-lane-test.true (is_refused (number_at ws ys c.loop-lane.lane-index) (λ z. c.if-stepped-ne0.true (e ∙ z))) in
    (e ∙ sym r.0, r.1)

pub loop-lane-preserved : goal.loop-lane-preserved
unfolding start_state
loop-lane-preserved c =
    let ws = c.args.words.now in
    let ys = c.args.lanes.now in
    let e : c.step-stepped.result.number ≡ number_at ws ys c.loop-lane.lane-index = ap (λ (k : Stepped). k.number) c.step-stepped.ensures in
    fits_at ws ys c.loop-lane.lane-index c.loop-lane.invariant c.loop-lane-test.true (is_taken (number_at ws ys c.loop-lane.lane-index) (sym e ∙ c.if-stepped-ne0.false))

pub loop-lane-2-init : goal.loop-lane-2-init
loop-lane-2-init c = (refl, all_fit c.args.words.now c.args.lanes.now c.loop-lane.lane-index c.loop-lane.invariant c.loop-lane-test.false)

-- the record at i of the list whose first i records are moved is moved, and stored back
moved_on : (ws : List ℕ) (ys zs : List LaneState) (i : ℕ) (r : Stepped) → zs ≡ moved_to ws i ys → r ≡ step ws (get_or zs i none) → i < length ys
    → set zs i r.state ≡ moved_to ws (i + 1) ys
moved_on ws ys zs i r z e l = rw (e, z) (moved_set ws i ys l)

pub loop-lane-2-preserved : goal.loop-lane-2-preserved
unfolding start_state
loop-lane-2-preserved c =
    let l2 = c.loop-lane-2 in
    (moved_on c.args.words.now c.args.lanes.now l2.lanes l2.lane-index c.step-stepped-in-loop-lane-2.result l2.invariant.0 c.step-stepped-in-loop-lane-2.ensures (omega arith), l2.invariant.1)

pub returns : goal.returns
returns c =
    let l2 = c.loop-lane-2 in
    (sym l2.invariant.1, l2.invariant.0 ∙ moved_all c.args.words.now l2.lane-index c.args.lanes.now l2.invariant.1 (omega arith))
