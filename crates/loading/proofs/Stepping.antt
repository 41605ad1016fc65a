-- A plan that is loaded, and rd_step_all again and again: what each call gives, and where the lanes stand.
use Prim.Native.Nat.{ℕ, suc, ◌+◌, ◌-◌, ◌*◌, ◌/◌, ◌%◌, ◌^◌, ◌≤◌, ◌<◌}
use mathlib.Core.Path.{◌≡◌, refl, sym, ap, ◌∙◌, subst}
use mathlib.Core.List.{List, ◌∷◌, ◌++◌, [], append-nil}
use native.Mathlib.Numerals.{add-one}
use native.Mathlib.Omega.{arith}
use borrow.Author.Tests.{lt-ltb}
use lib.ListN.{get_or, take, drop, replicate, replicate-append-replicate}
use Rattle.plan.specs.declared.LaneState.{LaneState}
use Rattle.plan.specs.Image.{cycle_ticks}
use Rattle.plan.specs.Dispatch.{lanes, shown_at, start_state, starts_at}
use Rattle.plan.specs.Boundary.{words_of, state_of}
use Rattle.plan.specs.Runs.{Call, all_lanes, steps, after, Named, moved_by}
use Rattle.plan.proofs.Facts.{facts}
use Rattle.plan.proofs.Demand.{some_lane}
use Rattle.plan.proofs.RunLists.{cycle_pos, calls_named, run_left, run_tick, run_cycle, run_moved_all, run_number_all}
use Rattle.loading.specs.Loaded.{Loaded, gives_bytes, after_bytes, shown_bytes}
use Rattle.loading.proofs.Loads.{plan, ready, record_is, numbers_are, shown_are}

one_more : (n : ℕ) → replicate n all_lanes ++ all_lanes ∷ [] ≡ replicate (suc n) all_lanes
one_more n = replicate-append-replicate n 1 all_lanes ∙ ap (λ (k : ℕ). replicate k all_lanes) (add-one n)

pub named_more : (s : List ℕ) (n : ℕ) → Named s (replicate n all_lanes ++ all_lanes ∷ [])
named_more s n = subst (Named s) (sym (one_more n)) (calls_named s (suc n))

module _ (s ws row : List ℕ) (c : ℕ) (first : ℕ → ℕ) (g : Loaded s ws row c first) where
  pub pos_of : 1 ≤ cycle_ticks s
  pos_of = cycle_pos s (plan s ws row c first g)

  -- n calls, up to the calendar's last tick
  module _ (n : ℕ) (k : c * cycle_ticks s + n < 2 ^ 64 * cycle_ticks s) (l : ℕ) (h : l < lanes s) where
    pub moved_all : moved_by s (words_of ws) (starts_at first c (lanes s)) c (replicate n all_lanes) l ≡ n
    moved_all =
        let e = run_moved_all s (words_of ws) c pos_of (starts_at first c (lanes s)) (ready s ws row c first g) g.in_calendar n l h in
        omega (arith, e)

    abbrev state : LaneState
    state = get_or (after (words_of ws) (starts_at first c (lanes s)) (replicate n all_lanes)) l (start_state 0 0)

    record_all : state_of (take 28 (drop (28 * l) (after_bytes ws row (replicate n all_lanes)))) ≡ state
    record_all = record_is s ws row c first g (replicate n all_lanes) (calls_named s n) (replicate n all_lanes) [] (sym (append-nil (replicate n all_lanes))) l h

    pub tick_all : (state_of (take 28 (drop (28 * l) (after_bytes ws row (replicate n all_lanes))))).tick ≡ n % cycle_ticks s
    tick_all =
        ap (λ (st : LaneState). st.tick) record_all
        ∙ run_tick s (words_of ws) c pos_of (starts_at first c (lanes s)) (ready s ws row c first g) (replicate n all_lanes) (calls_named s n) l h
        ∙ ap (λ (m : ℕ). m % cycle_ticks s) moved_all

    pub cycle_all : (state_of (take 28 (drop (28 * l) (after_bytes ws row (replicate n all_lanes))))).cycle ≡ c + n / cycle_ticks s
    cycle_all =
        ap (λ (st : LaneState). st.cycle) record_all
        ∙ run_cycle s (words_of ws) c pos_of (starts_at first c (lanes s)) (ready s ws row c first g) (replicate n all_lanes) (calls_named s n) l h
        ∙ ap (λ (m : ℕ). c + m / cycle_ticks s) moved_all

  -- and one more
  module _ (n : ℕ) (k : c * cycle_ticks s + n < 2 ^ 64 * cycle_ticks s - 1) where
    pub gives_all : gives_bytes ws (after_bytes ws row (replicate n all_lanes)) all_lanes ≡ 0
    gives_all =
        numbers_are s ws row c first g (replicate n all_lanes ++ all_lanes ∷ []) (named_more s n) (replicate n all_lanes) all_lanes [] refl
        ∙ run_number_all s (words_of ws) c pos_of (starts_at first c (lanes s)) (ready s ws row c first g) g.in_calendar
        (some_lane s (facts s (plan s ws row c first g))) n
        ∙ rw (lt-ltb (c * cycle_ticks s + n) (2 ^ 64 * cycle_ticks s - 1) k) refl

    pub shown_all : (l : ℕ) → l < lanes s
        → take 8 (drop (28 * l + 20) (after_bytes ws row (replicate (suc n) all_lanes))) ≡ shown_bytes (shown_at s l (n % cycle_ticks s))
    unfolding steps
    shown_all l h =
        let cs : List Call = replicate n all_lanes ++ all_lanes ∷ [] in
        ap (λ (ds : List Call). take 8 (drop (28 * l + 20) (after_bytes ws row ds))) (sym (one_more n))
        ∙ shown_are s ws row c first g cs (named_more s n) (replicate n all_lanes) all_lanes [] refl l h
        ∙ ap shown_bytes
        (run_left s (words_of ws) c pos_of (starts_at first c (lanes s)) (ready s ws row c first g) cs (named_more s n) (replicate n all_lanes) all_lanes [] refl
        (sym (numbers_are s ws row c first g cs (named_more s n) (replicate n all_lanes) all_lanes [] refl) ∙ gives_all) l h refl
        ∙ ap (λ (m : ℕ). shown_at s l (m % cycle_ticks s)) (moved_all n (omega arith) l h))
