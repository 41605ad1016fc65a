-- Calls of which none but steps gives 0: a plan that was started runs on, and a request is taken at the next tick 0.
use Prim.Native.Nat.{ℕ, ◌+◌, ◌-◌, ◌*◌, ◌/◌, ◌%◌, ◌^◌, ◌≤◌, ◌<◌}
use mathlib.Core.Path.{◌≡◌, refl, sym, ap, ◌∙◌, subst}
use mathlib.Core.Logic.{◌≢◌, ◌⊎◌, inl, inr}
use mathlib.Core.Bool.{Bool, true, false, cond}
use mathlib.Core.List.{List, ◌∷◌, []}
use native.Mathlib.Nat.{add-mul}
use native.Mathlib.Omega.{arith}
use native.Mathlib.Decide.{ℕ_discrete}
use lib.ListN.{length}
use lib.Dec.{ltb, eqb, lit<}
use borrow.Author.Tests.{eqb-true, ne_eqb, lt-ltb, le-ltb}
use Rattle.plan.specs.Image.{cycle_ticks}
use Rattle.plan.specs.Dispatch.{step_all}
use Rattle.modes.specs.Modes
use Rattle.modes.specs.Modes.{places, Mode, Shift, Call, hold_plan, start_plan, request_plan, step_lanes, gives, in_mode, moved, leaves, after}
use Rattle.modes.specs.Claim.{AllHeld, Log, noted, seen, place_at, next_start, RequestTaken, Quiet}
use Rattle.modes.proofs.Cycles.{next_low, next_high, next_is_start, none_between, next_cycle}
use Rattle.modes.proofs.Changes.{Inv, held_place, take_now, turns_yes, turns_no, turns_none, one_more, each_tick, still, step_gives, request_asks, ask}

-- ---- what a step keeps, quiet calls keep

-- a refused call
stays : (x : Shift) (g : Log) (call : Call) → gives x call ≢ 0 → (leaves x call ≡ x) × (cond (eqb (gives x call) 0) (noted x g call) g ≡ g)
unfolding leaves
stays x g call q = rw (ne_eqb (gives x call) 0 q) (refl, refl)

module _ (P : Shift → Log → Type 0)
    (step : (x : Shift) (g : Log) → P x g → gives x step_lanes ≡ 0 → P (moved x step_lanes) (noted x g step_lanes)) where
  one_step : (x : Shift) (g : Log) → P x g → (b : Bool) → eqb (gives x step_lanes) 0 ≡ b
      → P (leaves x step_lanes) (cond (eqb (gives x step_lanes) 0) (noted x g step_lanes) g)
  unfolding leaves
  one_step x g h true e = rw e (step x g h (eqb-true (gives x step_lanes) 0 e))
  one_step x g h false e = rw e h

  pub quiet_keeps : (later : List Call) (x : Shift) (g : Log) → Quiet x later → P x g → P (after x later) (seen x g later)
  unfolding after seen
  quiet_keeps [] x g q h = h
  quiet_keeps (hold_plan image p ∷ cs) x g q h = let z = stays x g (hold_plan image p) q.0 in rw (z.0, z.1) (quiet_keeps cs x g q.1 h)
  quiet_keeps (start_plan p c k ∷ cs) x g q h = let z = stays x g (start_plan p c k) q.0 in rw (z.0, z.1) (quiet_keeps cs x g q.1 h)
  quiet_keeps (request_plan p ∷ cs) x g q h = let z = stays x g (request_plan p) q.0 in rw (z.0, z.1) (quiet_keeps cs x g q.1 h)
  quiet_keeps (step_lanes ∷ cs) x g q h = quiet_keeps cs _ _ q (one_step x g h (eqb (gives x step_lanes) 0) refl)

-- ---- after a start

pub record RunsOn (p : ℕ) (x : Shift) (g : Log) : Type 0 where
  pub running : x.mode.running ≡ p
  pub wanted : x.mode.wanted ≡ places
  pub shown : (i : ℕ) → i < length g.ticks → place_at g i ≡ p

step_on : (p : ℕ) (x : Shift) (g : Log) → RunsOn p x g → gives x step_lanes ≡ 0 → RunsOn p (moved x step_lanes) (noted x g step_lanes)
unfolding moved in_mode noted Modes.stepped
step_on p x g r e =
    let q = turns_none x.plans x.words x.mode r.wanted in
    let a : (Modes.taken x.plans x.words x.mode).running ≡ p = ap (λ (m : Mode). m.running) q ∙ r.running in
    record { running = a; wanted = ap (λ (m : Mode). m.wanted) q ∙ r.wanted; shown = each_tick g _ (λ i y. y.place ≡ p) r.shown a }

pub runs_on_holds : (p : ℕ) (later : List Call) (x : Shift) (g : Log) → Quiet x later → RunsOn p x g → RunsOn p (after x later) (seen x g later)
runs_on_holds p = quiet_keeps (RunsOn p) (step_on p)

-- ---- after a request

-- facts on numbers, with B for the calendar's end
n_suc : (a b B : ℕ) → a + b ≡ B - 1 → 1 ≤ B → a + (b + 1) ≡ B
n_suc a b B e l = omega arith

n_first : (a i k d B : ℕ) → a + k ≤ B - 1 → a + d ≡ B → i < k → i < d
n_first a i k d B h e l = omega arith

-- The request for p at tick n of a run from cycle c, with r running, is due at tick d.
module _ (images : ℕ → List ℕ) (c r p h n : ℕ) (real : p ≢ places) where
  abbrev d : ℕ
  d = next_start h n

  abbrev Want : Mode → ℕ → Type 0
  Want m k = ((k ≤ d) × (m.running ≡ r) × (m.wanted ≡ p)) ⊎ ((d < k) × (m.running ≡ p) × (m.wanted ≡ places))

  record Wait (x : Shift) (g : Log) : Type 0 where
    all : AllHeld images x.plans x.words
    inv : Inv images x.plans x.words x.mode g
    cycle : g.cycle ≡ c
    ticks : cycle_ticks (images x.mode.running) ≡ h
    from : n ≤ length g.ticks
    want : Want x.mode (length g.ticks)
    then_plans : (i : ℕ) → n ≤ i → i < length g.ticks → place_at g i ≡ cond (ltb i d) r p

  module _ (x : Shift) (g : Log) (w : Wait x g) where
    abbrev N : ℕ
    N = length g.ticks

    abbrev t : Mode
    t = Modes.taken x.plans x.words x.mode

    some : 1 ≤ h
    some = subst (λ (u : ℕ). 1 ≤ u) w.ticks w.inv.some

    next_want : Want t (N + 1) × (t.running ≡ cond (ltb N d) r p)
    next_want = go w.want
      where
        H : ℕ
        H = cycle_ticks (images x.mode.running)

        waits : N ≤ d → x.mode.running ≡ r → x.mode.wanted ≡ p → Dec (N ≡ d) → Want t (N + 1) × (t.running ≡ cond (ltb N d) r p)
        waits a b e (yes q) =
            let z : N % H ≡ 0 = ap (λ (u : ℕ). N % u) w.ticks ∙ ap (λ (u : ℕ). u % h) q ∙ next_is_start h some n in
            let y : x.mode.wanted ≢ places = λ o. real (sym e ∙ o) in
            rw (turns_yes images x.plans x.words w.all x.mode g w.inv y z) (inr (omega arith, e, refl), e ∙ rw (le-ltb N d (omega arith)) refl)
        waits a b e (no q) =
            let z : N % H ≢ 0 = λ o. none_between h some n N w.from (omega arith) (ap (λ (u : ℕ). N % u) (sym w.ticks) ∙ o) in
            rw (turns_no images x.plans x.words w.all x.mode g w.inv z) (inl (omega arith, b, e), b ∙ rw (lt-ltb N d (omega arith)) refl)

        go : Want x.mode N → Want t (N + 1) × (t.running ≡ cond (ltb N d) r p)
        go (inl a) = waits a.0 a.1 a.2 (ℕ_discrete N d)
        go (inr a) = rw (turns_none x.plans x.words x.mode a.2) (inr (omega (arith, a.0), a.1, a.2), a.1 ∙ rw (le-ltb N d (omega (arith, a.0))) refl)

    wait_step : gives x step_lanes ≡ 0 → Wait (moved x step_lanes) (noted x g step_lanes)
    unfolding gives moved in_mode noted Modes.stepped
    wait_step e =
        let u = take_now images x.plans x.words w.all x.mode g w.inv in
        let ok = sym (step_gives images x.plans x.words w.all x.mode g w.inv) ∙ e in
        let more = one_more g (record { place = t.running; row = step_all x.words t.row }) in
        record {
          all = w.all;
          inv = still images x.plans x.words w.all t g u.inv ok;
          cycle = w.cycle;
          ticks = sym u.alike_still.ticks ∙ w.ticks;
          from = let z = w.from in omega arith;
          want = subst (λ (k : ℕ). Want t k) (sym more) next_want.0;
          then_plans = λ i a b. each_tick g _ (λ i y. n ≤ i → y.place ≡ cond (ltb i d) r p)
              (λ i l a. w.then_plans i a l) (λ _. next_want.1) i b a;
        }

    -- the calendar ends before the next tick 0 of its last cycle
    ends_first : c + n / h ≡ 2 ^ 64 - 1 → n % h ≢ 0 → (i : ℕ) → i < N → i < d
    ends_first e z i l =
        let b : c * h + N ≤ 2 ^ 64 * h - 1 = subst (λ (y : ℕ). y * h + N ≤ 2 ^ 64 * h - 1) w.cycle (subst (λ (u : ℕ). g.cycle * u + N ≤ 2 ^ 64 * u - 1) w.ticks w.inv.low) in
        let q : c * h + d ≡ 2 ^ 64 * h = ap (λ (u : ℕ). c * h + u) (next_cycle h some n z) ∙ sym (add-mul c (n / h + 1) h) ∙ ap (λ (u : ℕ). u * h) (n_suc c (n / h) (2 ^ 64) e (lit< tt)) in
        n_first (c * h) i N d (2 ^ 64 * h) b q l

  -- which plan runs
  runs_by : (m : Mode) (k : ℕ) → Want m k → m.running ≡ cond (ltb d k) p r
  runs_by m k (inl a) = a.1 ∙ rw (le-ltb d k a.0) refl
  runs_by m k (inr a) = a.1 ∙ rw (lt-ltb d k a.0) refl

pub taken_soon : (images : ℕ → List ℕ) (x : Shift) → AllHeld images x.plans x.words → (g : Log) → Inv images x.plans x.words x.mode g
    → (p : ℕ) → gives x (request_plan p) ≡ 0 → (later : List Call)
    → Quiet (in_mode x (Modes.requested x.plans x.words x.mode p)) later → RequestTaken images x g p later
unfolding gives in_mode Modes.requested
taken_soon images x all g v p e later q =
    let h = cycle_ticks (images x.mode.running) in
    let n = length g.ticks in
    let r = x.mode.running in
    let real : p ≢ places = (λ o. let l = held_place images x.plans x.words all p (request_asks images x.plans x.words all x.mode p e).0 in omega arith) in
    let x0 = in_mode x (Modes.requested x.plans x.words x.mode p) in
    let w0 : Wait images g.cycle r p h n real (in_mode x (Modes.requested x.plans x.words x.mode p)) g = record {
      all = all;
      inv = ask images x.plans x.words all x.mode g p v e;
      cycle = refl;
      ticks = refl;
      from = omega arith;
      want = inl (next_low h v.some n, refl, refl);
      then_plans = λ i a b. absurd (omega arith);
    } in
    let w = quiet_keeps (Wait images g.cycle r p h n real) (wait_step images g.cycle r p h n real) later _ g q w0 in
    record {
      soon = (next_low h v.some n, next_high h v.some n);
      plans_then = w.then_plans;
      runs_then = runs_by images g.cycle r p h n real (after x0 later).mode (length (seen x0 g later).ticks) w.want;
      never = λ a z i l k. w.then_plans i l k ∙ rw (lt-ltb i (next_start h n) (ends_first images g.cycle r p h n real _ _ w a z i k)) refl;
    }
