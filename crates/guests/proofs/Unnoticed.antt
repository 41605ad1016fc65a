-- A guest does not notice what is changed in another (paper 02, request 11).
use Prim.Native.Nat.{ℕ, ◌+◌, ◌*◌, ◌/◌, ◌%◌, ◌≤◌, ◌<◌}
use mathlib.Core.Path.{◌≡◌, refl, sym, ap, ◌∙◌, subst}
use mathlib.Core.Logic.{inl, inr, ◌≢◌}
use mathlib.Core.Bool.{Bool, true, false, ◌&&◌, cond}
use mathlib.Core.List.{List}
use native.Mathlib.Nat.{mod-lt, div-add-mod', add-mul}
use native.Mathlib.Omega.{arith}
use native.Mathlib.Decide.{dec_lt}
use lib.Dec.{eqb}
use lib.Arith.{digits_mod}
use borrow.Author.Tests.{eqb-true, eqb-false, ne_eqb}
use Rattle.plan.specs.declared.Table.TheVariants.{Cores, Vcpus}
use Rattle.plan.specs.declared.Core.{Core}
use Rattle.plan.specs.declared.Vcpu.{Vcpu}
use Rattle.plan.specs.declared.Window.{Window}
use Rattle.std.specs.Prelude.{Option}
use Rattle.std.specs.Prelude.{Some, None}
use Rattle.plan.specs.Image.{rows, cycle_ticks, precision, core, vcpu, window}
use Rattle.plan.specs.Questions.{charge}
use Rattle.plan.specs.Dispatch.{Shown, lanes, window_at, on_core}
use Rattle.guests.specs.Guests.{Sight, nothing, in_window, in_job, taken, sight_of, sight, of_guest, hides}
use Rattle.guests.specs.Claim.{Carries, Alike, Run, SameBut, RunsUnnoticed, GuestsUnnoticed, HasGuest}
use Rattle.plan.proofs.Searching.{and_true}
use Rattle.plan.proofs.Facts.{Facts, facts}
use Rattle.plan.proofs.Showing.{core_lane}
use Rattle.plan.proofs.Demand.{demand_3}
use Rattle.guests.proofs.Seen.{window_at_holds, link_seen, outside_seen, switch_seen, taken_seen}
use Rattle.guests.proofs.Guest.{HasWindows, guest_windows, There, window_there, there, Same, shown_there}
use Rattle.guests.proofs.Windows.{turned, same_row}

-- ---- what a plan carries over

module _ (s t : List ℕ) (f : Facts s) (v : ℕ) (a : Carries s t v) where
  core_carried : (u : ℕ) → u < rows s Vcpus → let c = (vcpu s u).core in ((vcpu t u).core ≡ c) × ((core t c).d ≡ (core s c).d) × ((core t c).v ≡ (core s c).v)
  core_carried u h =
      let e = (a.cores (vcpu s u).core (f.names Vcpus u h)).1 in
      (ap (λ (z : Vcpu). z.core) (a.vcpus u h).1, ap (λ (z : Core). z.d) e, ap (λ (z : Core). z.v) e)

  -- of every VCPU its windows, of every VCPU but v all
  windows_carried : (u : ℕ) → HasWindows s t u
  windows_carried u = record { core_kept = λ h. let c = core_carried u h in (c.0, c.2); windows = λ w l _. a.windows w l }

  pub guest_carried : (u : ℕ) → u ≢ v → HasGuest s t u
  guest_carried u n =
      record {
        core_kept = core_carried u;
        windows = λ w l _. a.windows w l;
        tasks = λ k l o. a.tasks k l (λ q. n (sym o ∙ q));
        pieces = λ i l o. a.pieces i l (λ q. n (sym o ∙ q));
      }

-- ---- on a core

module _ (s t : List ℕ) (v : ℕ) (h : Alike s t v) (c x : ℕ) where
  abbrev f : Facts s
  f = facts s h.plan

  abbrev g : Facts t
  g = facts t h.changed

  -- where s has a window, t has it, in the same row
  module _ (w : ℕ) (e : window_at s c x ≡ Some w) where
    abbrev u : ℕ
    u = (window s w).vcpu

    row : (y : ℕ) → window_at t c x ≡ Some y → window t y ≡ window s w → y ≡ w
    row y q d = same_row s t v h w y (window_at_holds s f c x w e).row (window_at_holds t g c x y q).row d

    other : u ≢ v → sight_of s (on_core s c x) ≡ sight_of t (on_core t c x)
    other n = go (shown_there s t f g u a b c x w e refl)
      where
        a : HasGuest s t u
        a = guest_carried s t f v h.there u n

        b : HasGuest t s u
        b = guest_carried t s g v h.back u n

        y : There s t f g u (guest_windows a) (guest_windows b) c x w
        y = there s t f g u a b c x w e refl

        go : Same s t f g u a b c x w e refl → sight_of s (on_core s c x) ≡ sight_of t (on_core t c x)
        go (inl k) = k
        go (inr k) = k.1 ∙ ap (in_window k.0 u) (sym (row y.y y.at y.same)) ∙ sym k.2

    in_window_holds : hides v (sight_of s (on_core s c x)) ≡ hides v (sight_of t (on_core t c x))
    in_window_holds = go (dec_lt x ((window s w).start + charge s w)) (eqb u v) refl
      where
        y : There s t f g u (windows_carried s t f v h.there u) (windows_carried t s g v h.back u) c x w
        y = window_there s t f g u (windows_carried s t f v h.there u) (windows_carried t s g v h.back u) c x w e refl

        go : Dec (x < (window s w).start + charge s w) → (b : Bool) → eqb u v ≡ b → hides v (sight_of s (on_core s c x)) ≡ hides v (sight_of t (on_core t c x))
        go (yes l) b d =
            ap (hides v) (switch_seen s f c x w e l
            ∙ sym (switch_seen t g c x y.y y.at (rw (y.same, y.charged) l) ∙ rw (y.same, row y.y y.at y.same) refl))
        go (no l) true d =
            let m : (window t y.y).vcpu ≡ u = ap (λ (z : Window). z.vcpu) y.same in
            let k = taken_seen t g c x y.y y.at (rw (y.same, y.charged) (omega arith)) in
            subst (λ (r : ℕ). hides r (sight_of s (on_core s c x)) ≡ hides r (sight_of t (on_core t c x))) (eqb-true u v d)
            (taken_seen s f c x w e (omega arith) ∙ sym (subst (λ (r : ℕ). hides r (sight_of t (on_core t c x)) ≡ taken r) m k))
        go (no l) false d = ap (hides v) (other (eqb-false u v d))

core_same : (s t : List ℕ) (v : ℕ) → Alike s t v → (c x : ℕ) → hides v (sight_of s (on_core s c x)) ≡ hides v (sight_of t (on_core t c x))
core_same s t v h c x = go (window_at s c x) (window_at t c x) refl refl
  where
    go : (d e : Option ℕ) → window_at s c x ≡ d → window_at t c x ≡ e → hides v (sight_of s (on_core s c x)) ≡ hides v (sight_of t (on_core t c x))
    go (Some w) e p q = in_window_holds s t v h c x w p
    go None (Some w) p q = sym (in_window_holds t s v (turned h) c x w q)
    go None None p q = ap (hides v) (outside_seen s (facts s h.plan) c x p ∙ sym (outside_seen t (facts t h.changed) c x q))

-- ---- the claim

lane_same : (s t : List ℕ) (v : ℕ) → Alike s t v → (l x : ℕ) → hides v (sight s l x) ≡ hides v (sight t l x)
unfolding sight
lane_same s t v h l x = go (dec_lt l (rows s Cores)) (dec_lt l (rows t Cores))
  where
    go : Dec (l < rows s Cores) → Dec (l < rows t Cores) → hides v (sight s l x) ≡ hides v (sight t l x)
    go (yes a) b = rw (core_lane s {l = l} x a, core_lane t {l = l} x (h.there.cores l a).0) (core_same s t v h l x)
    go (no a) (yes b) = absurd (a (h.back.cores l b).0)
    go (no a) (no b) = ap (hides v) (link_seen s l x (omega arith) ∙ sym (link_seen t l x (omega arith)))

-- what another VCPU shows is not hidden: a sight of VCPU r is hidden only where r is v
hidden_as_v : (u v r : ℕ) (g : Sight) → u ≢ v → (eqb r u ≡ false → of_guest u g ≡ nothing) → (p : Bool) → (p ≡ true → r ≡ v)
    → of_guest u (cond p (taken r) g) ≡ of_guest u g
unfolding of_guest
hidden_as_v u v r g n own true e = let q : eqb r u ≡ false = ne_eqb r u (λ z. n (sym z ∙ e refl)) in rw (own q, q) refl
hidden_as_v u v r g n own false e = refl

not_hidden : (u v : ℕ) (g : Sight) → u ≢ v → of_guest u (hides v g) ≡ of_guest u g
unfolding of_guest hides
not_hidden u v nothing n = refl
not_hidden u v (in_window k r w) n = hidden_as_v u v r (in_window k r w) n (λ q. rw q refl) (eqb r v && eqb k 2) (λ q. eqb-true r v (and_true (eqb r v) (eqb k 2) q).0)
not_hidden u v (in_job k r t j) n = hidden_as_v u v r (in_job k r t j) n (λ q. rw q refl) (eqb r v) (λ q. eqb-true r v q)
not_hidden u v (taken r) n = refl

same_but : (v : ℕ) (g h : Sight) → hides v g ≡ hides v h → SameBut v g h
same_but v g h e = record { others = λ u n. sym (not_hidden u v g n) ∙ ap (of_guest u) e ∙ not_hidden u v h n; beside = e }

-- the tick of a cycle does not hang on the cycle
tick_of : (c i n : ℕ) → 1 ≤ n → (c * n + i) % n ≡ i % n
tick_of c i n pos =
    let e : c * n + i ≡ (c + i / n) * n + i % n = omega (arith, div-add-mod' i n, add-mul c (i / n) n) in
    ap (λ (x : ℕ). x % n) e ∙ digits_mod (c + i / n) (mod-lt i pos)

-- runs show what the plans have at the tick
module _ (s t : List ℕ) (v : ℕ) (h : Alike s t v) (a : Run s) (b : Run t) (ahead : ℕ → ℕ) (near : (n : ℕ) → ahead n ≤ precision s) where
  pub in_runs : RunsUnnoticed s t v a b ahead
  unfolding sight lanes
  in_runs =
      let p = demand_3 s a.words a.row a.cycle a.ready ahead near a.delay a.bounds a.calls a.named in
      let q = demand_3 t b.words b.row b.cycle b.ready ahead (λ n. omega (arith, near n, h.precisions)) b.delay b.bounds b.calls b.named in
      record {
        holds = (p, q);
        shown = λ l i j k m n e. same_but v _ _
            (ap (λ (y : Shown). hides v (sight_of s y)) (p.shown l i (omega (arith, k)) m)
            ∙ lane_same s t v h l (i % cycle_ticks s)
            ∙ ap (λ (y : ℕ). hides v (sight t l y)) e
            ∙ sym (ap (λ (y : Shown). hides v (sight_of t y)) (q.shown l j (omega (arith, (h.there.cores l k).0)) n)));
        moment = λ l i j k e. (
          sym (tick_of a.cycle i (cycle_ticks s) (facts s h.plan).cycle) ∙ ap (λ (x : ℕ). x % cycle_ticks s) e
              ∙ ap (λ (n : ℕ). (b.cycle * cycle_ticks t + j) % n) h.cycle ∙ tick_of b.cycle j (cycle_ticks t) (facts t h.changed).cycle,
          omega (arith, e, ap (λ (y : Core). ahead y.node) (h.there.cores l k).1),
        );
      }

pub guests_unnoticed : GuestsUnnoticed
guests_unnoticed s t v h = record { at_ticks = λ l x. same_but v _ _ (lane_same s t v h l x); in_runs = in_runs s t v h }
