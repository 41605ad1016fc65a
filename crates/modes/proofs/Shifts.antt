-- Modes over every list of calls, holds and refused calls among them: the claims of specs/Claim.antt.
use Prim.Native.Nat.{ℕ}
use mathlib.Core.Path.{◌≡◌, refl, sym, ap, ◌∙◌}
use mathlib.Core.Logic.{◌≢◌, ◌⊎◌, inl, inr}
use mathlib.Core.Bool.{Bool, true, false, ◌&&◌, cond, true≢false, and-true}
use mathlib.Core.List.{List, ◌∷◌, []}
use native.Mathlib.Nat.{not-suc-le-zero}
use native.Mathlib.Omega.{arith}
use lib.ListN.{length}
use lib.Dec.{leb, eqb}
use borrow.Author.Tests.{eqb-true, le-leb}
use Rattle.plan.specs.declared.LaneState.{LaneState}
use Rattle.modes.specs.declared.HeldPlan.{HeldPlan}
use Rattle.modes.specs.Modes
use Rattle.modes.specs.Modes.{places, lane_count, idle, held, Shift, Call, hold_plan, start_plan, request_plan, step_lanes, fresh, held_of, holding, gives, in_mode, moved, leaves, after}
use Rattle.modes.specs.Claim
use Rattle.modes.specs.Claim.{Images, Log, blank, noted, seen, images_by, images_after, InCalendar, ShiftHolds, RequestTaken, now, told, PlansHeld, ShiftKeeps, RequestsTaken, StartsGive, StartsRun, HoldsGive, HoldsEnd}
use Rattle.modes.proofs.Changes.{Inv, lanes_kept, take_now, still, step_gives, start_asks, begin, request_asks, ask}
use Rattle.modes.proofs.Keeping.{holds}
use Rattle.modes.proofs.Waiting.{quiet_keeps, runs_on_holds, taken_soon}
use Rattle.modes.proofs.Holding.{Sound, sound_holds, end_inside, sound_first, hold_asks, hold_gives, plan_other, hold_sound, hold_held}

-- ---- each call

abbrev Lies : Images → Shift → Type 0
Lies images x = Sound images x.plans x.used x.words

-- no plan runs, or what is shown is what held plans show
abbrev Runs : Images → Shift → Log → Type 0
Runs images x g = (x.mode.running ≡ places) ⊎ Inv images x.plans x.words x.mode g

none_there : (plans : List HeldPlan) (p : ℕ) → p ≡ places → held plans p ≡ false
unfolding held
none_there plans p e = rw e refl

pub idle_gives : (x : Shift) → x.mode.running ≡ places → gives x step_lanes ≡ 27
unfolding gives Modes.step_number
idle_gives x e = rw (none_there x.plans x.mode.running e) refl

lies_on : (call : Call) (images : Images) (x : Shift) → Lies images x → gives x call ≡ 0 → Lies (images_by images call) (moved x call)
unfolding moved in_mode
lies_on (hold_plan image p) images x s e = unfold holding in (hold_sound images x s image p (hold_asks x image p e))
lies_on (start_plan p c k) images x s e = unfold images_by in s
lies_on (request_plan p) images x s e = unfold images_by in s
lies_on step_lanes images x s e = unfold images_by in s

runs_on_call : (call : Call) (images : Images) (x : Shift) (g : Log) → InCalendar (call ∷ []) → Lies images x → Runs images x g → gives x call ≡ 0
    → Runs (images_by images call) (moved x call) (noted x g call)
unfolding gives moved noted
runs_on_call (hold_plan image p) images x g hc s r e = unfold holding idle in (inl refl)
runs_on_call (start_plan p c k) images x g hc s r e =
    unfold in_mode images_by in (
    let all = sound_holds s in
    inr (begin images x.plans x.words all p c (start_asks images x.plans x.words all p k e) hc.0)
    )
runs_on_call (request_plan p) images x g hc s (inl d) e =
    absurd (true≢false (sym (request_asks images x.plans x.words (sound_holds s) x.mode p e).1 ∙ none_there x.plans x.mode.running d))
runs_on_call (request_plan p) images x g hc s (inr v) e =
    unfold in_mode images_by in (inr (ask images x.plans x.words (sound_holds s) x.mode g p v e))
runs_on_call step_lanes images x g hc s (inl d) e = absurd (let z : ◌≡◌ {A = ℕ} 27 0 = sym (idle_gives x d) ∙ e in omega arith)
runs_on_call step_lanes images x g hc s (inr v) e =
    unfold in_mode images_by Modes.stepped in (
    let all = sound_holds s in
    let t = take_now images x.plans x.words all x.mode g v in
    inr (still images x.plans x.words all _ g t.inv (sym (step_gives images x.plans x.words all x.mode g v) ∙ e))
    )

-- ---- any list of calls

abbrev images_then : Images → Shift → Call → Images
images_then images x call = cond (eqb (gives x call) 0) (images_by images call) images

abbrev log_then : Log → Shift → Call → Log
log_then g x call = cond (eqb (gives x call) 0) (noted x g call) g

lies_call : (call : Call) (images : Images) (x : Shift) → Lies images x → Lies (images_then images x call) (leaves x call)
unfolding leaves
lies_call call images x s = go (eqb (gives x call) 0) refl
  where
    go : (b : Bool) → eqb (gives x call) 0 ≡ b → Lies (cond b (images_by images call) images) (cond b (moved x call) x)
    go true e = lies_on call images x s (eqb-true (gives x call) 0 e)
    go false e = s

runs_call : (call : Call) (images : Images) (x : Shift) (g : Log) → InCalendar (call ∷ []) → Lies images x → Runs images x g
    → Runs (images_then images x call) (leaves x call) (log_then g x call)
unfolding leaves
runs_call call images x g hc s r = go (eqb (gives x call) 0) refl
  where
    go : (b : Bool) → eqb (gives x call) 0 ≡ b → Runs (cond b (images_by images call) images) (cond b (moved x call) x) (cond b (noted x g call) g)
    go true e = runs_on_call call images x g hc s r (eqb-true (gives x call) 0 e)
    go false e = r

calendar_head : (call : Call) (cs : List Call) → InCalendar (call ∷ cs) → InCalendar (call ∷ [])
calendar_head (hold_plan image p) cs k = tt
calendar_head (start_plan p c n) cs k = (k.0, tt)
calendar_head (request_plan p) cs k = tt
calendar_head step_lanes cs k = tt

calendar_tail : (call : Call) (cs : List Call) → InCalendar (call ∷ cs) → InCalendar cs
calendar_tail (hold_plan image p) cs k = k
calendar_tail (start_plan p c n) cs k = k.1
calendar_tail (request_plan p) cs k = k
calendar_tail step_lanes cs k = k

all_lie : (calls : List Call) (images : Images) (x : Shift) → Lies images x → Lies (images_after x images calls) (after x calls)
unfolding images_after after
all_lie [] images x s = s
all_lie (call ∷ cs) images x s = all_lie cs (images_then images x call) (leaves x call) (lies_call call images x s)

all_run : (calls : List Call) (images : Images) (x : Shift) (g : Log) → InCalendar calls → Lies images x → Runs images x g
    → Runs (images_after x images calls) (after x calls) (seen x g calls)
unfolding images_after after seen
all_run [] images x g k s r = r
all_run (call ∷ cs) images x g k s r =
    all_run cs (images_then images x call) (leaves x call) (log_then g x call) (calendar_tail call cs k)
    (lies_call call images x s) (runs_call call images x g (calendar_head call cs k) s r)

-- ---- the claims

module _ (words : List ℕ) (row : List LaneState) (images : Images) (calls : List Call) where
  abbrev x : Shift
  x = now words row images calls

  abbrev g : Log
  g = told words row images calls

  abbrev kept : Images
  kept = Claim.kept words row images calls

  lies : Lies kept x
  lies = all_lie calls images (fresh words row) (unfold fresh in (sound_first images words))

  runs : InCalendar calls → Runs kept x g
  runs k = all_run calls images (fresh words row) blank k (unfold fresh in (sound_first images words)) (unfold fresh idle in (inl refl))

  pub plans_held : PlansHeld words row images calls
  plans_held = sound_holds lies

  pub shift_keeps : ShiftKeeps words row images calls
  shift_keeps k on = go (runs k)
    where
      go : Runs kept x g → ShiftHolds kept x g
      go (inl d) = absurd (on d)
      go (inr v) = holds kept x plans_held g v

  pub requests_taken : RequestsTaken words row images calls
  requests_taken k p e later q = go (runs k)
    where
      go : Runs kept x g → RequestTaken kept x g p later
      go (inl d) =
          absurd (true≢false (sym (request_asks kept x.plans x.words plans_held x.mode p (unfold gives in e)).1 ∙ none_there x.plans x.mode.running d))
      go (inr v) = taken_soon kept x plans_held g v p e later q

  pub starts_give : StartsGive words row images calls
  unfolding gives Modes.start_number
  starts_give p c records e =
      let h = Modes.plan x.plans p in
      let k = lane_count h in
      let n : Bool = leb h.end (length x.words) in
      ap (λ (b : Bool). cond b (cond (eqb records k && n) 0 27) 43) e ∙ ap (λ (b : Bool). cond (eqb records k && b) 0 27) (le-leb _ _ (end_inside lies p e))
      ∙ ap (λ (b : Bool). cond b 0 27) (and-true (eqb records k)) ∙ ap (λ (u : ℕ). cond (eqb records u) 0 27) (lanes_kept kept x.plans x.words plans_held p e)

  pub starts_run : StartsRun words row images calls
  starts_run p c records later e q =
      let r = runs_on_holds p later _ (record { cycle = c; ticks = [] }) q
      (unfold in_mode Modes.started in (record { running = refl; wanted = refl; shown = λ i l. absurd (not-suc-le-zero l) })) in
      (r.running, r.shown)

  pub holds_give : HoldsGive words row images calls
  holds_give image p a l f w = hold_gives x image p (record { accepts = a; place = l; fits = f; low = w })

  pub holds_end : HoldsEnd words row images calls
  unfolding holding
  holds_end image p e =
      let a = hold_asks x image p e in
      record {
        holds = hold_held kept x lies image p a;
        others = λ q d. plan_other x.plans p (held_of image x.used) lies.eight a.place q d;
        stopped = λ later q. idle_gives (after (holding x image p) later)
            (quiet_keeps (λ y _. y.mode.running ≡ places) (λ y g d z. absurd (let w : ◌≡◌ {A = ℕ} 27 0 = sym (idle_gives y d) ∙ z in omega arith)) later (holding x image p) blank q (unfold idle in refl));
      }
