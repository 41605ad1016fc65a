-- Lists of calls through C are lists of calls: the claims of specs/Through.antt.
use Prim.Native.Nat.{ℕ, ◌+◌, ◌*◌, ◌%◌, ◌<◌}
use mathlib.Core.Path.{◌≡◌, refl, sym, ap, ◌∙◌, subst}
use mathlib.Core.Logic.{◌≢◌}
use mathlib.Core.Bool.{Bool, true, false, cond}
use mathlib.Core.List.{List, ◌∷◌, ◌++◌, [], map, flat_map}
use native.Mathlib.Omega.{arith}
use lib.ListN.{length, take, drop}
use lib.Dec.{ltb}
use borrow.Author.Tests.{eq-eqb, ltb-true}
use Rattle.plan.specs.Image.{cycle_ticks}
use Rattle.plan.specs.Dispatch.{lanes, shown_at}
use Rattle.plan.specs.Runs.{record_shows}
use Rattle.plan.specs.Boundary.{words_of}
use Rattle.plan.proofs.Searching.{and_true}
use Rattle.loading.specs.Loaded.{AreBytes, row_bytes, shown_bytes}
use Rattle.loading.proofs.Runs.{words_of_holds, shown_at_holds}
use Rattle.modes.specs.declared.HeldPlan.{HeldPlan}
use Rattle.modes.specs.Modes as Modes
use Rattle.modes.specs.Modes.{places, no_plan, Mode, idle, Shift, Call, fresh, gives, in_mode, leaves, after, plan, due, placed, taken, stepped}
use Rattle.modes.specs.Claim.{Images, Tick, Log, blank, noted, seen, images_by, images_after, tick_shows, InCalendar, ShiftHolds}
use Rattle.sizes.proofs.Bounds.{tables_fit}
use Rattle.modes.proofs.Changes.{one_more, new_tick}
use Rattle.modes.proofs.Holding.{hold_gives}
use Rattle.modes.proofs.Shifts.{idle_gives, shift_keeps}
use Rattle.modeblock.specs.Blocks.{held_words, modes_fresh_block}
use Rattle.modeblock.proofs.Answers.{block_yes}
use Rattle.shifts.specs.Through.{Lent, Lending, hold, start, request, step, call_of, AllInC, leaves_lent, after_lent, block_of, StandsFor, begun, lent, now, ModesThroughC, ShownThroughC, RoomToHold}
use Rattle.shifts.proofs.Widths.{Narrow, fresh_narrow, leaves_narrow}
use Rattle.shifts.proofs.Calls.{call_gives, call_leaves, hold_answer_holds}

-- ---- any list of calls

begun_stands : (b words : List ℕ) → length b ≡ 172 → StandsFor (begun b words) (fresh (words_of words) [])
unfolding begun fresh idle block_of held_words no_plan modes_fresh_block flat_map
begun_stands b words h = record { block = rw (block_yes b h) refl; words = refl; states = refl }

all_stand : (calls : List Lending) (y : Lent) (x : Shift) → StandsFor y x → Narrow x → AllInC calls
    → StandsFor (after_lent y calls) (after x (map call_of calls)) × Narrow (after x (map call_of calls))
unfolding after_lent after
all_stand [] y x s n k = (s, n)
all_stand (call ∷ cs) y x s n k =
    all_stand cs (leaves_lent y call) (leaves x (call_of call)) (call_leaves y x s n call k.0) (leaves_narrow x n call k.0) k.1

stands : (b words : List ℕ) (calls : List Lending) → length b ≡ 172 → AreBytes words → AllInC calls
    → StandsFor (lent b words calls) (now b words calls) × Narrow (now b words calls)
stands b words calls h bytes k =
    all_stand calls (begun b words) (fresh (words_of words) []) (begun_stands b words h) (fresh_narrow (words_of words) (words_of_holds words bytes)) k

pub modes_through_c : (b words : List ℕ) (calls : List Lending) → ModesThroughC b words calls
modes_through_c b words calls h bytes k =
    let r = stands b words calls h bytes k in
    let y = lent b words calls in let x = now b words calls in
    (r.0, call_gives y x r.0 r.1, hold_answer_holds y x r.0 r.1)

-- ---- a step more

abbrev moved_by : Shift → Mode
moved_by x = stepped x.plans x.words x.mode

left_is : (x : Shift) → gives x Modes.step_lanes ≡ 0 → leaves x Modes.step_lanes ≡ in_mode x (moved_by x)
unfolding leaves Modes.moved
left_is x e = rw (eq-eqb (gives x Modes.step_lanes) 0 e) refl

after_more : (cs : List Call) (x : Shift) → gives (after x cs) Modes.step_lanes ≡ 0
    → after x (cs ++ Modes.step_lanes ∷ []) ≡ in_mode (after x cs) (moved_by (after x cs))
unfolding after
after_more [] x e = left_is x e
after_more (c ∷ cs) x e = after_more cs (leaves x c) e

seen_more : (cs : List Call) (x : Shift) (g : Log) → gives (after x cs) Modes.step_lanes ≡ 0
    → seen x g (cs ++ Modes.step_lanes ∷ []) ≡ noted (after x cs) (seen x g cs) Modes.step_lanes
unfolding after seen
seen_more [] x g e = rw (eq-eqb (gives x Modes.step_lanes) 0 e) refl
seen_more (c ∷ cs) x g e = seen_more cs (leaves x c) _ e

images_more : (cs : List Call) (x : Shift) (images : Images) → gives (after x cs) Modes.step_lanes ≡ 0
    → images_after x images (cs ++ Modes.step_lanes ∷ []) ≡ images_by (images_after x images cs) Modes.step_lanes
unfolding after images_after
images_more [] x images e = rw (eq-eqb (gives x Modes.step_lanes) 0 e) refl
images_more (c ∷ cs) x images e = images_more cs (leaves x c) _ e

due_wanted : (plans : List HeldPlan) (words : List ℕ) (m : Mode) → due plans words m ≡ true → m.wanted < places
unfolding due
due_wanted plans words m e = ltb-true m.wanted places (and_true (ltb m.wanted places) _ e).0

-- a plan runs after a step that gives 0
step_runs : (x : Shift) → gives x Modes.step_lanes ≡ 0 → (moved_by x).running ≢ places
unfolding stepped taken
step_runs x z = go (due x.plans x.words x.mode) refl
  where
    go : (d : Bool) → due x.plans x.words x.mode ≡ d
        → (cond d (record { running = x.mode.wanted; wanted = places; row = placed x.words (plan x.plans x.mode.wanted).first x.mode.row }) x.mode).running
        ≢ places
    go true e q = let l = due_wanted x.plans x.words x.mode e in omega arith
    go false e q = let w : ◌≡◌ {A = ℕ} 27 0 = sym (idle_gives x q) ∙ z in omega arith

in_calendar : (calls : List Lending) → AllInC calls → InCalendar (map call_of calls ++ Modes.step_lanes ∷ [])
unfolding call_of
in_calendar [] k = tt
in_calendar (hold image p ∷ cs) k = in_calendar cs k.1
in_calendar (start p c row ∷ cs) k = (k.0.1, in_calendar cs k.1)
in_calendar (request p ∷ cs) k = in_calendar cs k.1
in_calendar (step ∷ cs) k = in_calendar cs k.1

-- ---- what such a step shows

module _ (words : List ℕ) (cs : List Call) (k : InCalendar (cs ++ Modes.step_lanes ∷ [])) where
  abbrev none : Images
  none _ = []

  abbrev x : Shift
  x = after (fresh words []) cs

  abbrev g : Log
  g = seen (fresh words []) blank cs

  abbrev images : Images
  images = images_after (fresh words []) none cs

  -- in the bytes of the row that a shift has
  abbrev Shows : Shift → Type 0
  Shows z =
      let s = images z.mode.running in
      (l : ℕ) → l < lanes s → take 8 (drop (28 * l + 20) (row_bytes z.mode.row)) ≡ shown_bytes (shown_at s l (length g.ticks % cycle_ticks s))

  module _ (e : gives x Modes.step_lanes ≡ 0) where
    abbrev tick : Tick
    tick = record { place = (moved_by x).running; row = (moved_by x).row }

    holds : ShiftHolds (images_by images Modes.step_lanes) (in_mode x (moved_by x)) (noted x g Modes.step_lanes)
    holds =
        let a = after_more cs (fresh words []) e in
        let h = shift_keeps words [] none (cs ++ Modes.step_lanes ∷ []) k (λ q. step_runs x e (sym (ap (λ (z : Shift). z.mode.running) a ∙ (unfold in_mode in refl)) ∙ q)) in
        rw (← images_more cs (fresh words []) none e, ← a, ← seen_more cs (fresh words []) blank e) h

    step_shows : Shows (in_mode x (moved_by x))
    unfolding in_mode noted images_by record_shows tick_shows
    step_shows l b =
        let h = holds in
        let n = h.records in
        shown_at_holds (moved_by x).row l (omega arith)
        ∙ ap shown_bytes (ap (tick_shows l) (sym (new_tick g tick)) ∙ h.shown (length g.ticks) l (omega (arith, one_more g tick)) b
        ∙ ap (λ (t : Tick). shown_at (images t.place) l (length g.ticks % cycle_ticks (images (moved_by x).running))) (new_tick g tick))

    left_shows : Shows (leaves x Modes.step_lanes)
    left_shows = subst Shows (sym (left_is x e)) step_shows

pub shown_through_c : (b words : List ℕ) (calls : List Lending) → ShownThroughC b words calls
unfolding call_of after
shown_through_c b words calls h bytes k z l i =
    let r = stands b words calls h bytes k in
    let y = lent b words calls in
    let x = now b words calls in
    let e = sym (call_gives y x r.0 r.1 step tt) ∙ z in
    ap (λ (v : List ℕ). take 8 (drop (28 * l + 20) v)) (call_leaves y x r.0 r.1 step tt).states
    ∙ left_shows (words_of words) (map call_of calls) (in_calendar calls k) e l i

-- ---- room for a plan

pub room_to_hold : RoomToHold
unfolding Modes.holding Modes.words_end
room_to_hold x image p e l h w =
    let m = (tables_fit image e).1 in
    (hold_gives x image p (record { accepts = e; place = l; fits = omega arith; low = omega arith }), omega arith)
