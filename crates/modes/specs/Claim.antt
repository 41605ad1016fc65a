-- What calls of modes show (paper 02, request 14), and the claims over every list of them, proved in proofs/Holding.antt and Shifts.antt.
use Rattle.std.specs.Prelude.{ℕ, ◌+◌, ◌-◌, ◌*◌, ◌/◌, ◌%◌, ◌^◌, ◌≤◌, ◌<◌, min, ◌≡◌, ◌≢◌, true, false, cond, List, ◌∷◌, ◌++◌, [], map, length, get_or, take, drop, ltb, eqb}
use Rattle.plan.specs.declared.Table.TheVariants.{Tasks}
use Rattle.plan.specs.declared.LaneState.{LaneState}
use Rattle.plan.specs.Image.{cycle_ticks, precision, rows, task}
use Rattle.plan.specs.Search.{count}
use Rattle.plan.specs.Questions.{accepted, answer_of, jobs}
use Rattle.plan.specs.Dispatch.{Shown, show, lanes, shown_at, table_of, start_state}
use Rattle.plan.specs.Runs.{InBounds, Kept, works}
use Rattle.modes.specs.declared.HeldPlan.{HeldPlan}
use Rattle.modes.specs.Modes.{places, held_of, alike, plan, held, table_at, Shift, Call, hold_plan, start_plan, request_plan, step_lanes, fresh, words_end, holding, started, requested, stepped, gives, in_mode, leaves, after, changing}

-- ---- what calls show

-- a step that gives 0 shows: the place of the plan that runs, and the records it leaves
pub record Tick : Type 0 where
  pub place : ℕ
  pub row : List LaneState

-- since the last start: its cycle, and what the steps have shown
pub record Log : Type 0 where
  pub cycle : ℕ
  pub ticks : List Tick

unfoldable pub blank : Log
blank = record { cycle = 0; ticks = [] }

unfoldable pub noted : Shift → Log → Call → Log
noted x g (hold_plan image p) = blank
noted x g (start_plan p c records) = record { cycle = c; ticks = [] }
noted x g (request_plan p) = g
noted x g step_lanes =
    let m = stepped x.plans x.words x.mode in
    record { cycle = g.cycle; ticks = g.ticks ++ record { place = m.running; row = m.row } ∷ [] }

unfoldable pub seen : Shift → Log → List Call → Log
seen x g [] = g
seen x g (call ∷ cs) = seen (leaves x call) (cond (eqb (gives x call) 0) (noted x g call) g) cs

-- the image at each place: the last one that was held there
abbrev pub Images : Type 0
Images = ℕ → List ℕ

unfoldable pub images_by : Images → Call → Images
images_by images (hold_plan image p) q = cond (eqb q p) image (images q)
images_by images (start_plan p c records) q = images q
images_by images (request_plan p) q = images q
images_by images step_lanes q = images q

unfoldable pub images_after : Shift → Images → List Call → Images
images_after x images [] = images
images_after x images (call ∷ cs) = images_after (leaves x call) (cond (eqb (gives x call) 0) (images_by images call) images) cs

-- tick i since the start; the place of the plan that ran there
unfoldable pub tick_at : Log → ℕ → Tick
tick_at g i = get_or g.ticks i (record { place = places; row = [] })

abbrev pub place_at : Log → ℕ → ℕ
place_at g i = (tick_at g i).place

-- what lane l showed in a tick; in m ticks from tick k on, or as many of them as there are; in cycle y since the start, of h ticks each
unfoldable pub tick_shows : ℕ → Tick → Shown
tick_shows l t = show (get_or t.row l (start_state 0 0)).kind (get_or t.row l (start_state 0 0)).row

unfoldable pub shows_from : Log → ℕ → ℕ → ℕ → List Shown
shows_from g k m l = map (tick_shows l) (take m (drop k g.ticks))

abbrev pub cycle_shows : Log → ℕ → ℕ → ℕ → List Shown
cycle_shows g h y = shows_from g (y * h) h

-- the first tick 0 of cycles of h ticks that comes at tick n or later
unfoldable pub next_start : ℕ → ℕ → ℕ
next_start h n = (n + (h - 1)) / h * h

-- ---- what places hold

-- at first no place holds a plan
abbrev pub NoneHeld : Type 0
NoneHeld = (words : List ℕ) (row : List LaneState) (p : ℕ) → held (fresh words row).plans p ≡ false

module _ (images : Images) (plans : List HeldPlan) (words : List ℕ) where
  -- a place that holds a plan has an accepted image, what is kept is that image's, and its lanes' tables lie where they are looked for
  pub record PlaceHolds (p : ℕ) : Type 0 where
    pub accepts : answer_of (images p) ≡ accepted
    pub kept : plan plans p ≡ held_of (images p) (plan plans p).first
    pub tables : (l : ℕ) → l < lanes (images p)
        → take (length (table_of (images p) l)) (drop (table_at plans words p l) words) ≡ table_of (images p) l

  abbrev pub AllHeld : Type 0
  AllHeld = (p : ℕ) → held plans p ≡ true → PlaceHolds p

-- ---- runs of shifts

-- starts name cycles of the calendar
abbrev pub InCalendar : List Call → Type 0
InCalendar [] = Unit {0}
InCalendar (hold_plan image p ∷ cs) = InCalendar cs
InCalendar (start_plan p c records ∷ cs) = (c < 2 ^ 64) × InCalendar cs
InCalendar (request_plan p ∷ cs) = InCalendar cs
InCalendar (step_lanes ∷ cs) = InCalendar cs

-- x is what calls have left, g what they have shown since the last start
module _ (images : Images) (x : Shift) (g : Log) where
  -- the running plan's H and lanes, and how many ticks were shown
  abbrev pub run_ticks : ℕ
  run_ticks = cycle_ticks (images x.mode.running)

  abbrev pub run_lanes : ℕ
  run_lanes = lanes (images x.mode.running)

  abbrev pub shown_ticks : ℕ
  shown_ticks = length g.ticks

  abbrev pub like_running : ℕ → Type 0
  like_running p = (held x.plans p ≡ true) × (alike (plan x.plans p) (plan x.plans x.mode.running) ≡ true)

  pub record ShiftHolds : Type 0 where
    -- a plan that is held runs; one that is held and like it is requested, or none
    pub runs : held x.plans x.mode.running ≡ true
    pub wants : x.mode.wanted ≢ places → like_running x.mode.wanted
    -- a step gives 0 before the last tick of the calendar, and 28 there
    pub number : gives x step_lanes ≡ cond (ltb (g.cycle * run_ticks + shown_ticks) (2 ^ 64 * run_ticks - 1)) 0 28
    -- all lanes stand at one tick of one cycle
    pub records : length x.mode.row ≡ run_lanes
    pub tick : (l : ℕ) → l < run_lanes → (get_or x.mode.row l (start_state 0 0)).tick ≡ shown_ticks % run_ticks
    pub cycle : (l : ℕ) → l < run_lanes → (get_or x.mode.row l (start_state 0 0)).cycle ≡ g.cycle + shown_ticks / run_ticks
    -- a held plan, like the one that runs, showed each tick: the same in all ticks of a cycle
    pub plan_at : (i : ℕ) → i < shown_ticks → like_running (place_at g i)
    pub one_plan : (i : ℕ) → i < shown_ticks → place_at g i ≡ place_at g (i / run_ticks * run_ticks)
    -- on every lane it showed, tick for tick, what its table has there
    pub shown : (i l : ℕ) → i < shown_ticks → l < run_lanes → tick_shows l (tick_at g i) ≡ shown_at (images (place_at g i)) l (i % run_ticks)
    -- in each cycle, completed or not, all holds that demand 3 says of a run of that plan, for clocks within that plan's P and delays within
    -- its links' bounds: places, budgets, messages, latencies, chains, queues, holds of buffers
    pub kept : (y : ℕ) → y * run_ticks < shown_ticks
        → let s = images (place_at g (y * run_ticks)) in
        (ahead : ℕ → ℕ) → ((i : ℕ) → ahead i ≤ precision s) → (delay : ℕ → ℕ → ℕ) → InBounds s delay
        → Kept s (g.cycle + y) ahead (cycle_shows g run_ticks y) delay (min run_ticks (shown_ticks - y * run_ticks))
    -- the same of any m ticks from a cycle's tick 0 on, or as many of them as were shown, if one plan showed them all: of the whole run up to
    -- the first change, and from one change to the next
    pub kept_on : (y m : ℕ) → y * run_ticks < shown_ticks
        → ((i : ℕ) → i < min m (shown_ticks - y * run_ticks) → place_at g (y * run_ticks + i) ≡ place_at g (y * run_ticks))
        → let s = images (place_at g (y * run_ticks)) in
        (ahead : ℕ → ℕ) → ((i : ℕ) → ahead i ≤ precision s) → (delay : ℕ → ℕ → ℕ) → InBounds s delay
        → Kept s (g.cycle + y) ahead (shows_from g (y * run_ticks) m) delay (min m (shown_ticks - y * run_ticks))
    -- so every job of a completed cycle has worked exactly its budget by that cycle's plan
    pub budget : (y t k : ℕ) → (y + 1) * run_ticks ≤ shown_ticks
        → let s = images (place_at g (y * run_ticks)) in
        t < rows s Tasks → k < jobs s t → count run_ticks (works s (g.cycle + y) (λ _. 0) (cycle_shows g run_ticks y) t k) ≡ (task s t).budget

  -- what is shown after a request for p and later calls
  abbrev pub shown_after : ℕ → List Call → Log
  shown_after p later = seen (in_mode x (requested x.plans x.words x.mode p)) g later

  -- A request for p that gave 0 is taken at the next tick 0, after at most H − 1 steps; one made after tick 0 of the last cycle never is.
  -- `later` are calls after it of which no other than steps gives 0.
  pub record RequestTaken (p : ℕ) (later : List Call) : Type 0 where
    pub soon : (shown_ticks ≤ next_start run_ticks shown_ticks) × (next_start run_ticks shown_ticks ≤ shown_ticks + (run_ticks - 1))
    pub plans_then : (i : ℕ) → shown_ticks ≤ i → i < length (shown_after p later).ticks
        → place_at (shown_after p later) i ≡ cond (ltb i (next_start run_ticks shown_ticks)) x.mode.running p
    pub runs_then : (after (in_mode x (requested x.plans x.words x.mode p)) later).mode.running
        ≡ cond (ltb (next_start run_ticks shown_ticks) (length (shown_after p later).ticks)) p x.mode.running
    pub never : g.cycle + shown_ticks / run_ticks ≡ 2 ^ 64 - 1 → shown_ticks % run_ticks ≢ 0
        → (i : ℕ) → shown_ticks ≤ i → i < length (shown_after p later).ticks → place_at (shown_after p later) i ≡ x.mode.running

-- of these calls none but steps gives 0
abbrev pub Quiet : Shift → List Call → Type 0
Quiet x [] = Unit {0}
Quiet x (hold_plan image p ∷ cs) = (gives x (hold_plan image p) ≢ 0) × Quiet x cs
Quiet x (start_plan p c records ∷ cs) = (gives x (start_plan p c records) ≢ 0) × Quiet x cs
Quiet x (request_plan p ∷ cs) = (gives x (request_plan p) ≢ 0) × Quiet x cs
Quiet x (step_lanes ∷ cs) = Quiet (leaves x step_lanes) cs

-- any words and any row, and any list of calls, refused ones among them
module _ (words : List ℕ) (row : List LaneState) (images : Images) (calls : List Call) where
  abbrev pub now : Shift
  now = after (fresh words row) calls

  abbrev pub told : Log
  told = seen (fresh words row) blank calls

  abbrev pub kept : Images
  kept = images_after (fresh words row) images calls

  -- every place that holds a plan holds the last image that was accepted for it, with its tables
  abbrev pub PlansHeld : Type 0
  PlansHeld = AllHeld kept now.plans now.words

  -- while a plan runs, all of the above
  abbrev pub ShiftKeeps : Type 0
  ShiftKeeps = InCalendar calls → now.mode.running ≢ places → ShiftHolds kept now told

  abbrev pub RequestsTaken : Type 0
  RequestsTaken =
      InCalendar calls → (p : ℕ) → gives now (request_plan p) ≡ 0 → (later : List Call)
      → Quiet (in_mode now (requested now.plans now.words now.mode p)) later → RequestTaken kept now told p later

  -- a plan that is held can be started, over one record for each lane: its tables lie in the words
  abbrev pub StartsGive : Type 0
  StartsGive =
      (p c records : ℕ) → held now.plans p ≡ true → gives now (start_plan p c records) ≡ cond (eqb records (lanes (kept p))) 0 27

  -- a plan that was started is shown in every tick, and runs, until another call than a step gives 0
  abbrev pub StartsRun : Type 0
  StartsRun =
      (p c records : ℕ) (later : List Call) → gives now (start_plan p c records) ≡ 0
      → let x = in_mode now (started now.plans now.words p c) in
      Quiet x later → let g = seen x (record { cycle = c; ticks = [] }) later in
      ((after x later).mode.running ≡ p) × ((i : ℕ) → i < length g.ticks → place_at g i ≡ p)

  -- an accepted image is held at every place while the words that are left suffice
  abbrev pub HoldsGive : Type 0
  HoldsGive =
      (image : List ℕ) (p : ℕ) → answer_of image ≡ accepted → p < places
      → words_end now image p ≤ length now.words → words_end now image p < 2 ^ 32 → gives now (hold_plan image p) ≡ 0

  -- a plan held anew ends the run: it is held, all other places hold what they held, and steps give 27 until a start gives 0
  pub record HoldEnds (image : List ℕ) (p : ℕ) : Type 0 where
    pub holds : held (holding now image p).plans p ≡ true
    pub others : (q : ℕ) → q ≢ p → plan (holding now image p).plans q ≡ plan now.plans q
    pub stopped : (later : List Call) → Quiet (holding now image p) later → gives (after (holding now image p) later) step_lanes ≡ 27

  abbrev pub HoldsEnd : Type 0
  HoldsEnd = (image : List ℕ) (p : ℕ) → gives now (hold_plan image p) ≡ 0 → HoldEnds image p

-- All of the above, for a proof by computation: `unfolding telling` opens it.
unfoldable pub telling : Unit {0}
unfolding changing blank noted seen images_by images_after tick_at tick_shows shows_from next_start
telling = tt
