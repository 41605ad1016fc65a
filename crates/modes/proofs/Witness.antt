-- That the claims are not empty: lists of calls that meet their premises, and what the claims say there.
use Prim.Native.Nat.{ℕ, ◌+◌, ◌-◌, ◌^◌, ◌<◌}
use mathlib.Core.Path.{◌≡◌, refl}
use mathlib.Core.Bool.{true, false}
use mathlib.Core.List.{List, ◌∷◌, ◌++◌, []}
use native.Mathlib.Omega.{arith}
use lib.ListN.{length, take, drop, set, replicate}
use Rattle.plan.specs.Dispatch.{show, table_of}
use Rattle.plan.specs.Search.{count}
use Rattle.plan.specs.Runs.{Kept, works}
use Rattle.plan.specs.Cases.{bytes, case_a, case_b}
use Rattle.plan.proofs.Asking.{between}
use Rattle.modes.specs.declared.HeldPlan.{HeldPlan}
use Rattle.modes.specs.Modes.{places, alike, Shift, Call, fresh, start_number, step_number, hold_plan, start_plan, request_plan, step_lanes, holding, gives, after}
use Rattle.modes.specs.Claim.{Images, Log, tick_at, place_at, tick_shows, shows_from, cycle_shows, next_start, ShiftHolds, RequestTaken, HoldEnds, shown_after, now, told, kept, telling}
use Rattle.modes.specs.Cases.{later_a, both}
use Rattle.modes.proofs.Shifts.{plans_held, shift_keeps, requests_taken, starts_give, starts_run, holds_end}

abbrev words : List ℕ
words = replicate 58 0

abbrev none : Images
none p = []

-- ---- a run with a change

-- A at place 0, the other at place 3; A is started in cycle 5, the other requested after 4 ticks, and 14 ticks are shown
changed : List Call
changed = both ++ start_plan 0 5 1 ∷ replicate 4 step_lanes ++ request_plan 3 ∷ replicate 10 step_lanes

abbrev x : Shift
x = now words [] none changed

abbrev g : Log
g = told words [] none changed

changes : ShiftHolds (kept words [] none changed) x g
unfolding telling bytes case_a later_a both changed
changes = shift_keeps words [] none changed (omega arith, tt) (λ e. omega arith)

-- ten ticks more
abbrev longer : Log
longer = told words [] none (changed ++ replicate 10 step_lanes)

longer_holds : ShiftHolds (kept words [] none (changed ++ replicate 10 step_lanes)) (now words [] none (changed ++ replicate 10 step_lanes)) longer
unfolding telling bytes case_a later_a both changed
longer_holds = shift_keeps words [] none (changed ++ replicate 10 step_lanes) (omega arith, tt) (λ e. omega arith)

one_plan : (i : ℕ) → i < 14 → place_at longer (10 + i) ≡ place_at longer 10
unfolding telling bytes case_a later_a both changed
one_plan i l = between (λ i. place_at longer (10 + i) ≡ 3) 0 14 (refl, (refl, (refl, (refl, (refl, (refl, (refl, (refl, (refl, (refl, (refl, (refl, (refl, (refl, tt)))))))))))))) i (omega arith) l

-- A in the first cycle, the other in the second
first_plan : place_at g 9 ≡ 0
unfolding telling bytes case_a later_a both changed
first_plan = refl

second_plan : place_at g 10 ≡ 3
unfolding telling bytes case_a later_a both changed
second_plan = refl

-- what the second cycle has shown
second_shown : cycle_shows g 10 1 0 ≡ show 1 0 ∷ show 1 0 ∷ show 2 0 ∷ show 3 0 ∷ []
unfolding telling bytes case_a later_a both changed
second_shown = refl

-- the first cycle is completed: A's job has worked its 3 ticks in it
worked : count 10 (works (bytes case_a) 5 (λ _. 0) (cycle_shows g 10 0) 0 0) ≡ 3
unfolding telling bytes case_a later_a both changed
worked = changes.budget 0 0 0 (omega arith) (omega arith) (omega arith)

-- in the second, 4 ticks so far, demand 3 is kept by the other plan
second_cycle : Kept (bytes later_a) 6 (λ _. 0) (cycle_shows g 10 1) (λ _ _. 0) 4
unfolding telling bytes case_a later_a both changed
second_cycle = changes.kept 1 (omega arith) (λ _. 0) (λ _. omega arith) (λ _ _. 0) (λ f y h. absurd (omega arith))

-- from the change on, as long as no other is requested: demand 3 of the other plan over 14 ticks, the next cycle's among them
goes_on : Kept (bytes later_a) 6 (λ _. 0) (shows_from longer 10 14) (λ _ _. 0) 14
unfolding telling bytes case_a later_a both changed
goes_on = longer_holds.kept_on 1 14 (omega arith) one_plan (λ _. 0) (λ _. omega arith) (λ _ _. 0) (λ f y h. absurd (omega arith))

-- ---- a request, with refused calls after it

asked : List Call
asked = both ++ start_plan 0 5 1 ∷ replicate 4 step_lanes

-- no plan is at place 1; the row has not two records; there is no place 8
later : List Call
later = request_plan 1 ∷ step_lanes ∷ start_plan 0 5 2 ∷ hold_plan (bytes case_a) 8 ∷ replicate 8 step_lanes

taken : RequestTaken (kept words [] none asked) (now words [] none asked) (told words [] none asked) 3 later
unfolding telling bytes case_a later_a both asked later
taken = requests_taken words [] none asked (omega arith, tt) 3 refl later (λ e. omega arith, (λ e. omega arith, (λ e. omega arith, tt)))

abbrev shown : Log
shown = shown_after (kept words [] none asked) (now words [] none asked) (told words [] none asked) 3 later

-- A up to tick 9, the other from the next tick 0 on
before_it : place_at shown 9 ≡ 0
unfolding telling bytes case_a later_a both asked later
before_it = taken.plans_then 9 (omega arith) (omega arith)

from_it : place_at shown 12 ≡ 3
unfolding telling bytes case_a later_a both asked later
from_it = taken.plans_then 12 (omega arith) (omega arith)

-- the tick after which it is taken, of a request in a cycle, and of one where tick 0 is next
next_starts : (next_start 10 4 ≡ 10) × (next_start 10 10 ≡ 10) × (next_start 10 11 ≡ 20)
unfolding telling
next_starts = (refl, refl, refl)

-- ---- a request in the calendar's last cycle

last : List Call
last = both ++ start_plan 0 (2 ^ 64 - 1) 1 ∷ step_lanes ∷ []

-- ten steps, of which the tenth gives 28
never : place_at (shown_after (kept words [] none last) (now words [] none last) (told words [] none last) 3 (replicate 10 step_lanes)) 8 ≡ 0
unfolding telling bytes case_a later_a both last
never = (requests_taken words [] none last (omega arith, tt) 3 refl (replicate 10 step_lanes) tt).never refl (λ e. omega arith) 8 (omega arith) (omega arith)

-- ---- a plan held anew while one runs

-- the other's tables lie behind A's
there : take (length (table_of (bytes later_a) 0)) (drop 14 (now words [] none asked).words) ≡ table_of (bytes later_a) 0
unfolding telling bytes case_a later_a both asked
there = (plans_held words [] none asked 3 refl).tables 0 (omega arith)

ends : HoldEnds words [] none asked (bytes case_a) 3
unfolding telling bytes case_a later_a both asked
ends = holds_end words [] none asked (bytes case_a) 3 refl

-- steps give 27, also after refused calls
stopped : gives (after (holding (now words [] none asked) (bytes case_a) 3) (request_plan 0 ∷ step_lanes ∷ start_plan 0 5 2 ∷ [])) step_lanes ≡ 27
unfolding telling bytes case_a later_a both asked
stopped = ends.stopped (request_plan 0 ∷ step_lanes ∷ start_plan 0 5 2 ∷ []) (λ e. omega arith, (λ e. omega arith, tt))

-- ---- a start while another plan runs, and while a request waits

can_start : gives (now words [] none asked) (start_plan 3 9 1) ≡ 0
unfolding telling bytes case_a later_a both asked
can_start = starts_give words [] none asked 3 9 1 refl

waiting : List Call
waiting = asked ++ request_plan 3 ∷ []

-- A runs on past the next tick 0
runs_on_holds : place_at (told words [] none (waiting ++ start_plan 0 7 1 ∷ replicate 12 step_lanes)) 11 ≡ 0
unfolding telling bytes case_a later_a both asked waiting
runs_on_holds = (starts_run words [] none waiting 0 7 1 (replicate 12 step_lanes) refl tt).1 11 (omega arith)

-- ---- plans of three lanes

-- B a tick later: pieces and frame
later_b : List ℕ
later_b = set (set (set case_b 26 3) 30 11) 47 7

-- B at place 0, the other at place 1, requested after a tick; 31 ticks, of 20 in a cycle
lanes_b : List Call
lanes_b = hold_plan (bytes case_b) 0 ∷ hold_plan (bytes later_b) 1 ∷ start_plan 0 5 3 ∷ step_lanes ∷ request_plan 1 ∷ replicate 30 step_lanes

abbrev b : Log
b = told (replicate 99 0) [] none lanes_b

changes_b : ShiftHolds (kept (replicate 99 0) [] none lanes_b) (now (replicate 99 0) [] none lanes_b) b
unfolding telling bytes case_b later_b lanes_b
changes_b = shift_keeps (replicate 99 0) [] none lanes_b (omega arith, tt) (λ e. omega arith)

-- the job starts at tick 3, not 2; the receiver at 11, not 10; the frame at 7, not 6
on_lanes : (tick_shows 0 (tick_at b 22) ≡ show 2 0) × (tick_shows 1 (tick_at b 30) ≡ show 2 1) × (tick_shows 2 (tick_at b 26) ≡ show 0 0)
unfolding telling bytes case_b later_b lanes_b
on_lanes = (refl, refl, refl)

-- as the claim says
by_the_claim : tick_shows 2 (tick_at b 26) ≡ show 0 0
unfolding telling bytes case_b later_b lanes_b
by_the_claim = changes_b.shown 26 2 (omega arith) (omega arith)

-- ---- what calls ask

-- words that just suffice, and one less; the highest place
suffice : gives (fresh (replicate 14 0) []) (hold_plan (bytes case_a) 7) ≡ 0
unfolding telling bytes case_a
suffice = refl

too_few : gives (fresh (replicate 13 0) []) (hold_plan (bytes case_a) 7) ≡ 26
unfolding telling bytes case_a
too_few = refl

-- a refused hold leaves the place its image
image_stays : kept words [] none (both ++ hold_plan [] 0 ∷ []) 0 ≡ bytes case_a
unfolding telling bytes case_a later_a both
image_stays = refl

-- 44 while a plan runs
unlike : gives (now (replicate 99 0) [] none (hold_plan (bytes case_a) 0 ∷ hold_plan (bytes case_b) 1 ∷ start_plan 0 5 1 ∷ [])) (request_plan 1) ≡ 44
unfolding telling bytes case_a case_b
unlike = refl

-- each of three numbers counts
a_plan : ℕ → ℕ → ℕ → HeldPlan
a_plan h c l = record { ticks = h; cores = c; links = l; first = 0; end = 0 }

three_numbers : (alike (a_plan 10 2 1) (a_plan 20 2 1) ≡ false) × (alike (a_plan 10 2 1) (a_plan 10 1 1) ≡ false)
    × (alike (a_plan 10 2 1) (a_plan 10 2 0) ≡ false) × (alike (a_plan 10 2 1) (a_plan 10 2 1) ≡ true)
unfolding telling a_plan
three_numbers = (refl, refl, refl, refl)

-- Of words and rows that are no longer those of the holds and the start: a start over words up to the plan's end, and one less; a step over another number of
-- records.
held_plans : List HeldPlan
held_plans = (now words [] none both).plans

all_words : start_number held_plans (replicate 31 0) 3 1 ≡ 0
unfolding telling bytes case_a later_a both held_plans
all_words = refl

less_words : start_number held_plans (replicate 30 0) 3 1 ≡ 27
unfolding telling bytes case_a later_a both held_plans
less_words = refl

no_records : step_number held_plans words (record { running = 0; wanted = places; row = [] }) ≡ 27
unfolding telling bytes case_a later_a both held_plans
no_records = refl
