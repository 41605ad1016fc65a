-- Demand 3 from the C calls is not empty: case B built, started and stepped through C, and the calendar's end.
use Prim.Native.Nat.{ℕ, zero, suc, ◌+◌, ◌-◌, ◌*◌, ◌%◌, ◌^◌, ◌≤◌, ◌<◌}
use mathlib.Core.Path.{◌≡◌, refl, ap, ◌∙◌}
use mathlib.Core.Bool.{cond}
use mathlib.Core.List.{List, ◌∷◌, ◌++◌, []}
use native.Mathlib.Omega.{arith}
use lib.ListN.{length, take, drop, replicate}
use lib.Dec.{ltb}
use Rattle.plan.specs.Image.{cycle_ticks, precision}
use Rattle.plan.specs.Dispatch.{lanes, shown_at, starts_at, dispatch}
use Rattle.plan.specs.Boundary.{words_of, bytes_of, answer_number, check_number}
use Rattle.plan.specs.Runs.{Call, all_lanes, one_lane, steps, after, at_end, InBounds, Kept, seen, moved_by}
use Rattle.plan.specs.Cases.{bytes, case_b}
use Rattle.writing.specs.AllTables.{all_tables, all_bytes}
use Rattle.loading.specs.Loaded.{AreBytes, shown_bytes, row_bytes, gives_bytes, after_bytes, first_in, started_row, built_words, EveryRun}
use Rattle.loading.proofs.Calls.{can_build_all, can_build, can_hold, can_start, same_words_holds, all_built_loads, demand_3_after_builds, demand_3_from_c, demand_3_from_builds}

-- any bytes
abbrev words : List ℕ
words = replicate 400 7

abbrev records : List ℕ
records = replicate 84 7

sevens : (n : ℕ) → AreBytes (replicate n 7)
sevens zero i = omega arith
sevens (suc n) zero = omega arith
sevens (suc n) (suc i) = sevens n i

takes : check_number (bytes case_b) ≡ 0
unfolding dispatch bytes case_b check_number answer_number
takes = refl

enough : 4 * length (all_tables (bytes case_b)) ≤ 400
unfolding dispatch bytes case_b all_tables
enough = omega arith

abbrev first : ℕ → ℕ
first = first_in (all_bytes (bytes case_b) words)

abbrev row : ℕ → List ℕ
row c = started_row records first c (lanes (bytes case_b))

three : length records ≡ 28 * lanes (bytes case_b)
unfolding dispatch bytes case_b
three = refl

runs : (c : ℕ) → c < 2 ^ 64 → EveryRun (bytes case_b) (all_bytes (bytes case_b) words) (row c) c first
runs c h = demand_3_from_c (bytes case_b) words records c (sevens 400) (can_build_all (bytes case_b) words takes enough) three h

-- Two cycles of all lanes from cycle 5, with the receiver's clock as far ahead as may be; then lane 1 alone, then all again.
ahead : ℕ → ℕ
ahead zero = 0
ahead (suc n) = 1

near : (n : ℕ) → ahead n ≤ precision (bytes case_b)
unfolding dispatch bytes case_b ahead
near zero = omega arith
near (suc n) = omega arith

-- and the cable slow in the first of them, fast then
delay : ℕ → ℕ → ℕ
delay f zero = 1
delay f (suc y) = 0

bounds : InBounds (bytes case_b) delay
unfolding dispatch bytes case_b delay
bounds zero zero h = (omega arith, omega arith)
bounds zero (suc y) h = (omega arith, omega arith)
bounds (suc f) y h = absurd (omega arith)

abbrev ws : List ℕ
ws = all_bytes (bytes case_b) words

-- all that demand 3 says of a run holds of both cycles
kept : Kept (bytes case_b) 5 ahead (seen (words_of ws) (starts_at first 5 3) (replicate 40 all_lanes)) delay 40
unfolding dispatch bytes case_b
kept = (runs 5 (omega arith) ahead near delay bounds (replicate 40 all_lanes) tt).holds.kept_all 40 refl

-- the row's bytes after the first 41 of 42 calls, and the number of the last of them
lane_1_alone : List Call
lane_1_alone = replicate 40 all_lanes ++ one_lane 1 ∷ []

named : (1 < lanes (bytes case_b)) × Unit {0}
unfolding dispatch bytes case_b
named = (omega arith, tt)

part : after_bytes ws (row 5) lane_1_alone ≡ row_bytes (after (words_of ws) (starts_at first 5 (lanes (bytes case_b))) lane_1_alone)
unfolding lane_1_alone
part = (runs 5 (omega arith) ahead near delay bounds (replicate 40 all_lanes ++ one_lane 1 ∷ all_lanes ∷ []) named).rows (replicate 40 all_lanes ++ one_lane 1 ∷ []) (all_lanes ∷ []) refl

alone : gives_bytes ws (after_bytes ws (row 5) (replicate 40 all_lanes)) (one_lane 1)
    ≡ cond (at_end (bytes case_b) (words_of ws) (starts_at first 5 (lanes (bytes case_b))) 5 (replicate 40 all_lanes) (one_lane 1)) 28 0
alone = (runs 5 (omega arith) ahead near delay bounds (replicate 40 all_lanes ++ one_lane 1 ∷ all_lanes ∷ []) named).number (replicate 40 all_lanes) (one_lane 1) (all_lanes ∷ []) refl

next : gives_bytes ws (after_bytes ws (row 5) (replicate 40 all_lanes)) all_lanes ≡ 0
unfolding dispatch bytes case_b
next = (runs 5 (omega arith) ahead near delay bounds (replicate 41 all_lanes) tt).number_all 40 [] refl

in_calendar : ◌≡◌ {A = ℕ} (cond (ltb (5 * cycle_ticks (bytes case_b) + 10) (2 ^ 64 * cycle_ticks (bytes case_b) - 1)) 0 28) 0
unfolding dispatch bytes case_b
in_calendar = refl

lane_1 : 1 < lanes (bytes case_b)
unfolding dispatch bytes case_b
lane_1 = omega arith

-- after the eleventh call lane 1's record shows the task switch of piece 1, in its bytes 20 to 27
ten_moved : moved_by (bytes case_b) (words_of ws) (starts_at first 5 (lanes (bytes case_b))) 5 (replicate 10 all_lanes) 1 ≡ 10
unfolding dispatch bytes case_b
ten_moved = let e = (runs 5 (omega arith) ahead near delay bounds (replicate 10 all_lanes) tt).holds.moved_all 10 refl 1 (omega arith) in omega (arith, e)

switches : shown_bytes (shown_at (bytes case_b) 1 (10 % cycle_ticks (bytes case_b))) ≡ 3 ∷ 0 ∷ 0 ∷ 0 ∷ 1 ∷ 0 ∷ 0 ∷ 0 ∷ []
unfolding dispatch bytes case_b bytes_of
switches = refl

eleventh : take 8 (drop (28 * 1 + 20) (after_bytes ws (row 5) (replicate 11 all_lanes))) ≡ 3 ∷ 0 ∷ 0 ∷ 0 ∷ 1 ∷ 0 ∷ 0 ∷ 0 ∷ []
unfolding steps
eleventh =
    let r = runs 5 (omega arith) ahead near delay bounds (replicate 41 all_lanes) tt in
    r.shown (replicate 10 all_lanes) all_lanes (replicate 30 all_lanes) refl (r.number_all 10 (replicate 30 all_lanes) refl ∙ in_calendar) 1 lane_1 refl
    ∙ ap (λ (n : ℕ). shown_bytes (shown_at (bytes case_b) 1 (n % cycle_ticks (bytes case_b)))) ten_moved
    ∙ switches

-- rd_build of each lane in turn does as well
in_turn : EveryRun (bytes case_b) (built_words (bytes case_b) words 3) (started_row records (first_in (built_words (bytes case_b) words 3)) 5 3) 5 (first_in (built_words (bytes case_b) words 3))
unfolding dispatch bytes case_b
in_turn = demand_3_from_builds (bytes case_b) words records 5 (sevens 400) takes (can_build (bytes case_b) words takes enough) three (omega arith)

-- and so do its tables for one who takes them to be what some rd_build left
any_build : EveryRun (bytes case_b) (built_words (bytes case_b) words 3) (started_row records (first_in (built_words (bytes case_b) words 3)) 5 3) 5 (first_in (built_words (bytes case_b) words 3))
unfolding dispatch bytes case_b
any_build =
    let b = can_build (bytes case_b) words takes enough in
    demand_3_after_builds (bytes case_b) (built_words (bytes case_b) words 3) _ 5 _
    (rw (same_words_holds (bytes case_b) words takes b).1 (all_built_loads (bytes case_b) words _ 5 (sevens 400) (can_build_all (bytes case_b) words takes enough) (omega arith) (can_start (bytes case_b) records 5 first three)).bytes)
    takes (can_hold (bytes case_b) words takes b) (omega arith) (can_start (bytes case_b) records 5 _ three)

-- in the calendar's last cycle the twentieth call of all lanes is refused with 28
last : gives_bytes ws (after_bytes ws (row (2 ^ 64 - 1)) (replicate 19 all_lanes)) all_lanes ≡ 28
unfolding dispatch bytes case_b
last = (runs (2 ^ 64 - 1) (omega arith) ahead near delay bounds (replicate 20 all_lanes) tt).number_all 19 [] refl
