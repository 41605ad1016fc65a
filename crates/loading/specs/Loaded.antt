-- Demand 3 through C, from the first call on: what rd_build_all or rd_build leaves, and rd_start, is what a run starts from; calls of
-- rd_step and rd_step_all follow, and demand 3 speaks of them too.
use Rattle.std.specs.Prelude.{ℕ, zero, suc, ◌+◌, ◌-◌, ◌*◌, ◌%◌, ◌^◌, ◌<◌, ◌≤◌, ◌≡◌, true, cond, length, get_or, take, drop, replicate, ltb}
use mathlib.Core.List.{List, ◌∷◌, ◌++◌, [], flat_map}
use Rattle.plan.specs.Image.{cycle_ticks, precision}
use Rattle.plan.specs.Dispatch.{Shown, lanes, shown_at, table_of, start_state, starts_at}
use Rattle.plan.specs.Boundary.{words_of, bytes_of, state_bytes, check_number, build_number, build_bytes, start_number, start_bytes, step_number, step_bytes, step_all_number, step_all_bytes}
use Rattle.plan.specs.Runs.{Call, all_lanes, one_lane, steps, after, moved_by, at_end, InBounds, Named, RunHolds}
use Rattle.plan.specs.declared.LaneState.{LaneState}
use Rattle.writing.specs.AllTables.{all_tables, all_number, all_bytes}

abbrev pub AreBytes : List ℕ → Type 0
AreBytes b = (i : ℕ) → get_or b i 0 < 256

-- the words ws and the row of records hold all lanes of plan s at the start of cycle c, lane l's table from word `first l` on
pub record Loaded (s ws row : List ℕ) (c : ℕ) (first : ℕ → ℕ) : Type 0 where
  pub plan : check_number s ≡ 0
  pub in_calendar : c < 2 ^ 64
  pub bytes : AreBytes ws
  pub records : length row ≡ 28 * lanes s
  pub narrow : (l : ℕ) → l < lanes s → first l < 2 ^ 32
  pub started : (l : ℕ) → l < lanes s → take 28 (drop (28 * l) row) ≡ state_bytes (start_state c (first l))
  pub built : (l : ℕ) → l < lanes s → take (4 * length (table_of s l)) (drop (4 * first l) ws) ≡ flat_map (bytes_of 4) (table_of s l)

-- a kind and a row, as a record holds them
abbrev pub shown_bytes : Shown → List ℕ
shown_bytes x = bytes_of 4 x.kind ++ bytes_of 4 x.row

-- the bytes of a row of states
abbrev pub row_bytes : List LaneState → List ℕ
row_bytes sts = flat_map state_bytes sts

module _ (ws : List ℕ) where
  -- a call through C over a row of bytes: of all records, or of the 28 bytes of one
  unfoldable pub gives_bytes : List ℕ → Call → ℕ
  gives_bytes row all_lanes = step_all_number ws row
  gives_bytes row (one_lane l) = step_number ws (take 28 (drop (28 * l) row))

  unfoldable pub leaves_bytes : List ℕ → Call → List ℕ
  leaves_bytes row all_lanes = step_all_bytes ws row
  leaves_bytes row (one_lane l) = take (28 * l) row ++ step_bytes ws (take 28 (drop (28 * l) row)) ++ drop (28 * l + 28) row

  unfoldable pub after_bytes : List ℕ → List Call → List ℕ
  after_bytes row [] = row
  after_bytes row (c ∷ cs) = after_bytes (leaves_bytes row c) cs

-- Calls through C are a run of the lanes' starts: demand 3 holds of it; after every part of the list the row's bytes are those of the
-- states that the run has then; each call gives what demand 3 says; and one that gives 0 leaves in bytes 20 to 27 of each record that it
-- steps the kind and row that the plan has at the tick that the lane leaves.
pub record BytesRun (s ws row : List ℕ) (c : ℕ) (first ahead : ℕ → ℕ) (delay : ℕ → ℕ → ℕ) (calls : List Call) : Type 0 where
  pub holds : RunHolds s (words_of ws) (starts_at first c (lanes s)) c ahead delay calls
  pub rows : (earlier later : List Call) → calls ≡ earlier ++ later
      → after_bytes ws row earlier ≡ row_bytes (after (words_of ws) (starts_at first c (lanes s)) earlier)
  pub number : (earlier : List Call) (call : Call) (later : List Call) → calls ≡ earlier ++ call ∷ later
      → gives_bytes ws (after_bytes ws row earlier) call ≡ cond (at_end s (words_of ws) (starts_at first c (lanes s)) c earlier call) 28 0
  pub number_all : (i : ℕ) (later : List Call) → calls ≡ replicate i all_lanes ++ all_lanes ∷ later
      → gives_bytes ws (after_bytes ws row (replicate i all_lanes)) all_lanes ≡ cond (ltb (c * cycle_ticks s + i) (2 ^ 64 * cycle_ticks s - 1)) 0 28
  pub shown : (earlier : List Call) (call : Call) (later : List Call) → calls ≡ earlier ++ call ∷ later
      → gives_bytes ws (after_bytes ws row earlier) call ≡ 0 → (l : ℕ) → l < lanes s → steps call l ≡ true
      → take 8 (drop (28 * l + 20) (after_bytes ws row (earlier ++ call ∷ [])))
      ≡ shown_bytes (shown_at s l (moved_by s (words_of ws) (starts_at first c (lanes s)) c earlier l % cycle_ticks s))

abbrev pub EveryRun : (s ws row : List ℕ) (c : ℕ) (first : ℕ → ℕ) → Type 0
EveryRun s ws row c first =
    (ahead : ℕ → ℕ) → ((n : ℕ) → ahead n ≤ precision s) → (delay : ℕ → ℕ → ℕ) → InBounds s delay → (calls : List Call) → Named s calls
    → BytesRun s ws row c first ahead delay calls

-- proved in proofs/Loads.antt
abbrev pub Demand3ThroughC : Type 0
Demand3ThroughC = (s ws row : List ℕ) (c : ℕ) (first : ℕ → ℕ) → Loaded s ws row c first → EveryRun s ws row c first

-- ---- from the calls that load; all that follows is proved in proofs/Calls.antt

-- the first words that the header tells a caller to take: 0, and after a table that begins at word f and has n entries, f + 2 + 3 n
unfoldable pub first_in : List ℕ → ℕ → ℕ
first_in ws zero = 0
first_in ws (suc l) = first_in ws l + 2 + 3 * get_or (words_of ws) (first_in ws l + 1) 0

-- each record is what an rd_start that gave 0 left, all in cycle c
abbrev pub AllStarted : (s row : List ℕ) (c : ℕ) (first : ℕ → ℕ) → Type 0
AllStarted s row c first =
    (length row ≡ 28 * lanes s)
    × ((l : ℕ) → l < lanes s → (was : List ℕ) × (start_number was ≡ 0) × (take 28 (drop (28 * l) row) ≡ start_bytes c (first l) was))

-- after an rd_build_all that gave 0: what it left and such records are loaded, so demand 3 holds of every list of calls
abbrev pub AllBuiltLoads : Type 0
AllBuiltLoads =
    (s b row : List ℕ) (c : ℕ) → AreBytes b → all_number s b ≡ 0 → c < 2 ^ 64 → AllStarted s row c (first_in (all_bytes s b))
    → Loaded s (all_bytes s b) row c (first_in (all_bytes s b))

abbrev pub Demand3AfterBuildAll : Type 0
Demand3AfterBuildAll =
    (s b row : List ℕ) (c : ℕ) → AreBytes b → all_number s b ≡ 0 → c < 2 ^ 64 → AllStarted s row c (first_in (all_bytes s b))
    → EveryRun s (all_bytes s b) row c (first_in (all_bytes s b))

-- the same where lane l's table is what an rd_build that gave 0 left, at any word `first l`
abbrev pub EachBuilt : (s ws : List ℕ) (first : ℕ → ℕ) → Type 0
EachBuilt s ws first =
    (l : ℕ) → l < lanes s → (first l < 2 ^ 32) × ((b : List ℕ) × (build_number s l b ≡ 0)
    × (take (4 * length (table_of s l)) (drop (4 * first l) ws) ≡ take (4 * length (table_of s l)) (build_bytes s l b)))

abbrev pub Demand3AfterBuilds : Type 0
Demand3AfterBuilds =
    (s ws row : List ℕ) (c : ℕ) (first : ℕ → ℕ) → AreBytes ws → check_number s ≡ 0 → EachBuilt s ws first → c < 2 ^ 64 → AllStarted s row c first
    → EveryRun s ws row c first

-- ---- in turn, over any bytes

-- the row after calls of rd_start for record 0, 1 and so on below n
unfoldable pub started_row : List ℕ → (ℕ → ℕ) → ℕ → ℕ → List ℕ
started_row row first c zero = row
started_row row first c (suc n) =
    let r = started_row row first c n in
    take (28 * n) r ++ start_bytes c (first n) (take 28 (drop (28 * n) r)) ++ drop (28 * n + 28) r

-- the words after calls of rd_build for lane 0, 1 and so on below n, each lent the bytes from its first word on
unfoldable pub built_words : List ℕ → List ℕ → ℕ → List ℕ
built_words s b zero = b
built_words s b (suc n) =
    let ws = built_words s b n in
    take (4 * first_in ws n) ws ++ build_bytes s n (drop (4 * first_in ws n) ws)

-- each of them gave 0
abbrev pub AllBuilt : (s b : List ℕ) → Type 0
AllBuilt s b = (l : ℕ) → l < lanes s → let ws = built_words s b l in build_number s l (drop (4 * first_in ws l) ws) ≡ 0

-- the premises can be met: of an accepted plan and bytes that suffice rd_build_all gives 0, and so does each rd_build in turn; calls of
-- rd_start over any row of 28 bytes for each lane leave started records
abbrev pub CanBuildAll : Type 0
CanBuildAll = (s b : List ℕ) → check_number s ≡ 0 → 4 * length (all_tables s) ≤ length b → all_number s b ≡ 0

abbrev pub CanBuild : Type 0
CanBuild = (s b : List ℕ) → check_number s ≡ 0 → 4 * length (all_tables s) ≤ length b → AllBuilt s b

-- and then each table is what an rd_build left
abbrev pub CanHold : Type 0
CanHold = (s b : List ℕ) → check_number s ≡ 0 → AllBuilt s b → let ws = built_words s b (lanes s) in EachBuilt s ws (first_in ws)

-- these suffice for every accepted plan: RD_LANE_WORDS and RD_ALL_LANES_WORDS of the header
abbrev pub RoomForLane : Type 0
RoomForLane = (s : List ℕ) (l : ℕ) (b : List ℕ) → check_number s ≡ 0 → l < lanes s → 4 * 27653 ≤ length b → build_number s l b ≡ 0

abbrev pub RoomForAll : Type 0
RoomForAll = (s b : List ℕ) → check_number s ≡ 0 → 4 * 31200 ≤ length b → (all_number s b ≡ 0) × AllBuilt s b

abbrev pub CanStart : Type 0
CanStart = (s row : List ℕ) (c : ℕ) (first : ℕ → ℕ) → length row ≡ 28 * lanes s → AllStarted s (started_row row first c (lanes s)) c first

-- lane by lane or all at once, the same bytes are left
abbrev pub SameWords : Type 0
SameWords = (s b : List ℕ) → check_number s ≡ 0 → AllBuilt s b → (all_number s b ≡ 0) × (built_words s b (lanes s) ≡ all_bytes s b)

-- So, of any image, any bytes for words and any row of 28 bytes for each lane, if rd_build_all gave 0 (or rd_check and each rd_build): the
-- words that it left, and the row after rd_start of each lane at the first words that the header names.
abbrev pub Demand3FromC : Type 0
Demand3FromC =
    (s b row : List ℕ) (c : ℕ) → AreBytes b → all_number s b ≡ 0 → length row ≡ 28 * lanes s → c < 2 ^ 64
    → let ws = all_bytes s b in EveryRun s ws (started_row row (first_in ws) c (lanes s)) c (first_in ws)

abbrev pub Demand3FromBuilds : Type 0
Demand3FromBuilds =
    (s b row : List ℕ) (c : ℕ) → AreBytes b → check_number s ≡ 0 → AllBuilt s b → length row ≡ 28 * lanes s → c < 2 ^ 64
    → let ws = built_words s b (lanes s) in EveryRun s ws (started_row row (first_in ws) c (lanes s)) c (first_in ws)
