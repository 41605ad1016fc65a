-- Cases of joined plans (paper 02, request 10): tables for answers and joined images, row limits, the lent bytes, and work, each
-- proved by one computation. What is expected is written out; layouts are this file's own.
use Rattle.std.specs.Prelude.{ℕ, zero, suc, ◌+◌, ◌*◌, ◌≡◌, refl, Bool, true, false, cond, length, set, replicate, eqb}
use mathlib.Core.List.{List, ◌∷◌, ◌++◌, map, flat_map, []}
use Rattle.plan.specs.declared.Table.{Table}
use Rattle.plan.specs.declared.Table.TheVariants.{Cores, Vcpus, Tasks, Windows, Pieces, Links, Streams, Frames, Buffers, Chains}
use Rattle.plan.specs.declared.Answer.{Answer}
use Rattle.plan.specs.Image.{tables, shape, cycle_ticks}
use Rattle.plan.specs.Questions.{accepted}
use Rattle.plan.specs.Dispatch.{dispatch}
use Rattle.joins.specs.Joins.{rows_fit, join_fits, joined_image, join_answer, join_number, join_length, join_bytes, joining}
use Rattle.joins.specs.Claim.{works_at}
use Rattle.plan.specs.Cases.{bytes, case_a, case_b, case_c}

answer : ℕ → ℕ → ℕ → Answer
answer q t r = record { number = q; table = t; row = r }

-- A with another task: its period 10, its budget and deadline, its piece's start and length
unfoldable other : ℕ → ℕ → ℕ → ℕ → List ℕ
other budget deadline start length =
    0 ∷ 1 ∷ 2  -- core
    ∷ 0  -- VCPU
    ∷ 0 ∷ 1 ∷ 10 ∷ budget ∷ deadline  -- task
    ∷ 0 ∷ 0 ∷ 10  -- window
    ∷ 0 ∷ 0 ∷ start ∷ length  -- piece
    ∷ 10 ∷ 0  -- H, P
    ∷ 0 ∷ 1 ∷ 12 ∷ 1 ∷ 16 ∷ 1 ∷ 36 ∷ 1 ∷ 48 ∷ 1  -- offsets and counts
    ∷ 64 ∷ 0 ∷ 64 ∷ 0 ∷ 64 ∷ 0 ∷ 64 ∷ 0 ∷ 64 ∷ 0
    ∷ 64 ∷ []  -- the last word

-- A and a second task, whose piece takes two ticks
unfoldable both_tasks : ℕ → List ℕ
both_tasks start =
    0 ∷ 1 ∷ 2  -- core
    ∷ 0  -- VCPU
    ∷ 0 ∷ 1 ∷ 10 ∷ 3 ∷ 8 ∷ 0 ∷ 1 ∷ 10 ∷ 1 ∷ 10  -- tasks
    ∷ 0 ∷ 0 ∷ 10  -- window
    ∷ 0 ∷ 0 ∷ 2 ∷ 4 ∷ 1 ∷ 0 ∷ start ∷ 2  -- pieces
    ∷ 10 ∷ 0  -- H, P
    ∷ 0 ∷ 1 ∷ 12 ∷ 1 ∷ 16 ∷ 2 ∷ 56 ∷ 1 ∷ 68 ∷ 2  -- offsets and counts
    ∷ 100 ∷ 0 ∷ 100 ∷ 0 ∷ 100 ∷ 0 ∷ 100 ∷ 0 ∷ 100 ∷ 0
    ∷ 100 ∷ []  -- the last word

-- B with its pieces and its frame four ticks later, in queue 5, and a link's delay
unfoldable later_b : ℕ → List ℕ
later_b delay =
    0 ∷ 1 ∷ 2 ∷ 1 ∷ 1 ∷ 2  -- cores
    ∷ 0 ∷ 1  -- VCPUs
    ∷ 0 ∷ 3 ∷ 20 ∷ 3 ∷ 20 ∷ 1 ∷ 3 ∷ 20 ∷ 3 ∷ 20  -- tasks
    ∷ 0 ∷ 0 ∷ 20 ∷ 1 ∷ 0 ∷ 20  -- windows
    ∷ 0 ∷ 0 ∷ 6 ∷ 4 ∷ 1 ∷ 0 ∷ 14 ∷ 4  -- pieces
    ∷ 0 ∷ 1 ∷ delay ∷ 352 ∷ 0  -- link
    ∷ 0 ∷ 1 ∷ 13 ∷ 1 ∷ 46 ∷ 5  -- stream
    ∷ 0 ∷ 0 ∷ 0 ∷ 0 ∷ 10  -- frame
    ∷ 20 ∷ 1  -- H, P
    ∷ 0 ∷ 2 ∷ 24 ∷ 2 ∷ 32 ∷ 2 ∷ 72 ∷ 2 ∷ 96 ∷ 2  -- offsets and counts
    ∷ 128 ∷ 1 ∷ 148 ∷ 1 ∷ 172 ∷ 1 ∷ 192 ∷ 0 ∷ 192 ∷ 0
    ∷ 192 ∷ []  -- the last word

-- B after it: B's pieces and frame come first again, and B's stream is number 1
unfoldable both_b : List ℕ
both_b =
    0 ∷ 1 ∷ 2 ∷ 1 ∷ 1 ∷ 2  -- cores
    ∷ 0 ∷ 1  -- VCPUs
    ∷ 0 ∷ 3 ∷ 20 ∷ 3 ∷ 20 ∷ 1 ∷ 3 ∷ 20 ∷ 3 ∷ 20 ∷ 0 ∷ 3 ∷ 20 ∷ 3 ∷ 20 ∷ 1 ∷ 3 ∷ 20 ∷ 3 ∷ 20  -- tasks
    ∷ 0 ∷ 0 ∷ 20 ∷ 1 ∷ 0 ∷ 20  -- windows
    ∷ 2 ∷ 0 ∷ 2 ∷ 4 ∷ 0 ∷ 0 ∷ 6 ∷ 4 ∷ 3 ∷ 0 ∷ 10 ∷ 4 ∷ 1 ∷ 0 ∷ 14 ∷ 4  -- pieces
    ∷ 0 ∷ 1 ∷ 1 ∷ 352 ∷ 0  -- link
    ∷ 0 ∷ 1 ∷ 13 ∷ 1 ∷ 46 ∷ 5 ∷ 2 ∷ 3 ∷ 13 ∷ 1 ∷ 46 ∷ 0  -- streams
    ∷ 1 ∷ 0 ∷ 0 ∷ 0 ∷ 6 ∷ 0 ∷ 0 ∷ 0 ∷ 0 ∷ 10  -- frames
    ∷ 20 ∷ 1  -- H, P
    ∷ 0 ∷ 2 ∷ 24 ∷ 2 ∷ 32 ∷ 4 ∷ 112 ∷ 2 ∷ 136 ∷ 4  -- offsets and counts
    ∷ 200 ∷ 1 ∷ 220 ∷ 2 ∷ 268 ∷ 2 ∷ 308 ∷ 0 ∷ 308 ∷ 0
    ∷ 308 ∷ []  -- the last word

-- ---- plans by their tables: how many rows, and their words

unfoldable places : ℕ → List (ℕ × List ℕ) → List ℕ
places at [] = at ∷ []
places at (t ∷ ts) = at ∷ t.0 ∷ places (at + 4 * length t.1) ts

unfoldable plan : ℕ → ℕ → List (ℕ × List ℕ) → List ℕ
plan h p ts = flat_map (λ t. t.1) ts ++ (h ∷ p ∷ places 0 ts)

unfoldable none : ℕ × List ℕ
none = (0, [])

-- what 35 compares: two cores, two VCPUs, a window and a link; nothing else
unfoldable cores : ℕ × List ℕ
cores = (2, 0 ∷ 1 ∷ 2 ∷ 1 ∷ 1 ∷ 2 ∷ [])

unfoldable vcpus : ℕ × List ℕ
vcpus = (2, 0 ∷ 1 ∷ [])

unfoldable windows : ℕ × List ℕ
windows = (1, 0 ∷ 0 ∷ 9 ∷ [])

unfoldable links : ℕ × List ℕ
links = (1, 0 ∷ 1 ∷ 1 ∷ 100 ∷ 0 ∷ [])

unfoldable around : ℕ × List ℕ → ℕ × List ℕ → ℕ × List ℕ → ℕ × List ℕ → List ℕ
around c v w l = plan 10 0 (c ∷ v ∷ none ∷ w ∷ none ∷ l ∷ none ∷ none ∷ none ∷ none ∷ [])

unfoldable base : List ℕ
base = around cores vcpus windows links

-- base with a word changed, and with a row more; each is accepted
unfoldable others : List (List ℕ)
others =
    set base 16 11  -- H
    ∷ set base 17 1  -- P
    ∷ set base 3 2 ∷ set base 4 2 ∷ set base 5 1  -- a core
    ∷ set base 7 0  -- a VCPU
    ∷ set base 8 1 ∷ set base 9 1 ∷ set base 10 8  -- the window
    ∷ set base 11 2 ∷ set base 12 2 ∷ set base 13 2 ∷ set base 14 99 ∷ set base 15 1  -- the link
    ∷ []

unfoldable longer : List (List ℕ)
longer =
    around (3, 0 ∷ 1 ∷ 2 ∷ 1 ∷ 1 ∷ 2 ∷ 1 ∷ 1 ∷ 2 ∷ []) vcpus windows links
    ∷ around cores (3, 0 ∷ 1 ∷ 0 ∷ []) windows links  -- the word is also what follows base's VCPUs
    ∷ around cores vcpus (2, 0 ∷ 0 ∷ 9 ∷ 1 ∷ 0 ∷ 9 ∷ []) links
    ∷ around cores vcpus windows (2, 0 ∷ 1 ∷ 1 ∷ 100 ∷ 0 ∷ 0 ∷ 1 ∷ 1 ∷ 100 ∷ 0 ∷ [])
    ∷ []

-- B's cores and tasks, the receiver later, a third task on the sender's core and three links like B's; with these streams, frames, buffers and chains
unfoldable sending : ℕ × List ℕ → ℕ × List ℕ → ℕ × List ℕ → ℕ × List ℕ → List ℕ
sending m f b x =
    plan 20 1
    (
    (2, 0 ∷ 1 ∷ 2 ∷ 1 ∷ 1 ∷ 2 ∷ [])
    ∷ (2, 0 ∷ 1 ∷ [])
    ∷ (3, 0 ∷ 3 ∷ 20 ∷ 3 ∷ 20 ∷ 1 ∷ 3 ∷ 20 ∷ 3 ∷ 20 ∷ 0 ∷ 3 ∷ 20 ∷ 1 ∷ 20 ∷ [])
    ∷ (2, 0 ∷ 0 ∷ 20 ∷ 1 ∷ 0 ∷ 20 ∷ [])
    ∷ (3, 0 ∷ 0 ∷ 2 ∷ 4 ∷ 1 ∷ 0 ∷ 14 ∷ 4 ∷ 2 ∷ 0 ∷ 18 ∷ 2 ∷ [])
    ∷ (3, 0 ∷ 1 ∷ 1 ∷ 352 ∷ 0 ∷ 0 ∷ 1 ∷ 1 ∷ 352 ∷ 0 ∷ 0 ∷ 1 ∷ 1 ∷ 352 ∷ 0 ∷ [])
    ∷ m
    ∷ f
    ∷ b
    ∷ x
    ∷ []
    )

-- streams from task 0 to task 1 by their latency, all in queue 0; frames by stream, link and start
unfoldable streams : List ℕ → ℕ × List ℕ
streams es = (length es, flat_map (λ e. 0 ∷ 1 ∷ e ∷ 1 ∷ 46 ∷ 0 ∷ []) es)

unfoldable frames : List (ℕ × ℕ × ℕ) → ℕ × List ℕ
frames fs = (length fs, flat_map (λ f. f.0 ∷ 0 ∷ 0 ∷ f.1 ∷ f.2 ∷ []) fs)

-- C's core, VCPU and window, with n tasks like C's, these pieces by task and start, and these buffers and chains
unfoldable holding : ℕ → List (ℕ × ℕ) → ℕ × List ℕ → ℕ × List ℕ → List ℕ
holding n is b x =
    plan 20 0
    (
    (1, 0 ∷ 1 ∷ 2 ∷ [])
    ∷ (1, 0 ∷ [])
    ∷ (n, flat_map (λ (_ : ℕ). 0 ∷ 1 ∷ 20 ∷ 2 ∷ 20 ∷ []) (replicate n 0))
    ∷ (1, 0 ∷ 0 ∷ 20 ∷ [])
    ∷ (length is, flat_map (λ i. i.0 ∷ 0 ∷ i.1 ∷ 3 ∷ []) is)
    ∷ none ∷ none ∷ none
    ∷ b
    ∷ x
    ∷ []
    )

-- A task whose row is also what follows the tasks in the same plan without it: the windows' first words. Only the counts tell.
unfoldable counted : ℕ × List ℕ → ℕ × List ℕ → List ℕ
counted t i =
    plan 20 0
    (
    (2, 0 ∷ 0 ∷ 0 ∷ 0 ∷ 0 ∷ 0 ∷ [])
    ∷ (2, 0 ∷ 1 ∷ [])
    ∷ t
    ∷ (3, 0 ∷ 1 ∷ 10 ∷ 1 ∷ 5 ∷ 5 ∷ 0 ∷ 12 ∷ 8 ∷ [])
    ∷ i
    ∷ none ∷ none ∷ none ∷ none ∷ none ∷ []
    )

unfoldable with_task : List ℕ
with_task = counted (1, 0 ∷ 1 ∷ 10 ∷ 1 ∷ 5 ∷ []) (2, 0 ∷ 0 ∷ 1 ∷ 1 ∷ 0 ∷ 1 ∷ 12 ∷ 1 ∷ [])

unfoldable without_task : List ℕ
without_task = counted none none

-- two equal streams; three different ones
unfoldable two_streams : List ℕ
two_streams = sending (streams (18 ∷ 18 ∷ [])) (frames ((0, 0, 6) ∷ (1, 1, 8) ∷ [])) none none

unfoldable three_streams : List ℕ
three_streams = sending (streams (19 ∷ 18 ∷ 17 ∷ [])) (frames ((1, 0, 6) ∷ (0, 1, 8) ∷ (2, 2, 10) ∷ [])) none none

-- C with these chains
unfoldable chained : ℕ × List ℕ → List ℕ
chained x = holding 4 ((0, 2) ∷ (1, 5) ∷ (2, 8) ∷ (3, 11) ∷ []) (2, 0 ∷ 0 ∷ 1 ∷ 0 ∷ 2 ∷ 3 ∷ []) x

-- C's first two tasks and its first buffer, and a third task that the second writes to; with these chains
unfoldable handed_on : ℕ × List ℕ → List ℕ
handed_on x = holding 3 ((0, 2) ∷ (1, 5) ∷ (2, 14) ∷ []) (2, 0 ∷ 0 ∷ 1 ∷ 1 ∷ 1 ∷ 2 ∷ []) x

-- C's first two tasks and its first buffer, with n chains of this limit
unfoldable chains : ℕ → ℕ → List ℕ
chains n limit = holding 2 ((0, 2) ∷ (1, 5) ∷ []) (1, 0 ∷ 0 ∷ 1 ∷ []) (n, flat_map (λ (_ : ℕ). 0 ∷ 1 ∷ limit ∷ []) (replicate n 0))

-- ---- answers, and the joined image

-- Two plans, how many leading tasks they share, the lent bytes, and what is expected: an answer and a length, an answer, the answer as one
-- number, what 37 says, or the joined image.
data Join : Type 0 where
  joined : List ℕ → List ℕ → ℕ → ℕ → Answer → ℕ → Join
  answers : List ℕ → List ℕ → ℕ → ℕ → Answer → Join
  number : List ℕ → List ℕ → ℕ → ℕ → ℕ → Join
  fits : List ℕ → List ℕ → ℕ → ℕ → Bool → Join
  makes : List ℕ → List ℕ → ℕ → List ℕ → Join

-- tasks and pieces
task_joins : List Join
task_joins =
    joined case_a (other 1 10 7 2) 0 192 accepted 192
    ∷ makes case_a (other 1 10 7 2) 0 (bytes (both_tasks 7))
    ∷ makes (both_tasks 7) case_a 1 (bytes (both_tasks 7))
    ∷ answers (both_tasks 7) (both_tasks 8) 1 228 (answer 12 5 2)  -- the later tasks are renumbered, and clash
    ∷ makes case_a case_a 1 (bytes case_a)  -- equal rows are one
    ∷ makes case_b case_b 2 (bytes case_b)
    ∷ makes (later_b 1) case_b 0 (bytes both_b)
    ∷ answers (later_b 1) case_b 0 400 accepted
    ∷ joined case_a case_a 0 200 (answer 12 5 1) 192  -- the result is refused, and written
    ∷ answers case_a (other 3 8 4 4) 1 200 (answer 12 5 1)  -- a shared task with other pieces
    ∷ answers case_a (other 3 8 2 4) 1 156 accepted
    ∷ []

-- streams and frames, buffers and chains
other_joins : List Join
other_joins =
    -- equal streams of the second are both appended; of the first's equal streams the lowest is taken
    makes (sending none none none none) two_streams 3 (bytes two_streams)
    ∷ makes two_streams two_streams 3 (bytes (sending (streams (18 ∷ 18 ∷ [])) (frames ((0, 0, 6) ∷ (0, 1, 8) ∷ (1, 1, 8) ∷ [])) none none))
    ∷ answers two_streams two_streams 3 500 (answer 16 7 0)
    -- the second's stream 1 is the first's 0, its streams 0 and 2 are appended
    ∷ makes (sending (streams (18 ∷ [])) (frames ((0, 0, 6) ∷ [])) none none) three_streams 3
    (bytes (sending (streams (18 ∷ 19 ∷ 17 ∷ [])) (frames ((0, 0, 6) ∷ (1, 1, 8) ∷ (2, 2, 10) ∷ [])) none none))
    -- a stream with a new number beside a buffer and a chain, whose tasks have their own
    ∷ makes (sending (streams (18 ∷ [])) (frames ((0, 0, 6) ∷ [])) none none)
    (sending (streams (19 ∷ [])) (frames ((0, 1, 8) ∷ [])) (1, 5 ∷ 0 ∷ 2 ∷ []) (1, 0 ∷ 1 ∷ 20 ∷ [])) 3
    (bytes (sending (streams (18 ∷ 19 ∷ [])) (frames ((0, 0, 6) ∷ (1, 1, 8) ∷ [])) (1, 5 ∷ 0 ∷ 2 ∷ []) (1, 0 ∷ 1 ∷ 20 ∷ [])))
    -- C after another task: its buffers and its chain are renumbered
    ∷ makes (holding 1 ((0, 14) ∷ []) none none) case_c 0
    (bytes (holding 5 ((1, 2) ∷ (2, 5) ∷ (3, 8) ∷ (4, 11) ∷ (0, 14) ∷ []) (2, 0 ∷ 1 ∷ 2 ∷ 0 ∷ 3 ∷ 4 ∷ []) (1, 1 ∷ 2 ∷ 6 ∷ [])))
    ∷ answers (holding 1 ((0, 14) ∷ []) none none) case_c 0 336 accepted
    -- two tasks shared: rows that equal C's are C's, a buffer and a chain to the third task are appended
    ∷ makes case_c (handed_on (2, 0 ∷ 1 ∷ 6 ∷ 0 ∷ 2 ∷ 15 ∷ [])) 2
    (bytes (holding 5 ((0, 2) ∷ (1, 5) ∷ (2, 8) ∷ (3, 11) ∷ (4, 14) ∷ []) (3, 0 ∷ 0 ∷ 1 ∷ 0 ∷ 2 ∷ 3 ∷ 1 ∷ 1 ∷ 4 ∷ []) (2, 0 ∷ 1 ∷ 6 ∷ 0 ∷ 4 ∷ 15 ∷ [])))
    -- the other way round: pieces are put in order, buffers and chains stay as appended
    ∷ makes (handed_on (1, 0 ∷ 2 ∷ 15 ∷ [])) case_c 2
    (bytes (holding 5 ((0, 2) ∷ (1, 5) ∷ (3, 8) ∷ (4, 11) ∷ (2, 14) ∷ []) (3, 0 ∷ 0 ∷ 1 ∷ 1 ∷ 1 ∷ 2 ∷ 0 ∷ 3 ∷ 4 ∷ []) (2, 0 ∷ 2 ∷ 15 ∷ 0 ∷ 1 ∷ 6 ∷ [])))
    -- equal chains of the second are both appended
    ∷ makes (chained none) (chained (2, 0 ∷ 1 ∷ 6 ∷ 0 ∷ 1 ∷ 6 ∷ [])) 4 (bytes (chained (2, 0 ∷ 1 ∷ 6 ∷ 0 ∷ 1 ∷ 6 ∷ [])))
    ∷ []

-- 35 to 37, and refused inputs
refusals : List Join
refusals =
    joined base base 0 156 accepted 156
    ∷ joined base base 0 155 (answer 37 0 0) 0
    ∷ answers case_a (other 1 10 7 2) 0 191 (answer 37 0 0)  -- too few bytes
    ∷ fits (chains 32 7) (chains 1 6) 2 1000 false  -- too many chains
    ∷ fits (chains 32 7) (chains 1 7) 2 1000 true  -- its chain is one of the first's
    ∷ fits (chains 31 7) (chains 1 6) 2 1000 true
    ∷ answers case_a (other 1 10 7 2) 1 192 (answer 36 0 0)  -- the task is not shared
    ∷ joined case_a case_a 2 200 (answer 36 0 0) 0  -- there are no two tasks
    ∷ answers with_task with_task 1 400 accepted
    ∷ answers without_task with_task 1 400 (answer 36 0 0)  -- the first has none
    ∷ answers with_task without_task 1 400 (answer 36 0 0)  -- the second has none
    ∷ answers base base 4294967295 200 (answer 36 0 0)
    ∷ answers case_a case_b 3 0 (answer 35 0 0)  -- 35 before 36 before 37
    ∷ answers case_a case_a 2 0 (answer 36 0 0)
    ∷ joined case_a (other 3 5 2 4) 9 0 (answer 10 5 0) 0  -- the second is refused
    ∷ answers (other 3 5 2 4) case_b 9 0 (answer 10 5 0)  -- the first is
    ∷ answers (other 3 8 2 3) (other 3 5 2 4) 0 200 (answer 13 3 0)  -- both are, the first is asked first
    ∷ number (both_tasks 5) [] 0 0 4295294988  -- 12 5 1
    ∷ answers [] case_a 0 200 (answer 1 0 0)
    ∷ []

-- base with each plan that differs from it, and one with more rows before base
differing : List Join
differing = map (λ x. answers base x 0 400 (answer 35 0 0)) (others ++ longer) ++ map (λ x. answers x base 0 400 (answer 35 0 0)) longer

joinings : List Join
joinings = task_joins ++ other_joins ++ refusals ++ differing

joint : Join → Join
joint (joined a b s n r k) = joined a b s n (join_answer (bytes a) (bytes b) s n) (join_length (bytes a) (bytes b) s n)
joint (answers a b s n r) = answers a b s n (join_answer (bytes a) (bytes b) s n)
joint (number a b s n k) = number a b s n (join_number (bytes a) (bytes b) s n)
joint (fits a b s n c) = fits a b s n (join_fits (bytes a) (bytes b) s n)
joint (makes a b s c) = makes a b s (joined_image (bytes a) (bytes b) s)

all_joint : map joint joinings ≡ joinings
unfolding joining bytes case_a case_b case_c other both_tasks later_b both_b places plan none cores vcpus windows links around base others longer sending streams frames holding counted with_task
    without_task two_streams three_streams chained handed_on chains answer task_joins other_joins refusals differing joinings joint
all_joint = refl

-- ---- row limits

-- a table with so many rows, the others without: are row counts in bounds?
data Limit : Type 0 where
  limit : Table → ℕ → Bool → Limit

unfoldable rows_in : Table → ℕ → Table → List (List ℕ)
rows_in t n u = cond (eqb (shape t).number (shape u).number) (replicate n []) []

limits : List Limit
limits =
    limit Cores 32 true ∷ limit Cores 33 false
    ∷ limit Vcpus 64 true ∷ limit Vcpus 65 false
    ∷ limit Tasks 256 true ∷ limit Tasks 257 false
    ∷ limit Windows 1024 true ∷ limit Windows 1025 false
    ∷ limit Pieces 2048 true ∷ limit Pieces 2049 false
    ∷ limit Links 64 true ∷ limit Links 65 false
    ∷ limit Streams 64 true ∷ limit Streams 65 false
    ∷ limit Frames 512 true ∷ limit Frames 513 false
    ∷ limit Buffers 64 true ∷ limit Buffers 65 false
    ∷ limit Chains 32 true ∷ limit Chains 33 false
    ∷ []

limited : Limit → Limit
limited (limit t n c) = limit t n (rows_fit (rows_in t n) tables)

all_limited : map limited limits ≡ limits
unfolding joining rows_in limits limited
all_limited = refl

-- ---- the lent bytes

-- n bytes: n, n − 1 and so on to 1
unfoldable down : ℕ → List ℕ
down zero = []
down (suc n) = suc n ∷ down n

-- two plans, the shared tasks, the lent bytes before and after
data Lent : Type 0 where
  leaves : List ℕ → List ℕ → ℕ → List ℕ → List ℕ → Lent

-- two tasks of A, which clash
unfoldable twice_a : List ℕ
twice_a =
    0 ∷ 1 ∷ 2  -- core
    ∷ 0  -- VCPU
    ∷ 0 ∷ 1 ∷ 10 ∷ 3 ∷ 8 ∷ 0 ∷ 1 ∷ 10 ∷ 3 ∷ 8  -- tasks
    ∷ 0 ∷ 0 ∷ 10  -- window
    ∷ 0 ∷ 0 ∷ 2 ∷ 4 ∷ 1 ∷ 0 ∷ 2 ∷ 4  -- pieces
    ∷ 10 ∷ 0  -- H, P
    ∷ 0 ∷ 1 ∷ 12 ∷ 1 ∷ 16 ∷ 2 ∷ 56 ∷ 1 ∷ 68 ∷ 2  -- offsets and counts
    ∷ 100 ∷ 0 ∷ 100 ∷ 0 ∷ 100 ∷ 0 ∷ 100 ∷ 0 ∷ 100 ∷ 0
    ∷ 100 ∷ []  -- the last word

lents : List Lent
lents =
    leaves case_a case_a 1 (down 159) (bytes case_a ++ 3 ∷ 2 ∷ 1 ∷ [])
    ∷ leaves case_a case_a 1 (down 156) (bytes case_a)
    ∷ leaves case_a case_a 0 (down 194) (bytes twice_a ++ 2 ∷ 1 ∷ [])  -- a refused result
    ∷ leaves case_a case_a 1 (down 155) (down 155)  -- 37
    ∷ leaves case_a case_a 2 (down 200) (down 200)  -- 36
    ∷ leaves case_a case_b 0 (down 400) (down 400)  -- 35
    ∷ leaves case_a (other 3 5 2 4) 0 (down 200) (down 200)  -- the second is refused
    ∷ leaves (other 3 5 2 4) case_a 0 (down 200) (down 200)  -- the first is
    ∷ leaves case_a case_a 1 [] []
    ∷ []

left : Lent → Lent
left (leaves a b s before after) = leaves a b s before (join_bytes (bytes a) (bytes b) s before)

all_left : map left lents ≡ lents
unfolding joining bytes case_a case_b other twice_a down lents left
all_left = refl

-- ---- work

-- the ticks below n at which a test says yes
unfoldable ticks_of : ℕ → (ℕ → Bool) → List ℕ
ticks_of zero test = []
ticks_of (suc n) test = ticks_of n test ++ cond (test n) (n ∷ []) []

-- a plan, a lane, a task, a job, and the ticks of a cycle at which it works
data Work : Type 0 where
  works : List ℕ → ℕ → ℕ → ℕ → List ℕ → Work

workings : List Work
workings =
    works case_a 0 0 0 (3 ∷ 4 ∷ 5 ∷ [])
    ∷ works (other 1 10 7 2) 0 0 0 (8 ∷ [])
    ∷ works (both_tasks 7) 0 0 0 (3 ∷ 4 ∷ 5 ∷ [])
    ∷ works (both_tasks 7) 0 1 0 (8 ∷ [])
    ∷ works (both_tasks 7) 0 1 1 []
    ∷ works both_b 1 3 0 (11 ∷ 12 ∷ 13 ∷ [])
    ∷ works both_b 0 3 0 []
    ∷ works both_b 2 0 0 []
    ∷ []

worked : Work → Work
worked (works i l t k x) = works i l t k (ticks_of (cycle_ticks (bytes i)) (λ y. works_at (bytes i) l y t k))

all_worked : map worked workings ≡ workings
unfolding joining dispatch works_at bytes case_a other both_tasks both_b ticks_of workings worked
all_worked = refl
