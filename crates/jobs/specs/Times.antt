-- Each job's first start, last end and work, gathered once into words: word t is the place of task t's job 0 among all jobs, job after
-- job in the tasks' order; then come a first start, a last end and the work of each place. There are as many places as there may be
-- pieces: a task whose jobs lie past them has the first place that is not kept.
use Rattle.std.specs.Prelude.{ℕ, ◌+◌, ◌-◌, ◌<◌, ◌≤◌, min, max, ◌≡◌, true, List, length, get_or, set}
use Rattle.std.specs.Prelude.{None}
use Rattle.plan.specs.declared.Table.TheVariants.{Tasks, Pieces}
use Rattle.plan.specs.Image.{rows, cycle_ticks, piece, most_tasks, most_pieces}
use Rattle.plan.specs.Search.{all, sum, first_no}
use Rattle.plan.specs.Questions.{jobs, switch_ticks, piece_end, first_start, last_end, job_budget, task_budget}
use Rattle.tallies.specs.Tallies.{tally, Kept}

-- where each part of the words begins, and how many there are
abbrev pub firsts_at : ℕ
firsts_at = most_tasks

abbrev pub lasts_at : ℕ
lasts_at = firsts_at + most_pieces

abbrev pub works_at : ℕ
works_at = lasts_at + most_pieces

abbrev pub times_words : ℕ
times_words = works_at + most_pieces

-- the place of job k of task t among all jobs; of a task's job 0 among the places; of a piece's job
unfoldable pub place : List ℕ → ℕ → ℕ → ℕ
place s t k = sum t (jobs s) + k

unfoldable pub task_place : List ℕ → ℕ → ℕ
task_place s t = min most_pieces (sum t (jobs s))

unfoldable pub piece_place : List ℕ → ℕ → ℕ
piece_place s i = task_place s (piece s i).task + (piece s i).job

-- a piece's work: its ticks less the task switch
unfoldable pub work_of : List ℕ → ℕ → ℕ
work_of s i = (piece s i).length - switch_ticks s (piece s i).task

-- the words have their length, and the places of the first n tasks are written
pub record Placed (s times : List ℕ) (n : ℕ) : Type 0 where
  pub size : length times ≡ times_words
  pub places : Kept times 0 n (task_place s)

-- no piece has been taken in: of the first n places every first start is the cycle's end, and every last end and work 0
pub record Cleared (cycle : ℕ) (times : List ℕ) (n : ℕ) : Type 0 where
  pub size : length times ≡ times_words
  pub firsts : Kept times firsts_at n (λ _. cycle)
  pub lasts : Kept times lasts_at n (λ _. 0)
  pub works : Kept times works_at n (λ _. 0)

-- a piece from start to end is taken into the job at place p
unfoldable pub taken_at : List ℕ → ℕ → ℕ → ℕ → ℕ → List ℕ
taken_at times p start end work =
    set (set (set times (firsts_at + p) (min (get_or times (firsts_at + p) 0) start)) (lasts_at + p) (max (get_or times (lasts_at + p) 0) end)) (works_at + p) (get_or times (works_at + p) 0 + work)

-- the first n pieces have been taken in
pub record Gathered (s times : List ℕ) (n : ℕ) : Type 0 where
  pub placed : Placed s times (rows s Tasks)
  pub firsts : Kept times firsts_at most_pieces (tally min (cycle_ticks s) (piece_place s) (λ i. (piece s i).start) n)
  pub lasts : Kept times lasts_at most_pieces (tally max 0 (piece_place s) (piece_end s) n)
  pub works : Kept times works_at most_pieces (tally ◌+◌ 0 (piece_place s) (work_of s) n)

-- all have
abbrev pub AllGathered : List ℕ → List ℕ → Type 0
AllGathered s times = Gathered s times (rows s Pieces)

-- 13, asked of a task after all before it, and of a job after all before it
abbrev pub TasksBefore : List ℕ → ℕ → Type 0
TasksBefore s t = first_no t (task_budget s) ≡ None

abbrev pub JobsBefore : List ℕ → ℕ → ℕ → Type 0
JobsBefore s t k = TasksBefore s t × (all k (job_budget s t) ≡ true)

-- 13 is passed: every job has its place, and the times are those of the definitions
pub record Timed (s times : List ℕ) : Type 0 where
  pub placed : Placed s times (rows s Tasks)
  pub few : rows s Tasks ≤ most_tasks
  pub room : sum (rows s Tasks) (jobs s) ≤ most_pieces
  pub firsts : (t k : ℕ) → t < rows s Tasks → k < jobs s t → get_or times (firsts_at + place s t k) 0 ≡ first_start s t k
  pub lasts : (t k : ℕ) → t < rows s Tasks → k < jobs s t → get_or times (lasts_at + place s t k) 0 ≡ last_end s t k
