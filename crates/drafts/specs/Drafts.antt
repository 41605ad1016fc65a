-- A draft (paper 02, request 6): its words, the sums over its pieces, and question 33.
-- Word 0 is H, 1 the number of cores, 2 the number of tasks. A row of two words for each core, of three for each task and of six for each
-- place follow, at `core_at`, `task_at`, `place_at`. Further words, and rows past their number, say nothing.
use Rattle.std.specs.Prelude.{ℕ, ◌+◌, ◌*◌, ◌/◌, ◌%◌, Bool, not, ◌&&◌, ◌||◌, cond, List, length, get_or, ltb, leb, eqb}
use Rattle.plan.specs.declared.Piece.{Piece}
use Rattle.plan.specs.Search.{all, sum, count}

-- the words of a draft, and its places
unfoldable pub draft_words : ℕ
draft_words = 32768

unfoldable pub places : ℕ
places = 2048

-- where the row of a core, a task, a place begins: at most 32, 256 and 2,048 of them
unfoldable pub core_at : ℕ → ℕ
core_at c = 3 + 2 * c

unfoldable pub task_at : ℕ → ℕ
task_at t = 67 + 3 * t

unfoldable pub place_at : ℕ → ℕ
place_at p = 835 + 6 * p

-- piece x is of job k of task t; it is of a lower job: of a lower task, or of this task with a lower number
unfoldable pub is_of : ℕ → ℕ → Piece → Bool
is_of t k x = eqb x.task t && eqb x.job k

unfoldable pub is_below : ℕ → ℕ → Piece → Bool
is_below t k x = ltb x.task t || (eqb x.task t && ltb x.job k)

module _ (w : List ℕ) where
  -- ---- what the words say

  -- H, and the numbers of cores and tasks
  unfoldable pub draft_cycle : ℕ
  draft_cycle = get_or w 0 0

  unfoldable pub draft_cores : ℕ
  draft_cores = get_or w 1 0

  unfoldable pub draft_tasks : ℕ
  draft_tasks = get_or w 2 0

  -- a core's row: task switch ticks d, and the total of its piece ticks
  unfoldable pub core_switch : ℕ → ℕ
  core_switch c = get_or w (core_at c) 0

  unfoldable pub core_total : ℕ → ℕ
  core_total c = get_or w (core_at c + 1) 0

  -- a task's row: its VCPU's core, period T, deadline D
  unfoldable pub task_core : ℕ → ℕ
  task_core t = get_or w (task_at t) 0

  unfoldable pub task_period : ℕ → ℕ
  task_period t = get_or w (task_at t + 1) 0

  unfoldable pub task_deadline : ℕ → ℕ
  task_deadline t = get_or w (task_at t + 2) 0

  -- how many jobs a task has
  unfoldable pub task_jobs : ℕ → ℕ
  task_jobs t = draft_cycle / task_period t

  -- a place's row: the piece's four words, its rank (how many pieces are of lower jobs, so that 33 need not compare each piece with all others),
  -- the piece total of its job
  unfoldable pub piece_at : ℕ → Piece
  piece_at p =
      record { task = get_or w (place_at p) 0; job = get_or w (place_at p + 1) 0; start = get_or w (place_at p + 2) 0; length = get_or w (place_at p + 3) 0 }

  unfoldable pub rank_at : ℕ → ℕ
  rank_at p = get_or w (place_at p + 4) 0

  unfoldable pub total_at : ℕ → ℕ
  total_at p = get_or w (place_at p + 5) 0

  -- a place whose length is 0 is free; its other words say nothing
  unfoldable pub is_free : ℕ → Bool
  is_free p = eqb (piece_at p).length 0

  -- ---- 5 and 10 of one piece by itself

  unfoldable pub has_task : Piece → Bool
  has_task x = ltb x.task draft_tasks

  unfoldable pub fits_job : Piece → Bool
  fits_job x =
      let t = x.task in let release = x.job * task_period t in
      ltb x.job (task_jobs t) && ltb (core_switch (task_core t)) x.length && leb release x.start
      && leb (x.start + x.length) (release + task_deadline t)

  -- ---- the sums over the pieces present; a free place has length 0

  -- the piece total of a job, and a core's total of piece ticks
  unfoldable pub job_sum : ℕ → ℕ → ℕ
  job_sum t k = sum places (λ p. cond (is_of t k (piece_at p)) (piece_at p).length 0)

  unfoldable pub core_sum : ℕ → ℕ
  core_sum c = sum places (λ p. cond (eqb (task_core (piece_at p).task) c) (piece_at p).length 0)

  -- how many pieces are of jobs lower than job k of task t
  unfoldable pub rank : ℕ → ℕ → ℕ
  rank t k = count places (λ p. not (is_free p) && is_below t k (piece_at p))

  -- ---- 33

  unfoldable pub head_in_range : Bool
  head_in_range = leb 1 draft_cycle && leb draft_cycle 1000000 && leb 1 draft_cores && leb draft_cores 32 && leb draft_tasks 256

  unfoldable pub task_in_range : ℕ → Bool
  task_in_range t =
      ltb (task_core t) draft_cores && leb 1 (task_period t) && eqb (draft_cycle % task_period t) 0
      && leb 1 (task_deadline t) && leb (task_deadline t) (task_period t)

  -- a core's switch ticks are in range and its total is true
  unfoldable pub core_true : ℕ → Bool
  core_true c = leb (core_switch c) 1000 && eqb (core_total c) (core_sum c)

  -- a place is free, or its piece meets 5 and 10 and its rank and total are true
  unfoldable pub place_true : ℕ → Bool
  place_true p =
      let x = piece_at p in
      is_free p || (has_task x && fits_job x && eqb (rank_at p) (rank x.task x.job) && eqb (total_at p) (job_sum x.task x.job))

  -- are the first 32,768 words a draft with true totals?
  unfoldable pub is_draft : Bool
  is_draft = leb draft_words (length w) && head_in_range && all draft_tasks task_in_range && all draft_cores core_true && all places place_true

  -- does the piece to remove, move or read exist?
  unfoldable pub holds_piece : ℕ → Bool
  holds_piece p = ltb p places && not (is_free p)
