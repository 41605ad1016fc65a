-- What code may assume of a draft's head once 33 has been asked that far.
use Rattle.std.specs.Prelude.{ℕ, ◌<◌, ◌≤◌, ◌≡◌, Bool, true, ◌&&◌, ◌||◌, List, length}
use Rattle.drafts.specs.Drafts.{draft_words, draft_tasks, head_in_range, task_in_range, piece_at, is_free, has_task, fits_job}

-- there are words enough, and H, the counts and the tasks' rows are in range
pub record Headed (w : List ℕ) : Type 0 where
  pub room : draft_words ≤ length w
  pub head : head_in_range w ≡ true
  pub tasks : (t : ℕ) → t < draft_tasks w → task_in_range w t ≡ true

-- a place is free, or its piece meets 5 and 10
unfoldable pub place_fits : List ℕ → ℕ → Bool
place_fits w p = is_free w p || (has_task w (piece_at w p) && fits_job w (piece_at w p))
