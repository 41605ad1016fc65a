-- Making, editing and reading a draft (paper 02, request 6): for each call its number, and the words afterwards or the value read.
-- A refused call leaves all words as they were; a refused reading gives 0.
use Rattle.std.specs.Prelude.{ℕ, zero, suc, ◌+◌, not, ◌&&◌, cond, List, ◌∷◌, ◌++◌, [], length, take, set, ltb, leb, eqb}
use Rattle.std.proofs.lemmas.List.Edits.{sets}
use Rattle.plan.specs.declared.Piece.{Piece}
use Rattle.plan.specs.declared.Table.TheVariants.{Cores, Tasks, Pieces}
use Rattle.std.specs.Prelude.{Some, None}
use Rattle.plan.specs.Search.{first}
use Rattle.plan.specs.Image.{cycle_ticks, rows, core, task, piece}
use Rattle.plan.specs.Questions.{Question, whole, image_questions, row_questions, piece_questions, answer_to, core_of}
use Rattle.drafts.specs.Drafts.{draft_words, places, core_at, task_at, place_at, is_of, draft_cores, draft_tasks, task_jobs, core_total, piece_at, total_at}
use Rattle.drafts.specs.Drafts.{is_free, has_task, fits_job, job_sum, core_sum, rank, is_draft, holds_piece}

-- ---- storing

-- rows 0 to n − 1 stored, row r from word `at r` on
unfoldable pub store_rows : (ℕ → ℕ) → (ℕ → List ℕ) → ℕ → List ℕ → List ℕ
store_rows at row zero w = w
store_rows at row (suc n) w = sets (store_rows at row n w) (at n) (row n)

-- the rank and the job's total of place p, as the pieces give them; nothing for a free place
unfoldable pub sums_at : List ℕ → ℕ → List ℕ
sums_at w p = let x = piece_at w p in cond (is_free w p) [] (rank w x.task x.job ∷ job_sum w x.task x.job ∷ [])

-- the words with every rank and every total as the pieces give them
unfoldable pub summed : List ℕ → List ℕ
summed w = store_rows (λ c. core_at c + 1) (λ c. core_sum w c ∷ []) (draft_cores w) (store_rows (λ p. place_at p + 4) (sums_at w) places w)

unfoldable pub piece_words : Piece → List ℕ
piece_words x = x.task ∷ x.job ∷ x.start ∷ x.length ∷ []

-- piece x put at place p; no piece left at place p
unfoldable pub put_at : List ℕ → ℕ → Piece → List ℕ
put_at w p x = summed (sets w (place_at p) (piece_words x))

unfoldable pub freed_at : List ℕ → ℕ → List ℕ
freed_at w p = summed (set w (place_at p + 3) 0)

-- ---- calls

-- the number of the first question answered no, or 0
unfoldable pub number_of : List Question → ℕ
number_of qs = (answer_to qs).number

-- what a call that gives number n leaves: new words, or after a refusal the old ones
unfoldable pub leaves : ℕ → List ℕ → List ℕ → List ℕ
leaves n new w = cond (eqb n 0) new w

-- the value of a reading that gives number n: 0 after a refusal
unfoldable pub gives : ℕ → ℕ → ℕ
gives n value = cond (eqb n 0) value 0

-- making: 1 to 5, 32 and 6 to 10 of the image, then 34
unfoldable pub make_number : List ℕ → List ℕ → ℕ
make_number s w = number_of (image_questions s ++ row_questions s ++ take 4 (piece_questions s) ++ whole 34 (leb draft_words (length w)) ∷ [])

-- the image's piece at a place: its row number; places past the rows are free
unfoldable pub no_piece : Piece
no_piece = record { task = 0; job = 0; start = 0; length = 0 }

unfoldable pub made_piece : List ℕ → ℕ → Piece
made_piece s p = cond (ltb p (rows s Pieces)) (piece s p) no_piece

-- H, counts, cores, tasks and pieces of the image stored
unfoldable pub copied : List ℕ → List ℕ → List ℕ
copied s w =
    store_rows place_at (λ p. piece_words (made_piece s p)) places
    (store_rows task_at (λ t. core_of s t ∷ (task s t).period ∷ (task s t).deadline ∷ []) (rows s Tasks)
    (store_rows core_at (λ c. (core s c).d ∷ []) (rows s Cores)
    (sets w 0 (cycle_ticks s ∷ rows s Cores ∷ rows s Tasks ∷ []))))

-- and then every rank and total
unfoldable pub make_words : List ℕ → List ℕ → List ℕ
make_words s w = leaves (make_number s w) (summed (copied s w)) w

-- a piece, by its four words
unfoldable pub piece_of : ℕ → ℕ → ℕ → ℕ → Piece
piece_of t k b l = record { task = t; job = k; start = b; length = l }

-- a piece with another start
unfoldable pub moved_to : Piece → ℕ → Piece
moved_to x start = record { task = x.task; job = x.job; start = start; length = x.length }

module _ (w : List ℕ) where
  -- adding piece x at place p: 33, 5, 10, then 34
  unfoldable pub add_number : ℕ → Piece → ℕ
  add_number p x =
      number_of (whole 33 (is_draft w) ∷ whole 5 (has_task w x) ∷ whole 10 (fits_job w x) ∷ whole 34 (ltb p places && is_free w p) ∷ [])

  unfoldable pub add_words : ℕ → Piece → List ℕ
  add_words p x = leaves (add_number p x) (put_at w p x) w

  -- removing the piece at place p: 33
  unfoldable pub remove_number : ℕ → ℕ
  remove_number p = number_of (whole 33 (is_draft w && holds_piece w p) ∷ [])

  unfoldable pub remove_words : ℕ → List ℕ
  remove_words p = leaves (remove_number p) (freed_at w p) w

  -- moving the piece at place p to another start: 33, then 10
  unfoldable pub move_number : ℕ → ℕ → ℕ
  move_number p start = number_of (whole 33 (is_draft w && holds_piece w p) ∷ whole 10 (fits_job w (moved_to (piece_at w p) start)) ∷ [])

  unfoldable pub move_words : ℕ → ℕ → List ℕ
  move_words p start = leaves (move_number p start) (put_at w p (moved_to (piece_at w p) start)) w

  -- reading a place into lent words: 33 as a removal asks it, then 34 (four words); it leaves the piece's four words in the first four
  unfoldable pub place_number : ℕ → List ℕ → ℕ
  place_number p lent = number_of (whole 33 (is_draft w && holds_piece w p) ∷ whole 34 (leb 4 (length lent)) ∷ [])

  unfoldable pub place_leaves : ℕ → List ℕ → List ℕ
  place_leaves p lent = leaves (place_number p lent) (sets lent 0 (piece_words (piece_at w p))) lent

  -- reading the total of job k of task t: 33, 5, then 10; it is stored with each of the job's pieces, and 0 where there is none
  unfoldable pub job_number : ℕ → ℕ → ℕ
  job_number t k = number_of (whole 33 (is_draft w) ∷ whole 5 (ltb t (draft_tasks w)) ∷ whole 10 (ltb k (task_jobs w t)) ∷ [])

  unfoldable pub stored_total : ℕ → ℕ → ℕ
  stored_total t k = elim (first places (λ p. not (is_free w p) && is_of t k (piece_at w p))) [ Some p ↦ total_at w p | None ↦ 0 ]

  unfoldable pub job_value : ℕ → ℕ → ℕ
  job_value t k = gives (job_number t k) (stored_total t k)

  -- reading the total of a core: 33, then 5
  unfoldable pub core_number : ℕ → ℕ
  core_number c = number_of (whole 33 (is_draft w) ∷ whole 5 (ltb c (draft_cores w)) ∷ [])

  unfoldable pub core_value : ℕ → ℕ
  core_value c = gives (core_number c) (core_total w c)
