-- Worked cases of drafts (paper 02, request 6), over cases A and B: one table, proved by one computation. The sums over the words of a draft run
-- over 2,048 places of a long list and do not compute in reasonable time; those over the pieces do, and that every call on words gives
-- the same is `totals_kept`.
use Rattle.std.specs.Prelude.{ℕ, ◌+◌, ◌*◌, ◌≡◌, refl, List, ◌∷◌, ◌++◌, map, [], Bool, true, false, cond, ◌&&◌, set, replicate, leb, eqb}
use Rattle.plan.specs.declared.Piece.{Piece}
use Rattle.plan.specs.Search.{sum}
use Rattle.plan.specs.Questions.{whole, core_of, asking}
use Rattle.plan.specs.Cases.{bytes, case_a, case_b}
use Rattle.drafts.specs.Drafts.{draft_words, places, core_at, task_at, place_at, is_of, is_below, draft_cycle, draft_tasks, core_switch, task_core, task_period, task_deadline, task_jobs, has_task, fits_job}
use Rattle.drafts.specs.Edits.{store_rows, number_of, piece_of, no_piece, make_number, made_piece}
use Rattle.drafts.specs.Claim.{Edit, adds, removes, moves, meets_five, meets_ten, is_held, asked_of, held_after, held_after_all}

-- a case with words changed: word i is x
changed : List ℕ → List (ℕ × ℕ) → List ℕ
changed b [] = b
changed b (c ∷ cs) = set (changed b cs) c.0 c.1

-- A's head as making stores it: H, one core with d = 1, one task of core 0 with T = 10, D = 8
head_a : List ℕ
head_a = 10 ∷ 1 ∷ 1 ∷ 1 ∷ replicate 63 0 ++ 0 ∷ 10 ∷ 8 ∷ []

-- another one: H = 20, two cores with d = 1 and 3, task 0 of core 1 with T = 10, D = 8, task 1 of core 0 with T = D = 20
head2 : List ℕ
head2 = 20 ∷ 2 ∷ 2 ∷ 1 ∷ 0 ∷ 3 ∷ replicate 61 0 ++ 1 ∷ 10 ∷ 8 ∷ 0 ∷ 20 ∷ 20 ∷ []

-- the numbers that edits of A's pieces give, one after the other
numbers : (ℕ → Piece) → List Edit → List ℕ
numbers at [] = []
numbers at (e ∷ es) = asked_of (bytes case_a) at e ∷ numbers (held_after (bytes case_a) at e) es

-- A case and what is expected: making from a case changed, with so many lent words; 5 and 10 of a piece by itself; is a piece of job k of task t, of
-- a lower one; edits of A, with the numbers they give and afterwards the total of its job and of its core, summed over the first eight places
data Case : Type 0 where
  makes : List ℕ → List (ℕ × ℕ) → ℕ → ℕ → Case
  meets : List ℕ → ℕ → ℕ → ℕ → ℕ → ℕ → Case
  ranks : ℕ → ℕ → ℕ → ℕ → Bool → Bool → Case
  edits : List Edit → List ℕ → ℕ → ℕ → Case

cases : List Case
cases =
    makes case_a [] 32768 0
    ∷ makes case_a [] 32767 34
    ∷ makes case_a ((14, 1) ∷ []) 32768 0  -- piece start 1: 11 is not asked
    ∷ makes case_a ((15, 3) ∷ []) 32768 0  -- piece length 3: 13 is not asked
    ∷ makes case_a ((15, 1) ∷ []) 32768 10
    ∷ makes case_a ((8, 5) ∷ []) 0 10  -- D = 5: the image is asked before 34
    ∷ makes case_a ((5, 2) ∷ []) 0 9  -- mask 2
    ∷ makes case_a ((11, 2) ∷ []) 0 7  -- window length 2
    ∷ makes case_a ((6, 3) ∷ []) 0 6  -- T = 3
    ∷ makes case_a ((9, 1) ∷ []) 0 5  -- window of VCPU 1
    ∷ makes case_a ((16, 0) ∷ []) 0 4  -- H = 0
    ∷ makes case_a ((19, 2) ∷ []) 0 3  -- two cores
    ∷ makes case_a ((38, 63) ∷ []) 0 2  -- the last word
    ∷ makes [] [] 32768 1
    ∷ makes case_b [] 32768 0
    ∷ makes case_b ((30, 9) ∷ []) 32768 0  -- the reader before its message: 20 is not asked
    ∷ makes case_b ((30, 1) ∷ []) 32768 32  -- the second piece before the first
    ∷ makes case_b ((30, 1) ∷ (10, 3) ∷ []) 32768 32  -- before 6
    ∷ makes case_b ((30, 1) ∷ (18, 9) ∷ []) 32768 5  -- after 5
    ∷ makes case_b ((7, 0) ∷ []) 32768 8  -- both VCPUs on core 0
    ∷ makes case_b ((7, 0) ∷ (9, 2) ∷ []) 32768 8  -- before 9
    ∷ meets head_a 0 0 6 2 0
    ∷ meets head_a 1 0 6 2 5
    ∷ meets head_a 1 9 9 0 5  -- 5 before 10
    ∷ meets head_a 0 1 10 2 10  -- k is below H/T
    ∷ meets head_a 0 0 7 1 10  -- the length is more than d
    ∷ meets head_a 0 0 7 2 10  -- the piece ends by the due tick
    ∷ meets head_a 0 0 0 8 0
    ∷ meets head_a 0 0 0 4294967295 10
    ∷ meets head2 0 1 10 8 0  -- from the release to the due tick
    ∷ meets head2 0 1 9 8 10  -- a tick before the release
    ∷ meets head2 0 1 11 8 10  -- a tick past the due tick
    ∷ meets head2 0 2 20 4 10  -- k = H/T
    ∷ meets head2 0 0 0 3 10  -- no longer than d of its own core
    ∷ meets head2 0 0 0 4 0
    ∷ meets head2 1 0 0 2 0
    ∷ meets head2 2 0 0 9 5
    ∷ ranks 3 7 3 7 true false
    ∷ ranks 3 7 3 6 false true
    ∷ ranks 3 7 3 8 false false
    ∷ ranks 3 7 2 9 false true
    ∷ ranks 3 7 4 7 false false
    ∷ edits [] [] 4 4
    ∷ edits (adds 5 (piece_of 0 0 0 3) ∷ []) (0 ∷ []) 7 7
    ∷ edits (adds 5 (piece_of 0 0 0 3) ∷ removes 0 ∷ []) (0 ∷ 0 ∷ []) 3 3
    ∷ edits (removes 0 ∷ removes 0 ∷ adds 0 (piece_of 0 0 1 4) ∷ []) (0 ∷ 33 ∷ 0 ∷ []) 4 4  -- a removed place is used again
    ∷ edits (adds 0 (piece_of 0 0 0 3) ∷ adds 2048 (piece_of 0 0 0 3) ∷ []) (34 ∷ 34 ∷ []) 4 4  -- taken, and none
    ∷ edits (adds 2048 (piece_of 0 0 7 2) ∷ adds 2048 (piece_of 1 0 7 2) ∷ []) (10 ∷ 5 ∷ []) 4 4  -- 10 before 34, 5 before 10
    ∷ edits (moves 0 0 ∷ moves 0 7 ∷ moves 1 0 ∷ moves 2048 0 ∷ removes 2048 ∷ []) (0 ∷ 10 ∷ 33 ∷ 33 ∷ 33 ∷ []) 4 4
    ∷ []

-- the case with what the definitions give in place of what is expected
computed : Case → Case
computed (makes b cs n r) = makes b cs n (make_number (bytes (changed b cs)) (replicate n 0))
computed (meets h t k b l r) =
    meets h t k b l (number_of (whole 5 (has_task h (piece_of t k b l)) ∷ whole 10 (fits_job h (piece_of t k b l)) ∷ []))
computed (ranks t k u j a b) = ranks t k u j (is_of t k (piece_of u j 0 1)) (is_below t k (piece_of u j 0 1))
computed (edits es ns j c) =
    let at = held_after_all (bytes case_a) (made_piece (bytes case_a)) es in
    edits es (numbers (made_piece (bytes case_a)) es) (sum 8 (λ p. cond (eqb (at p).task 0 && eqb (at p).job 0) (at p).length 0))
    (sum 8 (λ p. cond (eqb (core_of (bytes case_a) (at p).task) 0) (at p).length 0))

all_right : map computed cases ≡ cases
unfolding asking bytes case_a case_b changed head_a head2 numbers cases computed draft_words places core_at task_at is_of is_below draft_cycle draft_tasks core_switch task_core
    task_period task_deadline task_jobs has_task fits_job number_of piece_of no_piece make_number made_piece meets_five meets_ten is_held asked_of held_after held_after_all
all_right = refl

-- the sizes of paper 02, and the layout lies inside the words
sizes : (draft_words ≡ 32768) × (places ≡ 2048) × (core_at 32 ≡ task_at 0) × (task_at 256 ≡ place_at 0) × (leb (place_at places) draft_words ≡ true)
unfolding draft_words places core_at task_at place_at
sizes = (refl, refl, refl, refl, refl)

-- rows stored: two of two words, from word 1 on
stores : store_rows (λ r. 1 + 2 * r) (λ r. r ∷ 9 ∷ []) 2 (replicate 6 5) ≡ 5 ∷ 0 ∷ 9 ∷ 1 ∷ 9 ∷ 5 ∷ []
unfolding store_rows
stores = refl
