-- One plan for two modes (paper 02, request 10): the image that joins a second plan to a first, what is asked, and the lent bytes afterwards.
use Rattle.std.specs.Prelude.{ℕ, zero, suc, ◌+◌, ◌-◌, ◌*◌, Bool, true, false, ◌&&◌, cond, length, get_or, drop, ltb, leb, eqb}
use mathlib.Core.List.{List, ◌∷◌, ◌++◌, [], flat_map}
use Rattle.plan.specs.declared.Table.{Table}
use Rattle.plan.specs.declared.Table.TheVariants.{Cores, Vcpus, Tasks, Windows, Pieces, Links, Streams, Frames, Buffers, Chains}
use Rattle.std.specs.Prelude.{Option}
use Rattle.std.specs.Prelude.{Some, None}
use Rattle.plan.specs.declared.Answer.{Answer}
use Rattle.plan.specs.Search.{first, all, count, rises}
use Rattle.plan.specs.Image.{tables, shape, cycle_ticks, precision, rows, field}
use Rattle.plan.specs.Questions.{Question, whole, questions, answer_to, asking}
use Rattle.plan.specs.Boundary.{bytes_of, answer_number}

-- ---- rows as lists of words

-- f 0 to f (n − 1)
unfoldable pub below : {A : Type 0} → ℕ → (ℕ → A) → List A
below zero f = []
below (suc n) f = below n f ++ f n ∷ []

-- the rows of a table of an image, each word w at place j as f j w
unfoldable pub row_by : List ℕ → Table → (ℕ → ℕ → ℕ) → ℕ → List ℕ
row_by s t f r = below (shape t).width (λ j. f j (field s t r j))

unfoldable pub rows_by : List ℕ → Table → (ℕ → ℕ → ℕ) → List (List ℕ)
rows_by s t f = below (rows s t) (row_by s t f)

-- as they are
unfoldable pub row_words : List ℕ → Table → ℕ → List ℕ
row_words s t = row_by s t (λ j w. w)

unfoldable pub rows_of : List ℕ → Table → List (List ℕ)
rows_of s t = rows_by s t (λ j w. w)

-- does a row equal another: word for word
unfoldable pub same_words : List ℕ → List ℕ → Bool
same_words [] [] = true
same_words [] (y ∷ ys) = false
same_words (x ∷ xs) [] = false
same_words (x ∷ xs) (y ∷ ys) = eqb x y && same_words xs ys

-- the lowest of the rows rs that equals row x
unfoldable pub lowest : List (List ℕ) → List ℕ → Option ℕ
lowest rs x = first (length rs) (λ i. same_words (get_or rs i []) x)

-- does none of them equal it
unfoldable pub is_new : List (List ℕ) → List ℕ → Bool
is_new rs x = elim (lowest rs x) [ Some i ↦ false | None ↦ true ]

-- those of the rows xs that equal none of rs, in their order
unfoldable pub new_rows : List (List ℕ) → List (List ℕ) → List (List ℕ)
new_rows rs [] = []
new_rows rs (x ∷ xs) = cond (is_new rs x) (x ∷ []) [] ++ new_rows rs xs

-- where row r of xs is once its new rows are appended to rs: at the lowest equal row, or appended
unfoldable pub row_at : List (List ℕ) → List (List ℕ) → ℕ → ℕ
row_at rs xs r = elim (lowest rs (get_or xs r [])) [ Some i ↦ i | None ↦ length rs + count r (λ q. is_new rs (get_or xs q [])) ]

-- ---- rows put in order, as question 32 asks: by their start, then by their words from the first on

-- the place of the start among the words of a window, a piece, a frame; the other tables have no order
unfoldable pub start_word : Table → ℕ
start_word Cores = 0
start_word Vcpus = 0
start_word Tasks = 0
start_word Windows = 1
start_word Pieces = 2
start_word Links = 0
start_word Streams = 0
start_word Frames = 4
start_word Buffers = 0
start_word Chains = 0

unfoldable pub by_start : Table → List ℕ → List ℕ
by_start t x = get_or x (start_word t) 0 ∷ x

-- a row put before the first row that it rises to; all rows put in so
unfoldable pub insert : Table → List ℕ → List (List ℕ) → List (List ℕ)
insert t x [] = x ∷ []
insert t x (y ∷ ys) = elim (rises (by_start t x) (by_start t y)) [ true ↦ x ∷ y ∷ ys | false ↦ y ∷ insert t x ys ]

unfoldable pub sorted : Table → List (List ℕ) → List (List ℕ)
sorted t [] = []
sorted t (x ∷ xs) = insert t x (sorted t xs)

-- ---- the image that has given rows (paper 01, "The plan image")

module _ (rs : Table → List (List ℕ)) where
  -- the rows of all tables, word for word
  unfoldable pub table_words : List Table → List ℕ
  table_words [] = []
  table_words (t ∷ ts) = flat_map (λ x. x) (rs t) ++ table_words ts

  -- offset and count of each table, the first one's offset given; then the last word, the trailer's start, where the last table ends
  unfoldable pub layout_from : ℕ → List Table → List ℕ
  layout_from from [] = from ∷ []
  layout_from from (t ∷ ts) = from ∷ length (rs t) ∷ layout_from (from + 4 * ((shape t).width * length (rs t))) ts

  -- with cycle h and precision p: its words, its bytes
  unfoldable pub image_words : ℕ → ℕ → List ℕ
  image_words h p = table_words tables ++ (h ∷ p ∷ layout_from 0 tables)

  unfoldable pub image_of : ℕ → ℕ → List ℕ
  image_of h p = flat_map (bytes_of 4) (image_words h p)

  -- are row counts in bounds
  unfoldable pub rows_fit : List Table → Bool
  rows_fit [] = true
  rows_fit (t ∷ ts) = leb (length (rs t)) (shape t).most && rows_fit ts

-- ---- where two plans agree

-- a is the first plan's image, b the second's
module _ (a b : List ℕ) where
  -- have the first n rows of a table equal words; has it as many rows, with equal words
  unfoldable pub agree_to : ℕ → Table → Bool
  agree_to n t = all n (λ r. same_words (row_words a t r) (row_words b t r))

  unfoldable pub agree : Table → Bool
  agree t = eqb (rows a t) (rows b t) && agree_to (rows a t) t

  -- 35: do H, P, cores, VCPUs, windows and links agree?
  unfoldable pub plans_agree : Bool
  plans_agree =
      eqb (cycle_ticks a) (cycle_ticks b) && eqb (precision a) (precision b) && agree Cores && agree Vcpus && agree Windows && agree Links

-- ---- the joined plan

-- does word j of a row name a task; a stream
unfoldable pub names_task : Table → ℕ → Bool
names_task Cores j = false
names_task Vcpus j = false
names_task Tasks j = false
names_task Windows j = false
names_task Pieces j = eqb j 0
names_task Links j = false
names_task Streams j = ltb j 2
names_task Frames j = false
names_task Buffers j = ltb 0 j && ltb j 3
names_task Chains j = ltb j 2

unfoldable pub names_stream : Table → ℕ → Bool
names_stream Cores j = false
names_stream Vcpus j = false
names_stream Tasks j = false
names_stream Windows j = false
names_stream Pieces j = false
names_stream Links j = false
names_stream Streams j = false
names_stream Frames j = eqb j 0
names_stream Buffers j = false
names_stream Chains j = false

-- s is the number of leading task rows that both share
module _ (a b : List ℕ) (s : ℕ) where
  -- the number that task t of the second has in the joined plan
  unfoldable pub task_at : ℕ → ℕ
  task_at t = cond (ltb t s) t (rows a Tasks + (t - s))

  -- a word of the second's rows where its tasks have their new numbers
  unfoldable pub with_tasks : Table → ℕ → ℕ → ℕ
  with_tasks t j w = cond (names_task t j) (task_at w) w

  -- the number that stream m of the second has in the joined plan
  unfoldable pub stream_at : ℕ → ℕ
  stream_at m = row_at (rows_of a Streams) (rows_by b Streams (with_tasks Streams)) m

  -- a word of the second's rows, renumbered: its streams have their new numbers too; all its rows so
  unfoldable pub renumber : Table → ℕ → ℕ → ℕ
  renumber t j w = cond (names_stream t j) (stream_at w) (with_tasks t j w)

  unfoldable pub second_rows : Table → List (List ℕ)
  second_rows t = rows_by b t (renumber t)

  -- a renumbered row that equals a row of the first is that row, others are appended
  unfoldable pub appended : Table → List (List ℕ)
  appended t = rows_of a t ++ new_rows (rows_of a t) (second_rows t)

  -- the first plan whole, with what the second adds; windows are the first's, which are in order
  unfoldable pub joined_rows : Table → List (List ℕ)
  joined_rows Cores = rows_of a Cores
  joined_rows Vcpus = rows_of a Vcpus
  joined_rows Tasks = rows_of a Tasks ++ drop s (rows_of b Tasks)
  joined_rows Windows = rows_of a Windows
  joined_rows Pieces = sorted Pieces (appended Pieces)
  joined_rows Links = rows_of a Links
  joined_rows Streams = appended Streams
  joined_rows Frames = sorted Frames (appended Frames)
  joined_rows Buffers = appended Buffers
  joined_rows Chains = appended Chains

  -- no row names a window, a piece or a frame, so putting these in order renumbers nothing
  unfoldable pub joined_image : List ℕ
  joined_image = image_of joined_rows (cycle_ticks a) (precision a)

  -- ---- what is asked

  -- 36: is s in both counts with equal rows?
  unfoldable pub tasks_shared : Bool
  tasks_shared = leb s (rows a Tasks) && leb s (rows b Tasks) && agree_to a b s Tasks

  -- 37: do row limits and the lent bytes, so many, suffice?
  unfoldable pub join_fits : ℕ → Bool
  join_fits lent = rows_fit joined_rows tables && leb (length joined_image) lent

  -- both inputs, the first before the second, then 35 to 37: a refusal here changes no lent byte
  unfoldable pub input_questions : ℕ → List Question
  input_questions lent = questions a ++ (questions b ++ (whole 35 (plans_agree a b) ∷ whole 36 tasks_shared ∷ whole 37 (join_fits lent) ∷ []))

  -- all of these say yes: from here on the result is written, whatever its own questions say
  unfoldable pub joinable : ℕ → Bool
  joinable lent = eqb (answer_to (input_questions lent)).number 0

  -- the first no of all, the result's questions last; in one number, for C
  unfoldable pub join_answer : ℕ → Answer
  join_answer lent = answer_to (input_questions lent ++ questions joined_image)

  unfoldable pub join_number : ℕ → ℕ
  join_number lent = answer_number (join_answer lent)

  -- the length, and the lent bytes afterwards; later bytes stay as they were
  unfoldable pub join_length : ℕ → ℕ
  join_length lent = cond (joinable lent) (length joined_image) 0

  unfoldable pub join_bytes : List ℕ → List ℕ
  join_bytes lent = cond (joinable (length lent)) (joined_image ++ drop (length joined_image) lent) lent

-- All of the above, for a proof by computation: `unfolding joining` opens it.
unfoldable pub joining : Unit {0}
unfolding asking flat_map bytes_of answer_number below row_by rows_by row_words rows_of same_words lowest is_new new_rows row_at start_word by_start insert sorted table_words layout_from
    image_words image_of rows_fit names_task names_stream task_at with_tasks stream_at renumber second_rows appended joined_rows joined_image agree_to agree plans_agree
    tasks_shared join_fits input_questions joinable join_answer join_number join_length join_bytes
joining = tt
