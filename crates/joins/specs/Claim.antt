-- What is said of joined plans (paper 02, request 10), proved in proofs/.
use Rattle.std.specs.Prelude.{ℕ, suc, ◌<◌, ◌≤◌, ◌≡◌, ◌≢◌, ◌⊎◌, Bool, true, false, ◌&&◌, ◌||◌, List, ◌++◌, [], length, get_or, drop, leb, eqb}
use Rattle.plan.specs.declared.Table.{Table}
use Rattle.plan.specs.declared.Table.TheVariants.{Tasks, Streams}
use Rattle.plan.specs.Search.{rises}
use Rattle.plan.specs.Image.{tables, shape, most_bytes, cycle_ticks, precision, rows}
use Rattle.plan.specs.Questions.{answer_of, accepted, in_order, of_job}
use Rattle.plan.specs.Dispatch.{shown_at}
use Rattle.joins.specs.Joins.{row_by, row_words, rows_of, by_start, plans_agree, task_at, stream_at, renumber, second_rows, joined_rows, joined_image, tasks_shared, join_fits, joinable, join_answer, join_length, join_bytes}

-- every byte is below 256
abbrev pub AreBytes : List ℕ → Type 0
AreBytes b = (i : ℕ) → get_or b i 0 < 256

-- ---- whose answer a join gives, and what is left of the lent bytes

-- The first's own, the second's own, the join's own (35 to 37) or the result's, and only then is an image written.
pub record JoinTells (a b : List ℕ) (s : ℕ) (lent : List ℕ) : Type 0 where
  pub of_first : answer_of a ≢ accepted → (join_answer a b s (length lent) ≡ answer_of a) × (joinable a b s (length lent) ≡ false)
  pub of_second : answer_of a ≡ accepted → answer_of b ≢ accepted → (join_answer a b s (length lent) ≡ answer_of b) × (joinable a b s (length lent) ≡ false)
  pub by_35 : answer_of a ≡ accepted → answer_of b ≡ accepted → plans_agree a b ≡ false
      → (join_answer a b s (length lent) ≡ record { number = 35; table = 0; row = 0 }) × (joinable a b s (length lent) ≡ false)
  pub by_36 : answer_of a ≡ accepted → answer_of b ≡ accepted → plans_agree a b ≡ true → tasks_shared a b s ≡ false
      → (join_answer a b s (length lent) ≡ record { number = 36; table = 0; row = 0 }) × (joinable a b s (length lent) ≡ false)
  pub by_37 : answer_of a ≡ accepted → answer_of b ≡ accepted → plans_agree a b ≡ true → tasks_shared a b s ≡ true → join_fits a b s (length lent) ≡ false
      → (join_answer a b s (length lent) ≡ record { number = 37; table = 0; row = 0 }) × (joinable a b s (length lent) ≡ false)
  pub goes_on : answer_of a ≡ accepted → answer_of b ≡ accepted → plans_agree a b ≡ true → tasks_shared a b s ≡ true → join_fits a b s (length lent) ≡ true
      → joinable a b s (length lent) ≡ true
  pub of_result : joinable a b s (length lent) ≡ true → join_answer a b s (length lent) ≡ answer_of (joined_image a b s)
  pub written : joinable a b s (length lent) ≡ true
      → (join_length a b s (length lent) ≡ length (joined_image a b s)) × (join_bytes a b s lent ≡ joined_image a b s ++ drop (length (joined_image a b s)) lent)
  pub unchanged : joinable a b s (length lent) ≡ false → (join_length a b s (length lent) ≡ 0) × (join_bytes a b s lent ≡ lent)

abbrev pub JoinsTell : Type 0
JoinsTell = (a b : List ℕ) (s : ℕ) (lent : List ℕ) → JoinTells a b s lent

-- ---- the joined rows

-- A row stands among rows. Every row of the first stands in the joined tables, and every row of the second, renumbered, in tables 5 and 7 to 10.
abbrev pub StandsIn : List (List ℕ) → List ℕ → Type 0
StandsIn xs x = (i : ℕ) × (i < length xs) × (get_or xs i [] ≡ x)

unfoldable pub adds : Table → Bool
adds t = eqb (shape t).number 5 || leb 7 (shape t).number

pub record BothStand (a b : List ℕ) (s : ℕ) : Type 0 where
  pub first : (t : Table) (r : ℕ) → r < rows a t → StandsIn (joined_rows a b s t) (row_words a t r)
  pub second : (t : Table) (r : ℕ) → adds t ≡ true → r < rows b t → StandsIn (joined_rows a b s t) (row_by b t (renumber a b s t) r)

abbrev pub JoinsStand : Type 0
JoinsStand = (a b : List ℕ) (s : ℕ) → BothStand a b s

-- rows that rise as question 32 asks, by start and then by their words
abbrev pub Ordered : Table → List (List ℕ) → Type 0
Ordered t xs = (r : ℕ) → suc r < length xs → rises (by_start t (get_or xs r [])) (by_start t (get_or xs (suc r) [])) ≡ true

-- The joined image read: its cycle and precision are the first's, its rows the joined rows, and question 32 says yes of each; it is no longer
-- than question 1 lets through.
pub record ReadsBack (a b : List ℕ) (s : ℕ) : Type 0 where
  pub cycle : cycle_ticks (joined_image a b s) ≡ cycle_ticks a
  pub clocks : precision (joined_image a b s) ≡ precision a
  pub are : (t : Table) → rows_of (joined_image a b s) t ≡ joined_rows a b s t
  pub ordered : (t : Table) (r : ℕ) → r < rows (joined_image a b s) t → in_order (joined_image a b s) t r ≡ true
  pub within : length (joined_image a b s) ≤ most_bytes tables

abbrev pub JoinsRead : Type 0
JoinsRead = (a b : List ℕ) (s lent : ℕ) → AreBytes a → AreBytes b → joinable a b s lent ≡ true → ReadsBack a b s

-- The new numbers name the second's own rows: a task's row is the same, a stream's is the same but for the numbers of its tasks.
pub record NewNumbers (a b : List ℕ) (s : ℕ) : Type 0 where
  pub tasks : (t : ℕ) → t < rows b Tasks
      → (task_at a b s t < length (joined_rows a b s Tasks)) × (get_or (joined_rows a b s Tasks) (task_at a b s t) [] ≡ row_words b Tasks t)
  pub streams : (m : ℕ) → m < rows b Streams
      → (stream_at a b s m < length (joined_rows a b s Streams)) × (get_or (joined_rows a b s Streams) (stream_at a b s m) [] ≡ get_or (second_rows a b s Streams) m [])

abbrev pub JoinsName : Type 0
JoinsName = (a b : List ℕ) (s lent : ℕ) → joinable a b s lent ≡ true → NewNumbers a b s

-- ---- work

-- job k of task t works at tick x of a cycle on lane l
unfoldable pub works_at : List ℕ → ℕ → ℕ → ℕ → ℕ → Bool
works_at s l x t k = eqb (shown_at s l x).kind 4 && of_job s t k (shown_at s l x).row

-- In an accepted result every task of either plan works in the same ticks, on the same lane, as in its own plan; and nothing else works.
pub record SameTicks (a b : List ℕ) (s : ℕ) : Type 0 where
  pub cycles : (cycle_ticks b ≡ cycle_ticks a) × (cycle_ticks (joined_image a b s) ≡ cycle_ticks a)
  pub of_first : (l x t k : ℕ) → x < cycle_ticks a → t < rows a Tasks → works_at (joined_image a b s) l x t k ≡ works_at a l x t k
  pub of_second : (l x t k : ℕ) → x < cycle_ticks a → t < rows b Tasks → works_at (joined_image a b s) l x (task_at a b s t) k ≡ works_at b l x t k
  pub nothing_else : (l x t k : ℕ) → x < cycle_ticks a → works_at (joined_image a b s) l x t k ≡ true
      → ((t < rows a Tasks) × (works_at a l x t k ≡ true)) ⊎ ((u : ℕ) × (u < rows b Tasks) × (task_at a b s u ≡ t) × (works_at b l x u k ≡ true))

abbrev pub JoinKeeps : Type 0
JoinKeeps = (a b : List ℕ) (s lent : ℕ) → AreBytes a → AreBytes b → join_answer a b s lent ≡ accepted → SameTicks a b s
