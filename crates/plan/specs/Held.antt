-- What the questions asked so far have shown: the statements that code may assume which asks the next.
use Rattle.std.specs.Prelude.{ℕ, ◌≤◌, ◌<◌, List, length, ◌≡◌}
use Rattle.plan.specs.declared.Table.{Table}
use Rattle.plan.specs.declared.Table.TheVariants.{Cores, Streams}
use Rattle.plan.specs.Image.{shape, trailer_bytes, table_end, rows, cycle_ticks, precision}
use Rattle.plan.specs.Reading.{Names, InOrder, InRange, QueueFits}
use Rattle.plan.specs.Search.{first_no}
use Rattle.plan.specs.Questions.{Question, question_at, each}
use Rattle.plan.specs.declared.Asked.{Asked}
use Rattle.std.specs.Prelude.{Option}
use Rattle.std.specs.Prelude.{None}

-- 1 and 3: the trailer and every table lie in the image, and row counts are in bounds
pub record InImage (s : List ℕ) : Type 0 where
  pub trailer : trailer_bytes ≤ length s
  pub counts : (t : Table) → rows s t ≤ (shape t).most
  pub ends : (t : Table) → table_end s t ≤ length s

-- 1 to 6 and 32: besides, there is a core, H and P are in range, row numbers name rows, rows are in order, and values are in range
pub record Sound (s : List ℕ) : Type 0 where
  pub inside : InImage s
  pub core : 1 ≤ rows s Cores
  pub cycle : 1 ≤ cycle_ticks s
  pub cycle_most : cycle_ticks s ≤ 1000000
  pub clocks : precision s ≤ 10000
  pub names : (t : Table) (r : ℕ) → r < rows s t → Names s t r
  pub order : (t : Table) (r : ℕ) → r < rows s t → InOrder s t r
  pub ranges : (t : Table) (r : ℕ) → r < rows s t → InRange s t r

-- 40: every stream's queue is in range
abbrev pub Queued : List ℕ → Type 0
Queued s = (m : ℕ) → m < rows s Streams → QueueFits s m

-- the lowest row that says no to a question
abbrev pub refusing : Question → Option ℕ
refusing q = first_no q.many q.ok

-- no row says no to any of the first i questions of a list
abbrev pub Passed : List Question → ℕ → Type 0
Passed qs i = (j : ℕ) → j < i → refusing (question_at qs j) ≡ None

-- of every image, question i of a list has this number and asks each row of this table
abbrev pub Listed : (List ℕ → List Question) → ℕ → Asked → Type 0
Listed qs i a = (s : List ℕ) → question_at (qs s) i ≡ each s a.number a.table (question_at (qs s) i).ok
