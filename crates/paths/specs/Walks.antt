-- The walk from a task to the messages it sends, and from a message to the task that reads it.
use Rattle.std.specs.Prelude.{ℕ, ◌+◌, ◌-◌, ◌<◌, ◌≡◌, ◌≢◌, Bool, false, ◌&&◌, cond, List, length, get_or, ltb, leb, eqb}
use Rattle.plan.specs.declared.Table.TheVariants.{Tasks, Streams, Buffers}
use Rattle.plan.specs.Image.{rows, precision, stream, buffer, chain, most_tasks}
use Rattle.plan.specs.Search.{leads}
use Rattle.plan.specs.Questions.{joins, first_start, last_end, chain_limit, piece_questions, stream_questions, buffer_questions}
use Rattle.plan.specs.Held.{Sound, Passed}

-- what questions 1 to 24, 32 and 41 have shown
pub record BeforeChains (s : List ℕ) : Type 0 where
  pub sound : Sound s
  pub pieces : Passed (piece_questions s) 7
  pub streams : Passed (stream_questions s) 9
  pub buffers : Passed (buffer_questions s) 3

module _ (s : List ℕ) where
  -- messages by number: the streams, by row, then the buffers' rows; who sends one, and who reads it
  unfoldable pub messages : ℕ
  messages = rows s Streams + rows s Buffers

  unfoldable pub sender_of : ℕ → ℕ
  sender_of m = cond (ltb m (rows s Streams)) (stream s m).sender (buffer s (m - rows s Streams)).writer

  unfoldable pub reader_of : ℕ → ℕ
  reader_of m = cond (ltb m (rows s Streams)) (stream s m).receiver (buffer s (m - rows s Streams)).reader

  -- messages lead from a task to another, or it is that task
  unfoldable pub leads_to : ℕ → ℕ → Bool
  leads_to a b = leads (rows s Tasks) (joins s) (rows s Tasks) a b

  -- a message that task a sends, and whose reader leads to task b
  unfoldable pub sent_on : ℕ → ℕ → ℕ → Bool
  sent_on a b m = eqb (sender_of m) a && leads_to (reader_of m) b

  -- a word for each task: those that are marked do not lead to task b
  pub record Marked (b : ℕ) (marks : List ℕ) : Type 0 where
    pub size : length marks ≡ most_tasks
    pub dead : (t : ℕ) → t < rows s Tasks → get_or marks t 0 ≢ 0 → leads_to t b ≡ false

-- 31, of a job
unfoldable pub job_within : List ℕ → ℕ → ℕ → Bool
job_within s x k = leb (last_end s (chain s x).last k + precision s) (chain_limit s x + first_start s (chain s x).first k)
