-- The queues of all links by place, eight for each link; and what is known where question 41 is asked.
use Rattle.std.specs.Prelude.{ℕ, ◌+◌, ◌*◌, List}
use Rattle.plan.specs.Image.{frame, most_links}
use Rattle.plan.specs.Questions.{queue_of, stream_questions}
use Rattle.plan.specs.Held.{Passed, Queued}
use Rattle.jobs.specs.Times.{Timed}
use Rattle.frames.specs.Index.{Framed, Indexed}

-- how many there may be, and a frame's
abbrev pub most_queues : ℕ
most_queues = 8 * most_links

unfoldable pub queue_place : List ℕ → ℕ → ℕ
queue_place s f = 8 * (frame s f).link + queue_of s f

-- 1 to 6, 32, 40 and 14 to 20 are passed, and times and frames are gathered
pub record Waited (s times index : List ℕ) : Type 0 where
  pub framed : Framed s
  pub queued : Queued s
  pub timed : Timed s times
  pub indexed : Indexed s index
  pub passed : Passed (stream_questions s) 7
