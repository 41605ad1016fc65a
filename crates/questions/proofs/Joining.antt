-- The parts of the check put together: what the earlier ones show for the later, and the lists of all.
use Rattle.std.proofs.Common.{◌≡◌, List, ℕ, ◌++◌, Result, Ok, Err, IfOk}
use Rattle.plan.specs.declared.Answer.{Answer}
use mathlib.Core.Path.{◌∙◌}
use mathlib.Core.List.{append_assoc}
use Rattle.plan.specs.Questions.{questions, image_questions, row_questions, queue_questions, piece_questions, stream_questions, buffer_questions, chain_questions, plan_questions}
use Rattle.plan.specs.Held.{Sound, Queued, Passed}
use Rattle.plan.proofs.Passing.{queues_fit}
use Rattle.asking.specs.Asking.{verdict}
use Rattle.asking.proofs.Verdicts.{passed_of}
use Rattle.paths.specs.Walks.{BeforeChains}

-- what is ensured where nothing is told
pub where_passed : (P : Type 0) (r : Result (Unit {0}) Answer) → IfOk r (λ u. P) → r ≡ Ok tt → P
where_passed P (Ok u) h e = h
where_passed P (Err x) h e = absurd (let w : Err x ≡ Ok tt = e in cc)

module _ (s : List ℕ) where
  pub pieces_passed : Ok tt ≡ verdict (piece_questions s) → Passed (piece_questions s) 7
  unfolding piece_questions
  pieces_passed e = passed_of (piece_questions s) e

  pub queues_held : Ok tt ≡ verdict (queue_questions s) → Queued s
  unfolding queue_questions
  queues_held e = queues_fit s (passed_of (queue_questions s) e)

  -- what 1 to 24 and 41 have shown, for the chains
  pub before_chains : Sound s → Passed (piece_questions s) 7 → Ok tt ≡ verdict (stream_questions s) → Ok tt ≡ verdict (buffer_questions s) → BeforeChains s
  unfolding stream_questions buffer_questions
  before_chains h p e b = record { sound = h; pieces = p; streams = passed_of (stream_questions s) e; buffers = passed_of (buffer_questions s) b }

  -- the lists one after another
  pub all_in_turn : questions s ≡ image_questions s ++ (row_questions s ++ (queue_questions s ++ plan_questions s))
  unfolding questions
  all_in_turn =
      append_assoc (image_questions s ++ row_questions s) (queue_questions s) (plan_questions s)
      ∙ append_assoc (image_questions s) (row_questions s) (queue_questions s ++ plan_questions s)

  pub plan_in_turn : plan_questions s ≡ piece_questions s ++ (stream_questions s ++ (buffer_questions s ++ chain_questions s))
  unfolding plan_questions
  plan_in_turn =
      append_assoc (piece_questions s ++ stream_questions s) (buffer_questions s) (chain_questions s)
      ∙ append_assoc (piece_questions s) (stream_questions s) (buffer_questions s ++ chain_questions s)
