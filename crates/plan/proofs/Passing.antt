-- What a question that is passed says of each row: for code that asks a later one.
use Prim.Native.Nat.{ℕ, ◌≤◌}
use mathlib.Core.List.{List}
use native.Mathlib.Omega.{arith}
use Rattle.plan.specs.declared.Table.TheVariants.{Tasks, Windows, Pieces, Streams, Frames}
use Rattle.plan.specs.Image.{cycle_ticks}
use Rattle.plan.specs.Questions.{queue_questions, piece_questions, stream_questions, question_at, each, piece_end}
use Rattle.plan.specs.Reading.{WindowFits, WindowApart, PieceFits, PieceInside, TaskBudget, StreamEnds, FrameFits, EachJob, OneFrame, HopWaits, MessageWaits}
use Rattle.plan.specs.Held.{Passed, Queued}
use Rattle.plan.proofs.Asking.{passed_row}
use Rattle.plan.proofs.Meanings as M
use Rattle.plan.proofs.Sounds.{Rows}

pub queues_fit : (s : List ℕ) → Passed (queue_questions s) 1 → Queued s
unfolding queue_questions question_at each
queues_fit s h m l = (M.queue_fits_holds s m).0 (passed_row (queue_questions s) 1 h 0 (omega arith) m l)

module _ (s : List ℕ) (n : ℕ) where
  module _ (h : Passed (piece_questions s) n) where
    pub windows_fit : 1 ≤ n → Rows s Windows (WindowFits s)
    unfolding piece_questions question_at each
    windows_fit l w m = (M.window_fits_holds s w).0 (passed_row (piece_questions s) n h 0 l w m)

    pub windows_apart : 2 ≤ n → Rows s Windows (WindowApart s)
    unfolding piece_questions question_at each
    windows_apart l w m = (M.window_apart_holds s w).0 (passed_row (piece_questions s) n h 1 l w m)

    pub pieces_fit : 4 ≤ n → Rows s Pieces (PieceFits s)
    unfolding piece_questions question_at each
    pieces_fit l i m = (M.piece_fits_holds s i).0 (passed_row (piece_questions s) n h 3 l i m)

    pub pieces_inside : 5 ≤ n → Rows s Pieces (PieceInside s)
    unfolding piece_questions question_at each
    pieces_inside l i m = (M.piece_inside_holds s i).0 (passed_row (piece_questions s) n h 4 l i m)

    pub tasks_budget : 7 ≤ n → Rows s Tasks (TaskBudget s)
    unfolding piece_questions question_at each
    tasks_budget l t m = (M.task_budget_holds s t).0 (passed_row (piece_questions s) n h 6 l t m)

    -- a piece ends in the cycle
    pub piece_ends : 5 ≤ n → Rows s Pieces (λ i. piece_end s i ≤ cycle_ticks s)
    piece_ends l i m = let w = pieces_inside l i m in omega (arith, w.4, (windows_fit (omega arith) w.0 w.1).1)

  module _ (h : Passed (stream_questions s) n) where
    pub streams_end : 1 ≤ n → Rows s Streams (StreamEnds s)
    unfolding stream_questions question_at each
    streams_end l m k = (M.stream_ends_holds s m).0 (passed_row (stream_questions s) n h 0 l m k)

    pub frames_fit : 2 ≤ n → Rows s Frames (FrameFits s)
    unfolding stream_questions question_at each
    frames_fit l f m = (M.frame_fits_holds s f).0 (passed_row (stream_questions s) n h 1 l f m)

    pub one_frame_holds : 3 ≤ n → Rows s Streams (EachJob s (OneFrame s))
    unfolding stream_questions question_at each
    one_frame_holds l m k = (M.each_job_holds s (M.one_frame_holds s) m).0 (passed_row (stream_questions s) n h 2 l m k)

    pub hops_wait : 5 ≤ n → Rows s Frames (HopWaits s)
    unfolding stream_questions question_at each
    hops_wait l f m = (M.hop_waits_holds s f).0 (passed_row (stream_questions s) n h 4 l f m)

    pub messages_wait : 7 ≤ n → Rows s Streams (EachJob s (MessageWaits s))
    unfolding stream_questions question_at each
    messages_wait l m k = (M.each_job_holds s (M.message_waits_holds s) m).0 (passed_row (stream_questions s) n h 6 l m k)
