-- Each question in its place of the list, by what is told of it.
use Rattle.std.proofs.Common.{ℕ, ◌≡◌, refl, arith, List, Result}
use Rattle.plan.specs.declared.Answer.{Answer}
use Rattle.plan.specs.declared.Table.TheVariants.{Frames, Streams}
use Rattle.plan.specs.Image.{rows}
use Rattle.plan.specs.Search.{first_no}
use Rattle.plan.specs.Held.{Passed}
use Rattle.plan.specs.Questions.{each, each_job, frame_clear, frame_fits, hop_waits, in_time, joined, message_waits, one_frame, question_at, stay_clear, stream_ends, stream_questions}
use Rattle.asking.specs.Asking.{told}
use Rattle.asking.proofs.Verdicts.{AskedTo, asks}

module _ (s : List ℕ) (r : Result (Unit {0}) Answer) where
  pub ends : Passed (stream_questions s) 0 → r ≡ told (record { number = 14; table = Streams }) (first_no (rows s Streams) (stream_ends s))
      → AskedTo (stream_questions s) 1 r
  unfolding stream_questions question_at each
  ends h e = asks (stream_questions s) 0 (record { number = 14; table = Streams }) r (record { number = refl; table = refl }) (omega arith) h e

  pub fits : Passed (stream_questions s) 1 → r ≡ told (record { number = 15; table = Frames }) (first_no (rows s Frames) (frame_fits s))
      → AskedTo (stream_questions s) 2 r
  unfolding stream_questions question_at each
  fits h e = asks (stream_questions s) 1 (record { number = 15; table = Frames }) r (record { number = refl; table = refl }) (omega arith) h e

  pub one : Passed (stream_questions s) 2 → r ≡ told (record { number = 16; table = Streams }) (first_no (rows s Streams) (each_job s (one_frame s)))
      → AskedTo (stream_questions s) 3 r
  unfolding stream_questions question_at each
  one h e = asks (stream_questions s) 2 (record { number = 16; table = Streams }) r (record { number = refl; table = refl }) (omega arith) h e

  pub joins : Passed (stream_questions s) 3 → r ≡ told (record { number = 17; table = Streams }) (first_no (rows s Streams) (each_job s (joined s)))
      → AskedTo (stream_questions s) 4 r
  unfolding stream_questions question_at each
  joins h e = asks (stream_questions s) 3 (record { number = 17; table = Streams }) r (record { number = refl; table = refl }) (omega arith) h e

  pub hop : Passed (stream_questions s) 4 → r ≡ told (record { number = 18; table = Frames }) (first_no (rows s Frames) (hop_waits s))
      → AskedTo (stream_questions s) 5 r
  unfolding stream_questions question_at each
  hop h e = asks (stream_questions s) 4 (record { number = 18; table = Frames }) r (record { number = refl; table = refl }) (omega arith) h e

  pub clear : Passed (stream_questions s) 5 → r ≡ told (record { number = 19; table = Frames }) (first_no (rows s Frames) (frame_clear s))
      → AskedTo (stream_questions s) 6 r
  unfolding stream_questions question_at each
  clear h e = asks (stream_questions s) 5 (record { number = 19; table = Frames }) r (record { number = refl; table = refl }) (omega arith) h e

  pub waits : Passed (stream_questions s) 6 → r ≡ told (record { number = 20; table = Streams }) (first_no (rows s Streams) (each_job s (message_waits s)))
      → AskedTo (stream_questions s) 7 r
  unfolding stream_questions question_at each
  waits h e = asks (stream_questions s) 6 (record { number = 20; table = Streams }) r (record { number = refl; table = refl }) (omega arith) h e

  pub timely : Passed (stream_questions s) 7 → r ≡ told (record { number = 21; table = Streams }) (first_no (rows s Streams) (each_job s (in_time s)))
      → AskedTo (stream_questions s) 8 r
  unfolding stream_questions question_at each
  timely h e = asks (stream_questions s) 7 (record { number = 21; table = Streams }) r (record { number = refl; table = refl }) (omega arith) h e

  pub stays : Passed (stream_questions s) 8 → r ≡ told (record { number = 41; table = Frames }) (first_no (rows s Frames) (stay_clear s))
      → AskedTo (stream_questions s) 9 r
  unfolding stream_questions question_at each
  stays h e = asks (stream_questions s) 8 (record { number = 41; table = Frames }) r (record { number = refl; table = refl }) (omega arith) h e
