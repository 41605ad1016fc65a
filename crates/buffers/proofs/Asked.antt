-- Each question of `ask` in its place of the list, by what is told of it.
use Rattle.std.proofs.Common.{ℕ, ◌≡◌, refl, arith, List, Result}
use Rattle.plan.specs.declared.Answer.{Answer}
use Rattle.plan.specs.declared.Table.TheVariants.{Buffers}
use Rattle.plan.specs.Image.{rows}
use Rattle.plan.specs.Search.{first_no}
use Rattle.plan.specs.Held.{Passed}
use Rattle.plan.specs.Questions.{buffer_questions, question_at, each, buffer_ends, reader_waits, hold_clear}
use Rattle.asking.specs.Asking.{told}
use Rattle.asking.proofs.Verdicts.{AskedTo, asks}

module _ (s : List ℕ) (r : Result (Unit {0}) Answer) where
  pub ends : Passed (buffer_questions s) 0 → r ≡ told (record { number = 22; table = Buffers }) (first_no (rows s Buffers) (buffer_ends s))
      → AskedTo (buffer_questions s) 1 r
  unfolding buffer_questions question_at each
  ends h e = asks (buffer_questions s) 0 (record { number = 22; table = Buffers }) r (record { number = refl; table = refl }) (omega arith) h e

  pub waits : Passed (buffer_questions s) 1 → r ≡ told (record { number = 23; table = Buffers }) (first_no (rows s Buffers) (reader_waits s))
      → AskedTo (buffer_questions s) 2 r
  unfolding buffer_questions question_at each
  waits h e = asks (buffer_questions s) 1 (record { number = 23; table = Buffers }) r (record { number = refl; table = refl }) (omega arith) h e

  pub clear : Passed (buffer_questions s) 2 → r ≡ told (record { number = 24; table = Buffers }) (first_no (rows s Buffers) (hold_clear s))
      → AskedTo (buffer_questions s) 3 r
  unfolding buffer_questions question_at each
  clear h e = asks (buffer_questions s) 2 (record { number = 24; table = Buffers }) r (record { number = refl; table = refl }) (omega arith) h e
