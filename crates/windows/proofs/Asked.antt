-- Each question in its place of the list, by what is told of it.
use Rattle.std.proofs.Common.{ℕ, ◌≡◌, refl, arith, List, Result}
use Rattle.plan.specs.declared.Answer.{Answer}
use Rattle.plan.specs.declared.Table.TheVariants.{Pieces, Tasks, Windows}
use Rattle.plan.specs.Image.{rows}
use Rattle.plan.specs.Search.{first_no}
use Rattle.plan.specs.Held.{Passed}
use Rattle.plan.specs.Questions.{each, mask_allows, piece_clear, piece_fits, piece_inside, piece_questions, question_at, task_budget, window_clear, window_fits}
use Rattle.asking.specs.Asking.{told}
use Rattle.asking.proofs.Verdicts.{AskedTo, asks}

module _ (s : List ℕ) (r : Result (Unit {0}) Answer) where
  pub fits : Passed (piece_questions s) 0 → r ≡ told (record { number = 7; table = Windows }) (first_no (rows s Windows) (window_fits s))
      → AskedTo (piece_questions s) 1 r
  unfolding piece_questions question_at each
  fits h e = asks (piece_questions s) 0 (record { number = 7; table = Windows }) r (record { number = refl; table = refl }) (omega arith) h e

  pub clear : Passed (piece_questions s) 1 → r ≡ told (record { number = 8; table = Windows }) (first_no (rows s Windows) (window_clear s))
      → AskedTo (piece_questions s) 2 r
  unfolding piece_questions question_at each
  clear h e = asks (piece_questions s) 1 (record { number = 8; table = Windows }) r (record { number = refl; table = refl }) (omega arith) h e

  pub allows : Passed (piece_questions s) 2 → r ≡ told (record { number = 9; table = Tasks }) (first_no (rows s Tasks) (mask_allows s))
      → AskedTo (piece_questions s) 3 r
  unfolding piece_questions question_at each
  allows h e = asks (piece_questions s) 2 (record { number = 9; table = Tasks }) r (record { number = refl; table = refl }) (omega arith) h e

  pub piece : Passed (piece_questions s) 3 → r ≡ told (record { number = 10; table = Pieces }) (first_no (rows s Pieces) (piece_fits s))
      → AskedTo (piece_questions s) 4 r
  unfolding piece_questions question_at each
  piece h e = asks (piece_questions s) 3 (record { number = 10; table = Pieces }) r (record { number = refl; table = refl }) (omega arith) h e

  pub inside : Passed (piece_questions s) 4 → r ≡ told (record { number = 11; table = Pieces }) (first_no (rows s Pieces) (piece_inside s))
      → AskedTo (piece_questions s) 5 r
  unfolding piece_questions question_at each
  inside h e = asks (piece_questions s) 4 (record { number = 11; table = Pieces }) r (record { number = refl; table = refl }) (omega arith) h e

  pub apart : Passed (piece_questions s) 5 → r ≡ told (record { number = 12; table = Pieces }) (first_no (rows s Pieces) (piece_clear s))
      → AskedTo (piece_questions s) 6 r
  unfolding piece_questions question_at each
  apart h e = asks (piece_questions s) 5 (record { number = 12; table = Pieces }) r (record { number = refl; table = refl }) (omega arith) h e

  pub budget : Passed (piece_questions s) 6 → r ≡ told (record { number = 13; table = Tasks }) (first_no (rows s Tasks) (task_budget s))
      → AskedTo (piece_questions s) 7 r
  unfolding piece_questions question_at each
  budget h e = asks (piece_questions s) 6 (record { number = 13; table = Tasks }) r (record { number = refl; table = refl }) (omega arith) h e
