-- What asking questions in order tells: nothing where all are passed, else the answer to the first that a row says no to, as an error.
use Rattle.std.specs.Prelude.{ℕ, List, [], ◌∷◌, Option, Some, None, Result, Ok, Err}
use Rattle.plan.specs.declared.Answer.{Answer}
use Rattle.plan.specs.declared.Asked.{Asked}
use Rattle.plan.specs.Image.{shape}
use Rattle.plan.specs.Search.{first_no}
use Rattle.plan.specs.Questions.{Question}

-- of one question, by the lowest row that says no to it
unfoldable pub told : Asked → Option ℕ → Result (Unit {0}) Answer
told a (Some r) = Err (record { number = a.number; table = (shape a.table).number; row = r })
told a None = Ok tt

unfoldable pub verdict : List Question → Result (Unit {0}) Answer
verdict [] = Ok tt
verdict (q ∷ qs) = elim (first_no q.many q.ok) [ Some r ↦ Err (record { number = q.asked; table = q.table; row = r }) | None ↦ verdict qs ]
