-- What asking for a frame's arrivals tells: the plan is accepted and has such a frame; or the answer, a refusal.
use Rattle.std.specs.Prelude.{ℕ, ◌<◌, ◌≡◌, List, Result, Ok, Err}
use mathlib.Core.Logic.{◌≢◌}
use Rattle.plan.specs.declared.Answer.{Answer}
use Rattle.plan.specs.declared.Table.TheVariants.{Frames}
use Rattle.plan.specs.Image.{rows}
use Rattle.plan.specs.Questions.{answer_of, accepted}
use Rattle.arrivals.specs.Arrivals.{arrival_answer}

abbrev pub Asks : List ℕ → ℕ → Result (Unit {0}) Answer → Type 0
Asks s f (Ok u) = (answer_of s ≡ accepted) × (f < rows s Frames)
Asks s f (Err x) = (arrival_answer s f ≡ x) × (x.number ≢ 0)
