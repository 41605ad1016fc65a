-- What asking for a frame's arrivals tells: refused by the check, or by 5.
use Rattle.std.proofs.Common.{◌≡◌, List, ℕ, ◌≤◌, Result, Err}
use mathlib.Core.Path.{sym, ap, subst, ◌∙◌}
use native.Mathlib.Omega.{arith}
use Rattle.plan.specs.declared.Answer.{Answer}
use Rattle.plan.specs.declared.Table.TheVariants.{Frames}
use Rattle.plan.specs.Image.{rows}
use Rattle.plan.specs.Questions.{questions, answer_of, accepted}
use Rattle.asking.specs.Asking.{verdict}
use Rattle.questions.proofs.Verdict.{ask_refuses, ask_numbers}
use Rattle.arrivals.specs.declared.Arrival.{Arrival}
use Rattle.arrivals.proofs.Answers.{by_check, no_frame, answer_is}
use Rattle.arriving.specs.Asked.{Asks}

module _ (s : List ℕ) where
  module _ (f : ℕ) where
    pub refused_by_check : (x : Answer) (r : Result (Unit {0}) Answer) → Err x ≡ verdict (questions s) → r ≡ Err x → Asks s f r
    refused_by_check x r e d =
        let q = ask_refuses s x e in
        let h = ask_numbers s x e in
        subst (Asks s f) (sym d) (sym (answer_is s f) ∙ ap (λ (a : Arrival). a.answer) (by_check s f h) ∙ q, λ z. h (ap (λ (a : Answer). a.number) q ∙ z))

    -- 5: there is no such frame
    pub refused_by_row : answer_of s ≡ accepted → rows s Frames ≤ f → Asks s f (Err (record { number = 5; table = 8; row = f }))
    refused_by_row e h = (sym (answer_is s f) ∙ ap (λ (a : Arrival). a.answer) (no_frame s f e h), λ z. absurd (omega arith))
