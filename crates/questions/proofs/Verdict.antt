-- What `ask` says of the check's answer: for who asks the questions of an image and goes on.
use Rattle.std.proofs.Common.{◌≡◌, List, ℕ, Ok, Err, refl, length}
use mathlib.Core.Path.{sym, ap, ◌∙◌}
use mathlib.Core.Logic.{◌≢◌}
use Rattle.plan.specs.declared.Answer.{Answer}
use Rattle.plan.specs.Questions.{questions, answer_of, accepted}
use Rattle.plan.proofs.Asking as Before
use Rattle.plan.proofs.Numbers.{real}
use Rattle.asking.specs.Asking.{verdict}
use Rattle.asking.proofs.Verdicts.{answer_in, answered, all_passed}

module _ (s : List ℕ) where
  pub ask_accepts : Ok tt ≡ verdict (questions s) → answer_of s ≡ accepted
  unfolding answer_of
  ask_accepts e = sym (ap answer_in e ∙ answered (questions s))

  pub ask_refuses : (x : Answer) → Err x ≡ verdict (questions s) → answer_of s ≡ x
  unfolding answer_of
  ask_refuses x e = sym (ap answer_in e ∙ answered (questions s))

  -- a refusal has a number
  pub ask_numbers : (x : Answer) → Err x ≡ verdict (questions s) → (answer_of s).number ≢ 0
  unfolding answer_of
  ask_numbers x e z = let w : Ok tt ≡ Err x = all_passed (questions s) (length (questions s)) refl (Before.passed_of (questions s) (real s) z) ∙ sym e in cc
