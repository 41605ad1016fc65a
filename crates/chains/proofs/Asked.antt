-- Each question of `ask` in its place of the list, by what is told of it.
use Rattle.std.proofs.Common.{ℕ, ◌≡◌, refl, arith, List, Result}
use Rattle.plan.specs.declared.Answer.{Answer}
use Rattle.plan.specs.declared.Table.TheVariants.{Chains}
use Rattle.plan.specs.Image.{rows}
use Rattle.plan.specs.Search.{first_no}
use Rattle.plan.specs.Held.{Passed}
use Rattle.plan.specs.Questions.{chain_questions, question_at, each, chain_tasks, chain_path, chain_in_time}
use Rattle.asking.specs.Asking.{told}
use Rattle.asking.proofs.Verdicts.{AskedTo, asks}

module _ (s : List ℕ) (r : Result (Unit {0}) Answer) where
  pub tasks : Passed (chain_questions s) 0 → r ≡ told (record { number = 29; table = Chains }) (first_no (rows s Chains) (chain_tasks s))
      → AskedTo (chain_questions s) 1 r
  unfolding chain_questions question_at each
  tasks h e = asks (chain_questions s) 0 (record { number = 29; table = Chains }) r (record { number = refl; table = refl }) (omega arith) h e

  pub path : Passed (chain_questions s) 1 → r ≡ told (record { number = 30; table = Chains }) (first_no (rows s Chains) (chain_path s))
      → AskedTo (chain_questions s) 2 r
  unfolding chain_questions question_at each
  path h e = asks (chain_questions s) 1 (record { number = 30; table = Chains }) r (record { number = refl; table = refl }) (omega arith) h e

  pub in_time : Passed (chain_questions s) 2 → r ≡ told (record { number = 31; table = Chains }) (first_no (rows s Chains) (chain_in_time s))
      → AskedTo (chain_questions s) 3 r
  unfolding chain_questions question_at each
  in_time h e = asks (chain_questions s) 2 (record { number = 31; table = Chains }) r (record { number = refl; table = refl }) (omega arith) h e
