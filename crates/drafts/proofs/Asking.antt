-- The number of a call: 0 exactly if every question is answered yes.
use Prim.Native.Nat.{ℕ, suc, ◌≤◌}
use mathlib.Core.Path.{◌≡◌, refl, sym, ap, ◌∙◌}
use mathlib.Core.Logic.{◌≢◌}
use mathlib.Core.Bool.{Bool, true, false, true≢false}
use borrow.Author.Tests.{eq-eqb, ne_eqb}
use mathlib.Core.List.{List, ◌∷◌, ◌++◌, []}
use native.Mathlib.Decide.{ℕ_discrete}
use native.Mathlib.Omega.{arith}
use Rattle.plan.specs.declared.Answer.{Answer}
use Rattle.plan.specs.Search.{first_no}
use Rattle.plan.specs.Questions.{Question, whole, answer_to}
use Rattle.plan.proofs.Asking.{Real, then_asked, stopped_first}
use Rattle.drafts.specs.Edits.{number_of, leaves, gives}

pub asked_none : number_of [] ≡ 0
unfolding number_of answer_to
asked_none = refl

pub asked_yes : (q : ℕ) (b : Bool) (qs : List Question) → b ≡ true → number_of (whole q b ∷ qs) ≡ number_of qs
unfolding number_of answer_to whole first_no
asked_yes q true qs e = refl
asked_yes q false qs e = absurd (true≢false (sym e))

pub asked_no : (q : ℕ) (b : Bool) (qs : List Question) → b ≡ false → number_of (whole q b ∷ qs) ≡ q
unfolding number_of answer_to whole first_no
asked_no q true qs e = absurd (true≢false e)
asked_no q false qs e = refl

-- a call that gives 0
pub asked_zero : (q : ℕ) (b : Bool) (qs : List Question) → 1 ≤ q → number_of (whole q b ∷ qs) ≡ 0 → (b ≡ true) × (number_of qs ≡ 0)
asked_zero q true qs l e = (refl, sym (asked_yes q true qs refl) ∙ e)
asked_zero q false qs l e = absurd (let z = asked_no q false qs refl in omega arith)

pub both_zero : (ps qs : List Question) → Real ps → (answer_to (ps ++ qs)).number ≡ 0 → ((answer_to ps).number ≡ 0) × ((answer_to qs).number ≡ 0)
both_zero ps qs g e = go (ℕ_discrete (answer_to ps).number 0)
  where
    go : Dec ((answer_to ps).number ≡ 0) → ((answer_to ps).number ≡ 0) × ((answer_to qs).number ≡ 0)
    go (yes d) = (d, sym (ap (λ (a : Answer). a.number) (then_asked ps qs g d)) ∙ e)
    go (no d) = absurd (d (sym (ap (λ (a : Answer). a.number) (stopped_first ps qs d)) ∙ e))

-- what a call leaves
pub leaves_new : (n : ℕ) (new w : List ℕ) → n ≡ 0 → leaves n new w ≡ new
unfolding leaves
leaves_new n new w e = rw (eq-eqb n 0 e) refl

pub leaves_old : (n : ℕ) (new w : List ℕ) → n ≢ 0 → leaves n new w ≡ w
unfolding leaves
leaves_old n new w e = rw (ne_eqb n 0 e) refl

-- and what a reading gives
pub gives_value : (n v : ℕ) → n ≡ 0 → gives n v ≡ v
unfolding gives
gives_value n v e = rw (eq-eqb n 0 e) refl

pub gives_none : (n v : ℕ) → n ≢ 0 → gives n v ≡ 0
unfolding gives
gives_none n v e = rw (ne_eqb n 0 e) refl

-- a number of a question
pub not_zero : {n k : ℕ} → n ≡ suc k → n ≢ 0
not_zero e z = omega arith
