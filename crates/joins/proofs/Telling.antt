-- Whose answer a join gives, and what is left of the lent bytes.
use Prim.Native.Nat.{ℕ, ◌≤◌}
use mathlib.Core.Path.{◌≡◌, refl, sym, ap, ◌∙◌}
use mathlib.Core.Logic.{◌≢◌}
use mathlib.Core.Bool.{Bool, true, false}
use mathlib.Core.List.{List, ◌∷◌, ◌++◌, []}
use native.Mathlib.Omega.{arith}
use lib.ListN.{length}
use borrow.Author.Tests.{ne_eqb}
use Rattle.plan.specs.declared.Answer.{Answer}
use Rattle.plan.specs.Questions.{Question, whole, questions, answer_to, answer_of, accepted}
use Rattle.plan.specs.Search.{first_no}
use Rattle.plan.proofs.Asking.{then_asked, stopped_first}
use Rattle.plan.proofs.Numbers.{real, accepted_of}
use Rattle.joins.specs.Joins.{joined_image, plans_agree, tasks_shared, join_fits, input_questions, joinable, join_answer, join_length, join_bytes}
use Rattle.joins.specs.Claim.{JoinsTell}
use Rattle.joins.proofs.Asked.{last, real_input, joins_yes}

number_0 : (i : List ℕ) → answer_of i ≢ accepted → (answer_to (questions i)).number ≡ 0 → ⊥
unfolding answer_of
number_0 i d e = d (accepted_of i e)

module _ (a b : List ℕ) (s n : ℕ) where
  joins_no : ((answer_to (input_questions a b s n)).number ≡ 0 → ⊥) → joinable a b s n ≡ false
  unfolding joinable
  joins_no d = ne_eqb (answer_to (input_questions a b s n)).number 0 d

  -- the inputs' answer is the join's where it is a refusal
  input_refused : ((answer_to (input_questions a b s n)).number ≡ 0 → ⊥) → join_answer a b s n ≡ answer_to (input_questions a b s n)
  unfolding join_answer
  input_refused d = stopped_first (input_questions a b s n) (questions (joined_image a b s)) d

  first_refused : answer_of a ≢ accepted → answer_to (input_questions a b s n) ≡ answer_of a
  unfolding input_questions answer_of
  first_refused d = stopped_first (questions a) (questions b ++ last a b s n) (number_0 a d)

  second_refused : answer_of a ≡ accepted → answer_of b ≢ accepted → answer_to (input_questions a b s n) ≡ answer_of b
  unfolding input_questions answer_of
  second_refused e d =
      then_asked (questions a) (questions b ++ last a b s n) (real a) (ap (λ (x : Answer). x.number) e)
      ∙ stopped_first (questions b) (last a b s n) (number_0 b d)

  refused_by : (i : List ℕ) → answer_of i ≢ accepted → answer_to (input_questions a b s n) ≡ answer_of i
      → (join_answer a b s n ≡ answer_of i) × (joinable a b s n ≡ false)
  refused_by i d e =
      let z : (answer_to (input_questions a b s n)).number ≡ 0 → ⊥ = λ q. number_0 i d (unfold answer_of in (sym (ap (λ (x : Answer). x.number) e) ∙ q)) in
      (input_refused z ∙ e, joins_no z)

  result_answers : joinable a b s n ≡ true → join_answer a b s n ≡ answer_of (joined_image a b s)
  unfolding join_answer answer_of
  result_answers e = then_asked (input_questions a b s n) (questions (joined_image a b s)) (real_input a b s n) (joins_yes a b s n e)

-- ---- the join's own answers, of accepted inputs

none_asked : answer_to [] ≡ accepted
unfolding answer_to
none_asked = refl

-- a question about the image itself
whole_yes : (q : ℕ) (c : Bool) (qs : List Question) → c ≡ true → answer_to (whole q c ∷ qs) ≡ answer_to qs
unfolding whole answer_to first_no
whole_yes q c qs e = rw e refl

whole_no : (q : ℕ) (c : Bool) (qs : List Question) → c ≡ false → answer_to (whole q c ∷ qs) ≡ record { number = q; table = 0; row = 0 }
unfolding whole answer_to first_no
whole_no q c qs e = rw e refl

module _ (a b : List ℕ) (s n : ℕ) (ea : answer_of a ≡ accepted) (eb : answer_of b ≡ accepted) where
  last_asked : answer_to (input_questions a b s n) ≡ answer_to (last a b s n)
  unfolding input_questions answer_of
  last_asked =
      then_asked (questions a) (questions b ++ last a b s n) (real a) (ap (λ (x : Answer). x.number) ea)
      ∙ then_asked (questions b) (last a b s n) (real b) (ap (λ (x : Answer). x.number) eb)

  by_own : (q : ℕ) → 1 ≤ q → answer_to (last a b s n) ≡ record { number = q; table = 0; row = 0 }
      → (join_answer a b s n ≡ record { number = q; table = 0; row = 0 }) × (joinable a b s n ≡ false)
  by_own q h e =
      let f = last_asked ∙ e in
      let z : (answer_to (input_questions a b s n)).number ≡ 0 → ⊥ = λ k. let y = sym (ap (λ (x : Answer). x.number) f) ∙ k in absurd (omega arith) in
      (input_refused a b s n z ∙ f, joins_no a b s n z)

  refused_35 : plans_agree a b ≡ false → (join_answer a b s n ≡ record { number = 35; table = 0; row = 0 }) × (joinable a b s n ≡ false)
  refused_35 e = by_own 35 (omega arith) (whole_no 35 _ _ e)

  refused_36 : plans_agree a b ≡ true → tasks_shared a b s ≡ false → (join_answer a b s n ≡ record { number = 36; table = 0; row = 0 }) × (joinable a b s n ≡ false)
  refused_36 e f = by_own 36 (omega arith) (whole_yes 35 _ _ e ∙ whole_no 36 _ _ f)

  refused_37 : plans_agree a b ≡ true → tasks_shared a b s ≡ true → join_fits a b s n ≡ false
      → (join_answer a b s n ≡ record { number = 37; table = 0; row = 0 }) × (joinable a b s n ≡ false)
  refused_37 e f g = by_own 37 (omega arith) (whole_yes 35 _ _ e ∙ whole_yes 36 _ _ f ∙ whole_no 37 _ _ g)

  -- all three say yes
  goes_on : plans_agree a b ≡ true → tasks_shared a b s ≡ true → join_fits a b s n ≡ true → joinable a b s n ≡ true
  unfolding joinable
  goes_on e f g =
      let z : answer_to (input_questions a b s n) ≡ accepted = last_asked ∙ whole_yes 35 _ _ e ∙ whole_yes 36 _ _ f ∙ whole_yes 37 _ _ g ∙ none_asked in
      rw z refl

pub joins_tell : JoinsTell
joins_tell a b s lent =
    record {
      of_first = λ d. refused_by a b s (length lent) a d (first_refused a b s (length lent) d);
      of_second = λ e d. refused_by a b s (length lent) b d (second_refused a b s (length lent) e d);
      by_35 = refused_35 a b s (length lent);
      by_36 = refused_36 a b s (length lent);
      by_37 = refused_37 a b s (length lent);
      goes_on = goes_on a b s (length lent);
      of_result = result_answers a b s (length lent);
      written = λ e. unfold join_length join_bytes in (rw e (refl, refl));
      unchanged = λ e. unfold join_length join_bytes in (rw e (refl, refl));
    }
