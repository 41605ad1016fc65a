-- What a join asks: that all of it says yes where an image is written, and what 35 to 37 then say.
use Prim.Native.Nat.{ℕ, ◌≤◌, ◌<◌}
use mathlib.Core.Path.{◌≡◌, sym, ap, ◌∙◌}
use mathlib.Core.Bool.{true, ◌&&◌}
use mathlib.Core.List.{List, ◌∷◌, ◌++◌, []}
use native.Mathlib.Omega.{arith}
use native.Mathlib.Decide.{ℕ_discrete}
use lib.Dec.{leb, eqb}
use lib.ListN.{length}
use borrow.Author.Tests.{eqb-true, leb-true}
use Rattle.plan.specs.declared.Table.{Table}
use Rattle.plan.specs.declared.Table.TheVariants.{Cores, Vcpus, Tasks, Windows, Links}
use Rattle.plan.specs.declared.Answer.{Answer}
use Rattle.plan.specs.Image.{tables, cycle_ticks, precision, rows}
use Rattle.plan.specs.Search.{all}
use Rattle.plan.specs.Questions.{Question, whole, questions, question_at, answer_to, answer_of, accepted}
use Rattle.plan.proofs.Searching.{and_true, all_yes}
use Rattle.plan.proofs.Asking.{Real, passed_of, passed_row, passed_all, then_asked, stopped_first}
use Rattle.plan.proofs.Numbers.{real}
use Rattle.joins.specs.Joins
use Rattle.joins.specs.Joins.{row_words, same_words, rows_fit}
use Rattle.joins.proofs.Lists.{same_words_holds}

both_accept : (ps qs : List Question) → Real ps → answer_to (ps ++ qs) ≡ accepted → (answer_to ps ≡ accepted) × (answer_to qs ≡ accepted)
both_accept ps qs r e = go (ℕ_discrete (answer_to ps).number 0)
  where
    go : Dec ((answer_to ps).number ≡ 0) → (answer_to ps ≡ accepted) × (answer_to qs ≡ accepted)
    go (yes z) = (passed_all ps (passed_of ps r z), sym (then_asked ps qs r z) ∙ e)
    go (no z) = absurd (z (ap (λ (x : Answer). x.number) (sym (stopped_first ps qs z) ∙ e)))

real_append : (ps qs : List Question) → Real ps → Real qs → Real (ps ++ qs)
real_append [] qs g h = h
real_append (p ∷ ps) qs g h = (g.0, real_append ps qs g.1 h)

-- what the inputs' questions and 35 to 37 say together
pub record Asked (a b : List ℕ) (s lent : ℕ) : Type 0 where
  pub first : answer_of a ≡ accepted
  pub second : answer_of b ≡ accepted
  pub agreeing : Joins.plans_agree a b ≡ true
  pub leading : Joins.tasks_shared a b s ≡ true
  pub fitting : rows_fit (Joins.joined_rows a b s) tables ≡ true
  pub enough : length (Joins.joined_image a b s) ≤ lent

module _ (a b : List ℕ) (s lent : ℕ) where
  -- 35 to 37
  abbrev pub last : List Question
  last = whole 35 (Joins.plans_agree a b) ∷ whole 36 (Joins.tasks_shared a b s) ∷ whole 37 (Joins.join_fits a b s lent) ∷ []

  real_last : Real last
  unfolding whole
  real_last = omega arith

  pub real_input : Real (Joins.input_questions a b s lent)
  unfolding Joins.input_questions
  real_input = real_append (questions a) (questions b ++ last) (real a) (real_append (questions b) last (real b) real_last)

  last_holds : answer_to last ≡ accepted → (Joins.plans_agree a b ≡ true) × (Joins.tasks_shared a b s ≡ true) × (Joins.join_fits a b s lent ≡ true)
  unfolding whole question_at
  last_holds e =
      let w = passed_of last real_last (ap (λ (x : Answer). x.number) e) in
      (passed_row last 3 w 0 (omega arith) 0 (omega arith), passed_row last 3 w 1 (omega arith) 0 (omega arith), passed_row last 3 w 2 (omega arith) 0 (omega arith))

  asked_of : answer_to (Joins.input_questions a b s lent) ≡ accepted → Asked a b s lent
  unfolding Joins.input_questions Joins.join_fits answer_of
  asked_of e =
      let p = both_accept (questions a) (questions b ++ last) (real a) e in
      let q = both_accept (questions b) last (real b) p.1 in
      let w = last_holds q.1 in
      let f = and_true (rows_fit (Joins.joined_rows a b s) tables) (leb (length (Joins.joined_image a b s)) lent) w.2 in
      record {
        first = p.0;
        second = q.0;
        agreeing = w.0;
        leading = w.1;
        fitting = f.0;
        enough = leb-true (length (Joins.joined_image a b s)) lent f.1;
      }

  pub joins_yes : Joins.joinable a b s lent ≡ true → (answer_to (Joins.input_questions a b s lent)).number ≡ 0
  unfolding Joins.joinable
  joins_yes e = eqb-true (answer_to (Joins.input_questions a b s lent)).number 0 e

  -- where an image is written
  pub asked : Joins.joinable a b s lent ≡ true → Asked a b s lent
  asked e = asked_of (passed_all (Joins.input_questions a b s lent) (passed_of (Joins.input_questions a b s lent) real_input (joins_yes e)))

  -- where the answer is 0 0 0 the result's questions say yes too
  pub asked_all : Joins.join_answer a b s lent ≡ accepted → Asked a b s lent × (answer_of (Joins.joined_image a b s) ≡ accepted)
  unfolding Joins.join_answer answer_of
  asked_all e = let p = both_accept (Joins.input_questions a b s lent) (questions (Joins.joined_image a b s)) real_input e in (asked_of p.0, p.1)

-- ---- 35 and 36

module _ (a b : List ℕ) (s : ℕ) where
  agrees : (t : Table) → Joins.agree a b t ≡ true → (rows a t ≡ rows b t) × ((r : ℕ) → r < rows b t → row_words a t r ≡ row_words b t r)
  unfolding Joins.agree Joins.agree_to
  agrees t e =
      let p = and_true (eqb (rows a t) (rows b t)) (all (rows a t) (λ r. same_words (row_words a t r) (row_words b t r))) e in
      let q = eqb-true (rows a t) (rows b t) p.0 in
      (q, λ r l. same_words_holds (row_words a t r) (row_words b t r) (all_yes (λ r. same_words (row_words a t r) (row_words b t r)) (rows a t) p.1 r (omega (arith, q))))

  -- a table has as many rows in both, with equal words
  abbrev pub Agree : Table → Type 0
  Agree t = (rows a t ≡ rows b t) × ((r : ℕ) → r < rows b t → row_words a t r ≡ row_words b t r)

  pub record Agreeing : Type 0 where
    pub cycle : cycle_ticks a ≡ cycle_ticks b
    pub cores : Agree Cores
    pub vcpus : Agree Vcpus
    pub windows : Agree Windows
    pub links : Agree Links

  pub agreeing_says : Joins.plans_agree a b ≡ true → Agreeing
  unfolding Joins.plans_agree
  agreeing_says e =
      let e1 = and_true (eqb (cycle_ticks a) (cycle_ticks b) && eqb (precision a) (precision b) && Joins.agree a b Cores && Joins.agree a b Vcpus && Joins.agree a b Windows) _ e in
      let e2 = and_true (eqb (cycle_ticks a) (cycle_ticks b) && eqb (precision a) (precision b) && Joins.agree a b Cores && Joins.agree a b Vcpus) _ e1.0 in
      let e3 = and_true (eqb (cycle_ticks a) (cycle_ticks b) && eqb (precision a) (precision b) && Joins.agree a b Cores) _ e2.0 in
      let e4 = and_true (eqb (cycle_ticks a) (cycle_ticks b) && eqb (precision a) (precision b)) _ e3.0 in
      let e5 = and_true (eqb (cycle_ticks a) (cycle_ticks b)) _ e4.0 in
      record {
        cycle = eqb-true (cycle_ticks a) (cycle_ticks b) e5.0;
        cores = agrees Cores e4.1;
        vcpus = agrees Vcpus e3.1;
        windows = agrees Windows e2.1;
        links = agrees Links e1.1;
      }

  pub record Leading : Type 0 where
    pub first : s ≤ rows a Tasks
    pub second : s ≤ rows b Tasks
    pub equal : (r : ℕ) → r < s → row_words a Tasks r ≡ row_words b Tasks r

  pub leading_says : Joins.tasks_shared a b s ≡ true → Leading
  unfolding Joins.tasks_shared Joins.agree_to
  leading_says e =
      let e1 = and_true (leb s (rows a Tasks) && leb s (rows b Tasks)) (all s (λ r. same_words (row_words a Tasks r) (row_words b Tasks r))) e in
      let e2 = and_true (leb s (rows a Tasks)) (leb s (rows b Tasks)) e1.0 in
      record {
        first = leb-true s (rows a Tasks) e2.0;
        second = leb-true s (rows b Tasks) e2.1;
        equal = λ r l. same_words_holds (row_words a Tasks r) (row_words b Tasks r) (all_yes (λ r. same_words (row_words a Tasks r) (row_words b Tasks r)) s e1.1 r l);
      }
