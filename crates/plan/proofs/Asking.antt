-- Asking a list of questions one after the other: what a loop over them needs.
use Prim.Native.Nat.{ℕ, zero, suc, ◌+◌, ◌≤◌, ◌<◌}
use mathlib.Core.Path.{◌≡◌, refl, sym, ap, ◌∙◌, subst}
use mathlib.Core.Logic.{◌⊎◌, inl, inr, ◌≢◌}
use mathlib.Core.Bool.{true}
use mathlib.Core.List.{List, ◌∷◌, ◌++◌, []}
use native.Mathlib.Nat.{not-suc-le-zero, eq-or-lt_of_le, le_of_suc-le-suc}
use native.Mathlib.Omega.{arith}
use lib.ListN.{length}
use Rattle.plan.specs.declared.Answer.{Answer}
use Rattle.std.specs.Prelude.{Option}
use Rattle.std.specs.Prelude.{Some, None}
use Rattle.plan.specs.Search.{first_no}
use Rattle.plan.specs.Image.{shape, rows}
use Rattle.plan.specs.Questions.{Question, question_at, each, answer_to, accepted}
use Rattle.plan.specs.Held.{Passed, Listed, refusing}
use Rattle.plan.specs.declared.Asked.{Asked}
use Rattle.plan.proofs.Searching.{none_iff}
use Rattle.plan.proofs.Answers.{named, no_row, a_row}

pub passed_none : (qs : List Question) → Passed qs 0
passed_none qs j l = absurd (not-suc-le-zero l)

pub passed_more : (qs : List Question) (i : ℕ) → Passed qs i
    → first_no (question_at qs i).many (question_at qs i).ok ≡ None → Passed qs (suc i)
passed_more qs i h e j l = pick (eq-or-lt_of_le (le_of_suc-le-suc l))
  where
    pick : (j ≡ i) ⊎ (j < i) → first_no (question_at qs j).many (question_at qs j).ok ≡ None
    pick (inl q) = subst (λ (x : ℕ). first_no (question_at qs x).many (question_at qs x).ok ≡ None) (sym q) e
    pick (inr q) = h j q

-- of a list without its first question
passed_tail : (q : Question) (qs : List Question) (i : ℕ) → Passed (q ∷ qs) (suc i) → Passed qs i
unfolding question_at
passed_tail q qs i h j l = h (suc j) (omega arith)

head_passed : (q : Question) (qs : List Question) (i : ℕ) → Passed (q ∷ qs) (suc i) → first_no q.many q.ok ≡ None
unfolding question_at
head_passed q qs i h = h 0 (omega arith)

-- the first question that a row says no to gives the answer
pub passed_stops : (qs : List Question) (i r : ℕ) → Passed qs i → i < length qs
    → first_no (question_at qs i).many (question_at qs i).ok ≡ Some r → answer_to qs ≡ named (question_at qs i) r
unfolding question_at
passed_stops [] i r h l e = absurd (not-suc-le-zero l)
passed_stops (q ∷ qs) zero r h l e = a_row q qs r e
passed_stops (q ∷ qs) (suc i) r h l e =
    no_row q qs (head_passed q qs i h) ∙ passed_stops qs i r (passed_tail q qs i h) (le_of_suc-le-suc l) e

pub passed_all : (qs : List Question) → Passed qs (length qs) → answer_to qs ≡ accepted
unfolding answer_to
passed_all [] h = refl
passed_all (q ∷ qs) h = no_row q qs (head_passed q qs (length qs) h) ∙ passed_all qs (passed_tail q qs (length qs) h)

-- a row of a question that was passed
pub passed_row : (qs : List Question) (i : ℕ) → Passed qs i → (j : ℕ) → j < i → (r : ℕ) → r < (question_at qs j).many → (question_at qs j).ok r ≡ true
passed_row qs i h j l = (none_iff (question_at qs j).ok (question_at qs j).many).0 (h j l)

-- questions have numbers from 1 on
abbrev pub Real : List Question → Type 0
Real [] = Unit {0}
Real (q ∷ qs) = (1 ≤ q.asked) × Real qs

-- one list asked after another
pub then_asked : (ps qs : List Question) → Real ps → (answer_to ps).number ≡ 0 → answer_to (ps ++ qs) ≡ answer_to qs
unfolding answer_to named
then_asked [] qs g e = refl
then_asked (p ∷ ps) qs g e = go (first_no p.many p.ok) refl (λ k. then_asked ps qs g.1 k)
  where
    go : (f : Option ℕ) → first_no p.many p.ok ≡ f → ((answer_to ps).number ≡ 0 → answer_to (ps ++ qs) ≡ answer_to qs) → answer_to (p ∷ (ps ++ qs)) ≡ answer_to qs
    go None d k = no_row p (ps ++ qs) d ∙ k (sym (ap (λ (a : Answer). a.number) (no_row p ps d)) ∙ e)
    go (Some r) d k = absurd (let z : p.asked ≡ 0 = sym (ap (λ (a : Answer). a.number) (a_row p ps r d)) ∙ e in let w = g.0 in omega arith)

pub stopped_first : (ps qs : List Question) → ((answer_to ps).number ≡ 0 → ⊥) → answer_to (ps ++ qs) ≡ answer_to ps
unfolding answer_to
stopped_first [] qs h = absurd (h refl)
stopped_first (p ∷ ps) qs h = go (first_no p.many p.ok) refl (λ k. stopped_first ps qs k)
  where
    go : (f : Option ℕ) → first_no p.many p.ok ≡ f → (((answer_to ps).number ≡ 0 → ⊥) → answer_to (ps ++ qs) ≡ answer_to ps)
        → answer_to (p ∷ (ps ++ qs)) ≡ answer_to (p ∷ ps)
    go None d k = no_row p (ps ++ qs) d ∙ k (λ z. h (ap (λ (a : Answer). a.number) (no_row p ps d) ∙ z)) ∙ sym (no_row p ps d)
    go (Some r) d k = a_row p (ps ++ qs) r d ∙ sym (a_row p ps r d)

-- an answer of 0 passes every question
pub passed_of : (qs : List Question) → Real qs → (answer_to qs).number ≡ 0 → Passed qs (length qs)
unfolding question_at named
passed_of [] g e = λ j l. absurd (not-suc-le-zero l)
passed_of (q ∷ qs) g e = go (first_no q.many q.ok) refl (λ k. passed_of qs g.1 k)
  where
    each : first_no q.many q.ok ≡ None → Passed qs (length qs) → Passed (q ∷ qs) (suc (length qs))
    each d k zero l = d
    each d k (suc j) l = k j (le_of_suc-le-suc l)

    go : (f : Option ℕ) → first_no q.many q.ok ≡ f → ((answer_to qs).number ≡ 0 → Passed qs (length qs)) → Passed (q ∷ qs) (suc (length qs))
    go None d k = each d (k (sym (ap (λ (a : Answer). a.number) (no_row q qs d)) ∙ e))
    go (Some r) d k = absurd (let z : q.asked ≡ 0 = sym (ap (λ (a : Answer). a.number) (a_row q qs r d)) ∙ e in let w = g.0 in omega arith)

-- what holds of each of k numbers from a on
abbrev pub Each : (ℕ → Type 0) → ℕ → ℕ → Type 0
Each P a zero = Unit {0}
Each P a (suc k) = P a × Each P (suc a) k

pub between : (P : ℕ → Type 0) (a k : ℕ) → Each P a k → (n : ℕ) → a ≤ n → n < a + k → P n
between P a zero h n l m = absurd (let z : n < a = omega arith in omega arith)
between P a (suc k) h n l m = pick (eq-or-lt_of_le l) (λ q. between P (suc a) k h.1 n q (omega arith))
  where
    pick : (a ≡ n) ⊎ (a < n) → (suc a ≤ n → P n) → P n
    pick (inl q) k' = subst P q h.0
    pick (inr q) k' = k' q

-- the answer of a loop that stops at row r of question i
pub stopped_at : (qs : List Question) (i r n t : ℕ) → Passed qs i → i < length qs → first_no (question_at qs i).many (question_at qs i).ok ≡ Some r
    → (question_at qs i).asked ≡ n → (question_at qs i).table ≡ t → record { number = n; table = t; row = r } ≡ answer_to qs
unfolding named
stopped_at qs i r n t h l e a b = sym (passed_stops qs i r h l e ∙ (rw (a, b) refl))

-- the same, of a question that is told by its number and table
pub refused_at : (qs : List ℕ → List Question) (s : List ℕ) (i r : ℕ) (a : Asked) → Listed qs i a → Passed (qs s) i → i < length (qs s)
    → refusing (question_at (qs s) i) ≡ Some r → record { number = a.number; table = (shape a.table).number; row = r } ≡ answer_to (qs s)
unfolding each
refused_at qs s i r a k h l e =
    stopped_at (qs s) i r a.number (shape a.table).number h l e (ap (λ (q : Question). q.asked) (k s)) (ap (λ (q : Question). q.table) (k s))

-- a question of a list has a number
real_at : (qs : List Question) (i : ℕ) → Real qs → i < length qs → 1 ≤ (question_at qs i).asked
unfolding question_at
real_at [] i g l = absurd (not-suc-le-zero l)
real_at (q ∷ qs) zero g l = g.0
real_at (q ∷ qs) (suc i) g l = real_at qs i g.1 (le_of_suc-le-suc l)

pub listed_some : (qs : List ℕ → List Question) (s : List ℕ) (i : ℕ) (a : Asked) → Real (qs s) → i < length (qs s) → Listed qs i a → a.number ≢ 0
unfolding each
listed_some qs s i a g l k z =
    let h = real_at (qs s) i g l in
    let e : (question_at (qs s) i).asked ≡ a.number = ap (λ (q : Question). q.asked) (k s) in
    omega arith

-- a place that is none of the lowest is above them
pub above : (i a : ℕ) → a ≤ i → i ≢ a → suc a ≤ i
above i a l h = omega arith

-- its rows are those of the table
pub listed_rows : (qs : List ℕ → List Question) (s : List ℕ) (i : ℕ) (a : Asked) → Listed qs i a → rows s a.table ≡ (question_at (qs s) i).many
unfolding each
listed_rows qs s i a k = sym (ap (λ (q : Question). q.many) (k s))

-- the list is through
pub passed_end : (qs : List Question) (i : ℕ) → i ≡ length qs → Passed qs i → answer_to qs ≡ accepted
passed_end qs i e h = passed_all qs (subst (Passed qs) e h)
