-- Questions asked one after another, each where the one before it told nothing.
use Rattle.std.proofs.Common.{ℕ, zero, suc, ◌<◌, ◌≤◌, ◌≡◌, List, [], ◌∷◌, ◌++◌, length, take, refl, arith, Option, Some, None, Result, Ok, Err, IfOk, Bool, true, false}
use mathlib.Core.Path.{sym, ap, subst, ◌∙◌}
use native.Mathlib.Nat.{not-suc-le-zero, le_of_suc-le-suc}
use Rattle.plan.specs.declared.Answer.{Answer}
use Rattle.plan.specs.declared.Asked.{Asked}
use Rattle.plan.specs.Image.{shape}
use Rattle.plan.specs.Search.{first_no}
use Rattle.plan.specs.Questions.{Question, question_at, whole, answer_to, accepted}
use Rattle.plan.specs.Held.{Passed, refusing}
use Rattle.plan.proofs.Asking.{passed_more}
use Rattle.plan.proofs.Answers.{no_row, a_row, named}
use Rattle.asking.specs.Asking.{told, verdict}

-- a question has this number and asks rows of this table
pub record Is (q : Question) (a : Asked) : Type 0 where
  pub number : q.asked ≡ a.number
  pub table : q.table ≡ (shape a.table).number

pub nothing_told : (a : Asked) (f : Option ℕ) → Ok tt ≡ told a f → f ≡ None
unfolding told
nothing_told a None e = refl
nothing_told a (Some r) e = cc

-- all questions so far were passed, and so is one more
pub go_on : (qs : List Question) (i : ℕ) (a : Asked) → Passed qs i → Ok tt ≡ told a (refusing (question_at qs i)) → Passed qs (suc i)
go_on qs i a h e = passed_more qs i h (nothing_told a _ e)

tells : (q : Question) (qs : List Question) (f : Option ℕ) → first_no q.many q.ok ≡ f
    → verdict (q ∷ qs) ≡ elim f [ Some r ↦ Err (record { number = q.asked; table = q.table; row = r }) | None ↦ verdict qs ]
unfolding verdict
tells q qs f e = rw (e, verdict) refl

passed_tail : (q : Question) (qs : List Question) (i : ℕ) → Passed (q ∷ qs) (suc i) → Passed qs i
unfolding question_at
passed_tail q qs i h j l = h (suc j) (omega arith)

head_passed : (q : Question) (qs : List Question) (i : ℕ) → Passed (q ∷ qs) (suc i) → first_no q.many q.ok ≡ None
unfolding question_at
head_passed q qs i h = h 0 (omega arith)

-- all were passed
pub all_passed : (qs : List Question) (n : ℕ) → n ≡ length qs → Passed qs n → Ok tt ≡ verdict qs
unfolding verdict
all_passed [] n e h = refl
all_passed (q ∷ qs) zero e h = absurd (omega (arith, e))
all_passed (q ∷ qs) (suc n) e h = all_passed qs n (omega (arith, e)) (passed_tail q qs n h) ∙ sym (tells q qs None (head_passed q qs n h))

-- the first questions of a list tell what they do as a list of their own
asked_at : (qs : List Question) (i : ℕ) (a : Asked) → Is (question_at qs i) a → Passed qs i → i < length qs
    → told a (refusing (question_at qs i)) ≡ verdict (take (suc i) qs)
unfolding question_at told verdict
asked_at [] i a k h l = absurd (not-suc-le-zero l)
asked_at (q ∷ qs) (suc i) a k h l =
    asked_at qs i a k (passed_tail q qs i h) (le_of_suc-le-suc l) ∙ sym (tells q (take (suc i) qs) None (head_passed q qs i h))
asked_at (q ∷ qs) zero a k h l = go (first_no q.many q.ok) refl
  where
    go : (f : Option ℕ) → first_no q.many q.ok ≡ f → told a (first_no q.many q.ok) ≡ verdict (q ∷ [])
    go None d = ap (told a) d ∙ sym (tells q [] None d)
    go (Some r) d = ap (told a) d ∙ (rw (sym k.number, sym k.table) refl) ∙ sym (tells q [] (Some r) d)

part_passed : (qs : List Question) (n : ℕ) → n ≤ length qs → Ok tt ≡ verdict (take n qs) → Passed qs n
unfolding verdict question_at
part_passed qs zero l e = λ j k. absurd (not-suc-le-zero k)
part_passed [] (suc n) l e = absurd (omega arith)
part_passed (q ∷ qs) (suc n) l e = go (first_no q.many q.ok) refl (λ h. part_passed qs n (le_of_suc-le-suc l) h)
  where
    both : first_no q.many q.ok ≡ None → Passed qs n → Passed (q ∷ qs) (suc n)
    both d k zero m = d
    both d k (suc j) m = k j (le_of_suc-le-suc m)

    go : (f : Option ℕ) → first_no q.many q.ok ≡ f → (Ok tt ≡ verdict (take n qs) → Passed qs n) → Passed (q ∷ qs) (suc n)
    go None d k = both d (k (e ∙ tells q (take n qs) None d))
    go (Some r) d k = absurd (let z : Ok tt ≡ Err (record { number = q.asked; table = q.table; row = r }) = e ∙ tells q (take n qs) (Some r) d in cc)

part_refused : (qs : List Question) (n m : ℕ) (x : Answer) → n ≤ m → Err x ≡ verdict (take n qs) → Err x ≡ verdict (take m qs)
unfolding verdict
part_refused qs zero m x l e = absurd (let z : Err x ≡ Ok tt = e in cc)
part_refused [] (suc n) m x l e = absurd (let z : Err x ≡ Ok tt = e in cc)
part_refused qs (suc n) zero x l e = absurd (omega arith)
part_refused (q ∷ qs) (suc n) (suc m) x l e = go (first_no q.many q.ok) refl (λ h. part_refused qs n m x (le_of_suc-le-suc l) h)
  where
    go : (f : Option ℕ) → first_no q.many q.ok ≡ f → (Err x ≡ verdict (take n qs) → Err x ≡ verdict (take m qs)) → Err x ≡ verdict (q ∷ take m qs)
    go None d k = k (e ∙ tells q (take n qs) None d) ∙ sym (tells q (take m qs) None d)
    go (Some r) d k = e ∙ tells q (take n qs) (Some r) d ∙ sym (tells q (take m qs) (Some r) d)

all_taken : (qs : List Question) → take (length qs) qs ≡ qs
all_taken [] = refl
all_taken (q ∷ qs) = ap (λ (ps : List Question). q ∷ ps) (all_taken qs)

-- The questions of a list up to number n are asked: r is what they tell.
pub record AskedTo (qs : List Question) (n : ℕ) (r : Result (Unit {0}) Answer) : Type 0 where
  pub listed : n ≤ length qs
  pub part : r ≡ verdict (take n qs)
  pub passed : r ≡ Ok tt → Passed qs n

pub of_part : (qs : List Question) (n : ℕ) (r : Result (Unit {0}) Answer) → n ≤ length qs → r ≡ verdict (take n qs) → AskedTo qs n r
of_part qs n r l e = record { listed = l; part = e; passed = λ z. part_passed qs n l (sym z ∙ e) }

-- one question more is asked
pub asks : (qs : List Question) (i : ℕ) (a : Asked) (r : Result (Unit {0}) Answer) → Is (question_at qs i) a → i < length qs → Passed qs i
    → r ≡ told a (refusing (question_at qs i)) → AskedTo qs (suc i) r
asks qs i a r k l h e = of_part qs (suc i) r (omega arith) (e ∙ asked_at qs i a k h l)

-- a refusal is handed on
pub handed_on : (qs : List Question) (n m : ℕ) (r out : Result (Unit {0}) Answer) (x : Answer) → AskedTo qs n r → n ≤ m → r ≡ Err x → out ≡ Err x
    → out ≡ verdict (take m qs)
handed_on qs n m r out x a l e z = z ∙ part_refused qs n m x l (sym e ∙ a.part)

pub stopped : (qs : List Question) (n : ℕ) (r out : Result (Unit {0}) Answer) (x : Answer) → AskedTo qs n r → r ≡ Err x → out ≡ Err x → out ≡ verdict qs
stopped qs n r out x a e z = subst (λ (ps : List Question). out ≡ verdict ps) (all_taken qs) (handed_on qs n (length qs) r out x a a.listed e z)

-- all of the list is asked
pub all_told : (qs : List Question) (n : ℕ) (r : Result (Unit {0}) Answer) → n ≡ length qs → AskedTo qs n r → r ≡ verdict qs
all_told qs n r l a = a.part ∙ ap verdict (ap (λ (k : ℕ). take k qs) l ∙ all_taken qs)

-- lists asked one after another
pub then_asked : (ps qs : List Question) → Ok tt ≡ verdict ps → verdict qs ≡ verdict (ps ++ qs)
unfolding verdict
then_asked [] qs e = refl
then_asked (p ∷ ps) qs e = go (first_no p.many p.ok) refl (λ h. then_asked ps qs h)
  where
    go : (f : Option ℕ) → first_no p.many p.ok ≡ f → (Ok tt ≡ verdict ps → verdict qs ≡ verdict (ps ++ qs)) → verdict qs ≡ verdict (p ∷ (ps ++ qs))
    go None d k = k (e ∙ tells p ps None d) ∙ sym (tells p (ps ++ qs) None d)
    go (Some r) d k = absurd (let z : Ok tt ≡ Err (record { number = p.asked; table = p.table; row = r }) = e ∙ tells p ps (Some r) d in cc)

pub refused_first : (ps qs : List Question) (x : Answer) → Err x ≡ verdict ps → Err x ≡ verdict (ps ++ qs)
unfolding verdict
refused_first [] qs x e = absurd (let z : Err x ≡ Ok tt = e in cc)
refused_first (p ∷ ps) qs x e = go (first_no p.many p.ok) refl (λ h. refused_first ps qs x h)
  where
    go : (f : Option ℕ) → first_no p.many p.ok ≡ f → (Err x ≡ verdict ps → Err x ≡ verdict (ps ++ qs)) → Err x ≡ verdict (p ∷ (ps ++ qs))
    go None d k = k (e ∙ tells p ps None d) ∙ sym (tells p (ps ++ qs) None d)
    go (Some r) d k = e ∙ tells p ps (Some r) d ∙ sym (tells p (ps ++ qs) (Some r) d)

-- where all tell nothing, all were passed
pub passed_of : (qs : List Question) → Ok tt ≡ verdict qs → Passed qs (length qs)
unfolding verdict question_at
passed_of [] e = λ j l. absurd (not-suc-le-zero l)
passed_of (q ∷ qs) e = go (first_no q.many q.ok) refl (λ h. passed_of qs h)
  where
    both : first_no q.many q.ok ≡ None → Passed qs (length qs) → Passed (q ∷ qs) (suc (length qs))
    both d k zero l = d
    both d k (suc j) l = k j (le_of_suc-le-suc l)

    go : (f : Option ℕ) → first_no q.many q.ok ≡ f → (Ok tt ≡ verdict qs → Passed qs (length qs)) → Passed (q ∷ qs) (suc (length qs))
    go None d k = both d (k (e ∙ tells q qs None d))
    go (Some r) d k = absurd (let z : Ok tt ≡ Err (record { number = q.asked; table = q.table; row = r }) = e ∙ tells q qs (Some r) d in cc)

-- a refusal of the first list, and the second where the first tells nothing
pub stopped_before : (ps qs : List Question) (r out : Result (Unit {0}) Answer) (x : Answer) → r ≡ verdict ps → r ≡ Err x → out ≡ Err x → out ≡ verdict (ps ++ qs)
stopped_before ps qs r out x a e z = z ∙ refused_first ps qs x (sym e ∙ a)

pub gone_past : (ps qs : List Question) (r out : Result (Unit {0}) Answer) → r ≡ verdict ps → r ≡ Ok tt → out ≡ verdict qs → out ≡ verdict (ps ++ qs)
gone_past ps qs r out a e z = z ∙ then_asked ps qs (sym e ∙ a)

-- a question of the image as a whole
pub asks_whole : (qs : List Question) (i n : ℕ) (b : Bool) (r : Result (Unit {0}) Answer) → question_at qs i ≡ whole n b → i < length qs → Passed qs i
    → r ≡ verdict (whole n b ∷ []) → AskedTo qs (suc i) r
unfolding question_at verdict
asks_whole [] i n b r k l h e = absurd (not-suc-le-zero l)
asks_whole (q ∷ qs) i n b r k l h e = of_part (q ∷ qs) (suc i) r (omega arith) (e ∙ at (q ∷ qs) i k l h)
  where
    at : (ps : List Question) (j : ℕ) → question_at ps j ≡ whole n b → j < length ps → Passed ps j → verdict (whole n b ∷ []) ≡ verdict (take (suc j) ps)
    at [] j k l h = absurd (not-suc-le-zero l)
    at (p ∷ ps) zero k l h = ap (λ (p : Question). verdict (p ∷ [])) (sym k)
    at (p ∷ ps) (suc j) k l h = at ps j k (le_of_suc-le-suc l) (passed_tail p ps j h) ∙ sym (tells p (take (suc j) ps) None (head_passed p ps j h))

pub holds : (n : ℕ) (b : Bool) (r : Result (Unit {0}) Answer) → r ≡ verdict (whole n b ∷ []) → r ≡ Ok tt → b ≡ true
unfolding first_no whole
holds n true r e z = refl
holds n false r e z = absurd (let w : Ok tt ≡ Err (record { number = n; table = 0; row = 0 }) = sym z ∙ e ∙ tells (whole n false) [] (Some 0) refl in cc)

-- the answer is the one that is told, and 0 0 0 where nothing is
abbrev pub answer_in : Result (Unit {0}) Answer → Answer
answer_in v = elim v [ Ok u ↦ accepted | Err x ↦ x ]

pub answered : (qs : List Question) → answer_in (verdict qs) ≡ answer_to qs
unfolding answer_to named
answered [] = sym (ap answer_in (all_passed [] 0 refl (λ j l. absurd (not-suc-le-zero l))))
answered (q ∷ qs) = go (first_no q.many q.ok) refl (answered qs)
  where
    go : (f : Option ℕ) → first_no q.many q.ok ≡ f → answer_in (verdict qs) ≡ answer_to qs → answer_in (verdict (q ∷ qs)) ≡ answer_to (q ∷ qs)
    go None d k = ap answer_in (tells q qs None d) ∙ k ∙ sym (no_row q qs d)
    go (Some r) d k = ap answer_in (tells q qs (Some r) d) ∙ sym (a_row q qs r d)

-- what holds where nothing is told
pub where_ok : (P : Type 0) (r : Result (Unit {0}) Answer) → (r ≡ Ok tt → P) → IfOk r (λ u. P)
where_ok P (Ok u) h = h refl
where_ok P (Err x) h = tt
