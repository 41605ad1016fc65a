-- Two different answers never give equal lines in words, nor two numbers equal phrases; only number 0 says that a plan is accepted.
use Prim.Native.Nat.{ℕ, ◌-◌, ◌<◌}
use Prim.Native.String.{String, [] as none}
use mathlib.Core.Path.{◌≡◌, refl, sym, ap, ◌∙◌}
use mathlib.Core.Logic.{◌⊎◌, inl, inr}
use mathlib.Core.Bool.{Bool, true, false, not, ◌&&◌, ◌||◌, cond, true≢false}
use mathlib.Core.List.{List, ◌∷◌, ◌++◌, [], append_assoc}
use native.Mathlib.Omega.{arith}
use native.Mathlib.Decide.{dec_lt}
use lib.Dec.{ltb, leb, eqb}
use lib.ListN.{length, get_or, take, drop}
use lib.Seq.{take-append-le}
use borrow.Author.Tests.{leb-true, eqb-true}
use Rattle.plan.specs.declared.Answer.{Answer}
use Rattle.plan.proofs.Searching.{and_true}
use Rattle.texts.specs.Characters.{decimal, ascii}
use Rattle.texts.specs.Wording.{phrases, unknown, phrase, kinds, named, kind, place, line_of, LinesDiffer, PhrasesDiffer, OnlyZeroAccepts, wording}
use Rattle.texts.specs.Printed.{digit}
use Rattle.texts.proofs.ReadNumber.{decimal_same}
use Rattle.texts.proofs.Passing.{every, every_append, split, cancel}
use Rattle.texts.proofs.Listed.{every_text, text_at, text_past, same, spot, differ, found_again}
use Rattle.texts.proofs.Fitting.{decimal_digits, phrase_every, kind_name, kind_number, named_bounds}

-- ---- a number in front of the rest, ended by a byte that is no digit

number_first : (x y c : ℕ) (us vs : List ℕ) → digit c ≡ false → decimal x ++ c ∷ us ≡ decimal y ++ c ∷ vs → (x ≡ y) × (us ≡ vs)
number_first x y c us vs h e = let r = split digit (decimal x) (decimal y) c c us vs (decimal_digits x) (decimal_digits y) h h e in (decimal_same x y r.0, r.1)

-- ---- a kind in front of the rest

-- its first word, a name or "table", and what follows that and a space
word : ℕ → List ℕ
word t = cond (named t) (ascii (get_or kinds (t - 1) none)) (ascii "table")

after : ℕ → List ℕ → List ℕ
after t z = cond (named t) z (decimal t ++ (ascii ", row " ++ z))

word_name : (t : ℕ) → named t ≡ true → word t ≡ ascii (get_or kinds (t - 1) none)
unfolding word
word_name t e = rw e refl

word_number : (t : ℕ) → named t ≡ false → word t ≡ ascii "table"
unfolding word
word_number t e = rw e refl

after_name : (t : ℕ) (z : List ℕ) → named t ≡ true → after t z ≡ z
unfolding after
after_name t z e = rw e refl

after_number : (t : ℕ) (z : List ℕ) → named t ≡ false → after t z ≡ decimal t ++ (ascii ", row " ++ z)
unfolding after
after_number t z e = rw e refl

apart : (xs z : List ℕ) → (ascii "table " ++ (xs ++ ascii ", row")) ++ (ascii " " ++ z) ≡ ascii "table" ++ 32 ∷ (xs ++ (ascii ", row " ++ z))
unfolding ascii
apart xs z = rw (append_assoc xs (ascii ", row") (32 ∷ z)) refl

spaced : (xs z : List ℕ) → xs ++ (ascii " " ++ z) ≡ xs ++ 32 ∷ z
unfolding ascii
spaced xs z = refl

kind_split : (t : ℕ) (z : List ℕ) → kind t ++ (ascii " " ++ z) ≡ word t ++ 32 ∷ after t z
kind_split t z = go (named t) refl
  where
    go : (b : Bool) → named t ≡ b → kind t ++ (ascii " " ++ z) ≡ word t ++ 32 ∷ after t z
    go true e = rw (kind_name t e, word_name t e, after_name t z e) (spaced (ascii (get_or kinds (t - 1) none)) z)
    go false e = rw (kind_number t e, word_number t e, after_number t z e) (apart (decimal t) z)

letter : ℕ → Bool
letter x = ltb 32 x

gap : letter 32 ≡ false
unfolding letter
gap = refl

names_letters : every_text (λ n t. every letter (ascii t)) 0 kinds ≡ true
unfolding wording every letter every_text
names_letters = refl

names_differ : differ kinds ≡ true
unfolding wording every_text same spot differ
names_differ = refl

-- "table" is no name
no_name : spot (ascii "table") kinds ≡ length kinds
unfolding wording same spot
no_name = refl

word_letters : (t : ℕ) → every letter (word t) ≡ true
word_letters t = go (named t) refl
  where
    go : (b : Bool) → named t ≡ b → every letter (word t) ≡ true
    go true e = rw (word_name t e) (text_at (λ n s. every letter (ascii s)) kinds (t - 1) none names_letters (named_bounds t e).1)
    go false e = rw (word_number t e) (unfold ascii every letter in refl)

word_spot : (t : ℕ) → named t ≡ true → spot (word t) kinds ≡ t - 1
word_spot t e = rw (word_name t e) (found_again kinds (t - 1) none names_differ (named_bounds t e).1)

number_spot : (t : ℕ) → named t ≡ false → spot (word t) kinds ≡ length kinds
number_spot t e = rw (word_number t e) no_name

-- equal first words: both tables have one name, or none has a name
same_word : (t u : ℕ) → word t ≡ word u → ((named t ≡ true) × (t ≡ u)) ⊎ ((named t ≡ false) × (named u ≡ false))
same_word t u e = go (named t) (named u) refl refl
  where
    at_one : spot (word t) kinds ≡ spot (word u) kinds
    at_one = ap (λ (w : List ℕ). spot w kinds) e

    go : (b c : Bool) → named t ≡ b → named u ≡ c → ((named t ≡ true) × (t ≡ u)) ⊎ ((named t ≡ false) × (named u ≡ false))
    go true true p q = inl (p, omega (arith, word_spot t p, word_spot u q, at_one, (named_bounds t p).0, (named_bounds u q).0))
    go true false p q = absurd (omega (arith, word_spot t p, number_spot u q, at_one, (named_bounds t p).1))
    go false true p q = absurd (omega (arith, number_spot t p, word_spot u q, at_one, (named_bounds u q).1))
    go false false p q = inr (p, q)

kind_first : (t u : ℕ) (z w : List ℕ) → kind t ++ (ascii " " ++ z) ≡ kind u ++ (ascii " " ++ w) → (t ≡ u) × (z ≡ w)
kind_first t u z w e =
    let d = sym (kind_split t z) ∙ e ∙ kind_split u w in
    let r = split letter (word t) (word u) 32 32 (after t z) (after u w) (word_letters t) (word_letters u) gap gap d in
    go (same_word t u r.0) r.1
  where
    number : decimal t ++ (ascii ", row " ++ z) ≡ decimal u ++ (ascii ", row " ++ w) → (t ≡ u) × (z ≡ w)
    number q = let s = number_first t u 44 (ascii " row " ++ z) (ascii " row " ++ w) (unfold digit in refl) (unfold ascii in q) in (s.0, cancel (ascii " row ") z w s.1)

    go : ((named t ≡ true) × (t ≡ u)) ⊎ ((named t ≡ false) × (named u ≡ false)) → after t z ≡ after u w → (t ≡ u) × (z ≡ w)
    go (inl p) q = (p.1, sym (after_name t z p.0) ∙ q ∙ after_name u w (sym (ap named p.1) ∙ p.0))
    go (inr p) q = number (sym (after_number t z p.0) ∙ q ∙ after_number u w p.1)

-- ---- a phrase in front of the rest, ended by the bracket

inside : ℕ → Bool
inside x = not (eqb x 40)

phrases_inside : every_text (λ n t. every inside (ascii t)) 0 phrases ≡ true
unfolding wording every inside every_text
phrases_inside = refl

phrase_inside : (n : ℕ) → every inside (phrase n) ≡ true
phrase_inside = phrase_every inside phrases_inside (unfold wording every inside in refl)

before_bracket : (n : ℕ) → every inside (phrase n ++ 32 ∷ []) ≡ true
before_bracket n = every_append inside (phrase n) (32 ∷ []) (phrase_inside n) (unfold every inside in refl)

-- what stands in the brackets, after "answer "
in_brackets : Answer → List ℕ
in_brackets a = decimal a.number ++ 44 ∷ 32 ∷ (kind a.table ++ (ascii " " ++ (decimal a.row ++ 41 ∷ [])))

line_is : (a : Answer) → line_of a ≡ (phrase a.number ++ 32 ∷ []) ++ 40 ∷ (ascii "answer " ++ in_brackets a)
unfolding line_of place ascii in_brackets
line_is a =
    ap (λ (l : List ℕ). phrase a.number ++ (ascii " (answer " ++ (decimal a.number ++ 44 ∷ 32 ∷ l)))
    (append_assoc (kind a.table) (32 ∷ decimal a.row) (41 ∷ []))
    ∙ sym (append_assoc (phrase a.number) (32 ∷ []) (40 ∷ (ascii "answer " ++ in_brackets a)))

stop : inside 40 ≡ false
unfolding inside
stop = refl

pub lines_differ : LinesDiffer
unfolding in_brackets
lines_differ a b e =
    let d = (split inside _ _ 40 40 _ _ (before_bracket a.number) (before_bracket b.number) stop stop (sym (line_is a) ∙ e ∙ line_is b)).1 in
    let n = number_first a.number b.number 44 _ _ (unfold digit in refl) (cancel (ascii "answer ") (in_brackets a) (in_brackets b) d) in
    let t = kind_first a.table b.table _ _ (ap (drop 1) n.1) in
    let r = number_first a.row b.row 41 [] [] (unfold digit in refl) t.1 in
    λ i. record { number = n.0 i; table = t.0 i; row = r.0 i }

-- ---- phrases

phrases_all_differ : differ phrases ≡ true
unfolding wording every_text same spot differ
phrases_all_differ = refl

phrase_spot : (n : ℕ) → n < length phrases → spot (phrase n) phrases ≡ n
unfolding phrase
phrase_spot n l = found_again phrases n unknown phrases_all_differ l

pub phrases_differ : PhrasesDiffer
phrases_differ m n l k e = sym (phrase_spot m l) ∙ ap (λ (p : List ℕ). spot p phrases) e ∙ phrase_spot n k

-- at least eight bytes long, and beginning otherwise
refusing : ℕ → String → Bool
refusing n t = leb 8 (length (ascii t)) && (eqb n 0 || not (same (take 8 (ascii t)) (ascii "accepted")))

phrases_refuse : every_text refusing 0 phrases ≡ true
unfolding wording every_text same refusing
phrases_refuse = refl

-- the phrase of all other numbers, asked as that of 1
unknown_refuses : refusing 1 unknown ≡ true
unfolding wording same refusing
unknown_refuses = refl

begins_so : (n : ℕ) (t : String) (rest : List ℕ) → refusing n t ≡ true → take 8 (ascii t ++ rest) ≡ ascii "accepted" → n ≡ 0
unfolding refusing
begins_so n t rest h e =
    let a = and_true (leb 8 (length (ascii t))) (eqb n 0 || not (same (take 8 (ascii t)) (ascii "accepted"))) h in
    let q = sym (take-append-le 8 (ascii t) rest (leb-true 8 (length (ascii t)) a.0)) ∙ e in
    let alike : same (take 8 (ascii t)) (ascii "accepted") ≡ true = rw q (unfold ascii same in refl) in
    go (eqb n 0) refl (sym (ap (λ (b : Bool). eqb n 0 || not b) alike) ∙ a.1)
  where
    go : (b : Bool) → eqb n 0 ≡ b → b || false ≡ true → n ≡ 0
    go true p k = eqb-true n 0 p
    go false p k = absurd (true≢false (sym k))

phrase_begins : (n : ℕ) (rest : List ℕ) → take 8 (phrase n ++ rest) ≡ ascii "accepted" → n ≡ 0
unfolding phrase
phrase_begins n rest e = go (dec_lt n (length phrases))
  where
    go : Dec (n < length phrases) → n ≡ 0
    go (yes l) = begins_so n (get_or phrases n unknown) rest (text_at refusing phrases n unknown phrases_refuse l) e
    go (no l) =
        let q : ascii unknown ≡ ascii (get_or phrases n unknown) = ap ascii (sym (text_past phrases n unknown (omega arith))) in
        absurd (omega (arith, begins_so 1 unknown rest unknown_refuses (ap (λ (p : List ℕ). take 8 (p ++ rest)) q ∙ e)))

pub only_zero_accepts : OnlyZeroAccepts
unfolding line_of
only_zero_accepts a e = phrase_begins a.number _ e
