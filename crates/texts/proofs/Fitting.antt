-- A line in words is short enough for its bytes, and these are printable.
use Prim.Native.Nat.{ℕ, zero, suc, ◌+◌, ◌-◌, ◌/◌, ◌%◌, ◌^◌, ◌≤◌, ◌<◌}
use Prim.Native.String.{String, [] as none}
use mathlib.Core.Path.{◌≡◌, refl, sym, ap, ◌∙◌}
use mathlib.Core.Bool.{Bool, true, false, true≢false}
use mathlib.Core.List.{List, ◌∷◌, ◌++◌, []}
use native.Mathlib.Omega.{arith}
use native.Mathlib.Decide.{dec_lt}
use lib.Dec.{ltb, leb}
use lib.ListN.{length, get_or, drop, length-append}
use borrow.Author.Tests.{leb-true, le-leb, lt-leb}
use Rattle.plan.specs.declared.Answer.{Answer}
use Rattle.plan.proofs.Searching.{and_true}
use Rattle.texts.specs.Characters.{digits, decimal, ascii}
use Rattle.texts.specs.Wording.{phrases, unknown, phrase, kinds, named, kind, place, line_of, line_length, line_bytes, line_most, ThreeWords, LinesFit, LineLent, LinesLent, wording}
use Rattle.texts.specs.Printed.{digit}
use Rattle.texts.proofs.Digits.{digits_low, digits_high, decimal_ten}
use Rattle.texts.proofs.ReadNumber.{digit_is}
use Rattle.texts.proofs.Passing.{every, every_append, every_at, every_more, printable, printable_bounds, bounds_printable}
use Rattle.texts.proofs.Listed.{every_text, text_at, text_past}

-- ---- digits

one_digit : (x : ℕ) → x < 10 → every digit ((x + 48) ∷ []) ≡ true
unfolding every
one_digit x l = rw (digit_is x l) refl

digits_digits : (n x : ℕ) → every digit (digits n x) ≡ true
digits_digits zero x = unfold digits in one_digit (x % 10) (omega arith)
digits_digits (suc n) x = go (dec_lt x 10) (digits_digits n (x / 10))
  where
    go : Dec (x < 10) → every digit (digits n (x / 10)) ≡ true → every digit (digits (suc n) x) ≡ true
    go (yes l) h = rw (digits_low (suc n) x l) (one_digit x l)
    go (no l) h = rw (digits_high n x (omega arith)) (every_append digit (digits n (x / 10)) ((x % 10 + 48) ∷ []) h (one_digit (x % 10) (omega arith)))

pub decimal_digits : (x : ℕ) → every digit (decimal x) ≡ true
unfolding decimal
decimal_digits x = digits_digits x x

digit_printable : (x : ℕ) → digit x ≡ true → printable x ≡ true
unfolding digit
digit_printable x e =
    let a = and_true (leb 48 x) (leb x 57) e in
    bounds_printable x (omega (arith, leb-true 48 x a.0)) (omega (arith, leb-true x 57 a.1))

pub decimal_printable : (x : ℕ) → every printable (decimal x) ≡ true
decimal_printable x = every_more digit printable digit_printable (decimal x) (decimal_digits x)

-- ---- phrases: a phrase and its number have at most 51 bytes together

sayable : ℕ → String → Bool
sayable n t = leb (length (ascii t) + length (decimal n)) 51

phrases_sayable : every_text sayable 0 phrases ≡ true
unfolding wording sayable every_text
phrases_sayable = refl

pub unknown_short : (length (ascii unknown) ≡ 27) × (every printable (ascii unknown) ≡ true)
unfolding wording every printable
unknown_short = (refl, refl)

pub phrase_known : (n : ℕ) → n < length phrases → length (phrase n) + length (decimal n) ≤ 51
unfolding phrase sayable
phrase_known n l = leb-true (length (ascii (get_or phrases n unknown)) + length (decimal n)) 51 (text_at sayable phrases n unknown phrases_sayable l)

pub phrase_unknown : (n : ℕ) → length phrases ≤ n → phrase n ≡ ascii unknown
unfolding phrase
phrase_unknown n l = ap ascii (text_past phrases n unknown l)

-- a test of bytes that all phrases pass
pub phrase_every : (p : ℕ → Bool) → every_text (λ n t. every p (ascii t)) 0 phrases ≡ true → every p (ascii unknown) ≡ true → (n : ℕ) → every p (phrase n) ≡ true
unfolding phrase
phrase_every p h k n = go (dec_lt n (length phrases))
  where
    go : Dec (n < length phrases) → every p (ascii (get_or phrases n unknown)) ≡ true
    go (yes l) = text_at (λ m t. every p (ascii t)) phrases n unknown h l
    go (no l) = rw (text_past phrases n unknown (omega arith)) k

pub phrases_printable : every_text (λ n t. every printable (ascii t)) 0 phrases ≡ true
unfolding wording every printable every_text
phrases_printable = refl

phrase_printable : (n : ℕ) → every printable (phrase n) ≡ true
phrase_printable = phrase_every printable phrases_printable unknown_short.1

phrase_short : (n : ℕ) → n < 2 ^ 32 → length (phrase n) + length (decimal n) ≤ 51
phrase_short n k = go (dec_lt n (length phrases))
  where
    go : Dec (n < length phrases) → length (phrase n) + length (decimal n) ≤ 51
    go (yes l) = phrase_known n l
    go (no l) = omega (arith, ap length (phrase_unknown n (omega arith)), unknown_short.0, decimal_ten n k)

-- ---- kinds: at most 21 bytes

pub kind_name : (t : ℕ) → named t ≡ true → kind t ≡ ascii (get_or kinds (t - 1) none)
unfolding kind
kind_name t e = rw e refl

pub kind_number : (t : ℕ) → named t ≡ false → kind t ≡ ascii "table " ++ (decimal t ++ ascii ", row")
unfolding kind
kind_number t e = rw e refl

no_table_0 : named 0 ≡ false
unfolding wording
no_table_0 = refl

pub named_bounds : (t : ℕ) → named t ≡ true → (0 < t) × (t - 1 < length kinds)
unfolding named
named_bounds zero e = absurd (true≢false (sym e ∙ no_table_0))
named_bounds (suc t) e = let k = leb-true (suc t) (length kinds) (and_true (ltb 0 (suc t)) (leb (suc t) (length kinds)) e).1 in (omega arith, omega arith)

nameable : ℕ → String → Bool
nameable n t = leb (length (ascii t)) 6

kinds_nameable : every_text nameable 0 kinds ≡ true
unfolding wording nameable every_text
kinds_nameable = refl

pub kinds_printable : every_text (λ n t. every printable (ascii t)) 0 kinds ≡ true
unfolding wording every printable every_text
kinds_printable = refl

around : (x : ℕ) → (length (ascii "table " ++ (decimal x ++ ascii ", row")) ≡ 11 + length (decimal x)) × (every printable (ascii "table " ++ (decimal x ++ ascii ", row")) ≡ true)
unfolding wording every printable
around x = (
  rw (length-append (decimal x)) (omega arith),
  every_append printable (decimal x) (ascii ", row") (decimal_printable x) refl,
)

module _ (t : ℕ) where
  name_fits : named t ≡ true → (length (kind t) ≤ 6) × (every printable (kind t) ≡ true)
  unfolding nameable
  name_fits e =
      let l = (named_bounds t e).1 in
      rw (kind_name t e) (leb-true _ _ (text_at nameable kinds (t - 1) none kinds_nameable l), text_at (λ n s. every printable (ascii s)) kinds (t - 1) none kinds_printable l)

  kind_printable : every printable (kind t) ≡ true
  kind_printable = go (named t) refl
    where
      go : (b : Bool) → named t ≡ b → every printable (kind t) ≡ true
      go true e = (name_fits e).1
      go false e = rw (kind_number t e) (around t).1

  pub kind_short : t < 2 ^ 32 → length (kind t) ≤ 21
  kind_short k = go (named t) refl
    where
      go : (b : Bool) → named t ≡ b → length (kind t) ≤ 21
      go true e = omega (arith, (name_fits e).0)
      go false e = rw (kind_number t e) (omega (arith, (around t).0, decimal_ten t k))

-- ---- places and lines

module _ (t r : ℕ) where
  place_printable : every printable (place t r) ≡ true
  unfolding place
  place_printable =
      every_append printable (kind _) _ (kind_printable _)
      (every_append printable (ascii " ") _ (unfold wording every printable in refl) (decimal_printable _))

  place_length : length (place t r) ≡ length (kind t) + length (decimal r) + 1
  unfolding place ascii
  place_length = rw (length-append) (omega arith)

module _ (a : Answer) where
  pub line_printable : every printable (line_of a) ≡ true
  unfolding line_of
  line_printable =
      every_append printable (phrase _) _ (phrase_printable _)
      (every_append printable (ascii " (answer ") _ (unfold wording every printable in refl)
      (every_append printable (decimal _) _ (decimal_printable _)
      (every_append printable (ascii ", ") _ (unfold wording every printable in refl)
      (every_append printable (place _ _) (ascii ")") (place_printable _ _) (unfold wording every printable in refl)))))

  line_length_holds : length (line_of a) ≡ length (phrase a.number) + length (decimal a.number) + length (place a.table a.row) + 12
  unfolding line_of ascii
  line_length_holds = rw (length-append, length-append, length-append, length-append, length-append) (omega arith)

  pub line_short : ThreeWords a → length (line_of a) ≤ line_most
  line_short w =
      omega (
        arith,
        line_length_holds,
        place_length a.table a.row,
        phrase_short a.number w.number,
        kind_short a.table w.table,
        decimal_ten a.row w.row,
      )

pub lines_fit : LinesFit
lines_fit a w =
    record {
      some = omega (arith, line_length_holds a);
      short = line_short a w;
      printable = λ i l. printable_bounds (get_or (line_of a) i 0) (every_at printable (line_of a) i (line_printable a) l);
    }

-- ---- into lent bytes

module _ (a : Answer) (lent : List ℕ) where
  pub line_enough : length (line_of a) ≤ length lent → (line_length a lent ≡ length (line_of a)) × (line_bytes a lent ≡ line_of a ++ drop (length (line_of a)) lent)
  unfolding line_length line_bytes
  line_enough l = rw (le-leb (length (line_of a)) (length lent) l) (refl, refl)

  pub line_too_long : length lent < length (line_of a) → (line_length a lent ≡ 0) × (line_bytes a lent ≡ lent)
  unfolding line_length line_bytes
  line_too_long l = rw (lt-leb (length (line_of a)) (length lent) l) (refl, refl)

pub lines_lent : LinesLent
lines_lent a lent = go (dec_lt (length lent) (length (line_of a)))
  where
    go : Dec (length lent < length (line_of a)) → LineLent a lent
    go (yes l) =
        let h = line_too_long a lent l in
        record { line = λ k. absurd (omega (arith, h.0)); kept = λ z. (l, h.1); room = λ w k. absurd (omega (arith, line_short a w)) }
    go (no l) =
        let h = line_enough a lent (omega arith) in
        record { line = λ k. h; kept = λ z. absurd (omega (arith, h.0, line_length_holds a)); room = λ w k. omega (arith, h.0, line_length_holds a) }
