-- A number's digits are read back as the number; so two numbers never have equal digits.
use Prim.Native.Nat.{ℕ, zero, suc, ◌+◌, ◌-◌, ◌*◌, ◌/◌, ◌%◌, ◌<◌}
use mathlib.Core.Path.{◌≡◌, refl, sym, ap, ◌∙◌}
use mathlib.Core.Bool.{true}
use mathlib.Core.List.{List, ◌∷◌, ◌++◌, [], append_assoc}
use native.Mathlib.Omega.{arith}
use native.Mathlib.Decide.{dec_lt}
use lib.ListN.{get_or}
use borrow.Author.Tests.{le-leb}
use Rattle.texts.specs.Characters.{digits, decimal}
use Rattle.texts.specs.Printed.{ended, digit, numbers_from}
use Rattle.texts.proofs.Digits.{top, top_above, digits_low, digits_high}

pub digit_is : (x : ℕ) → x < 10 → digit (x + 48) ≡ true
unfolding digit
digit_is x l = rw (le-leb 48 (x + 48) (omega arith), le-leb (x + 48) 57 (omega arith)) refl

from_digit : (v d : ℕ) (cs : List ℕ) → d < 10 → numbers_from v ((d + 48) ∷ cs) ≡ numbers_from (10 * v + d) cs
unfolding numbers_from
from_digit v d cs l = let e : d + 48 - 48 ≡ d = omega arith in rw (digit_is d l, e) refl

-- read after nothing, a number's digits give the number
from_digits : (n x : ℕ) (cs : List ℕ) → x < top n → numbers_from 0 (digits n x ++ cs) ≡ numbers_from x cs
unfolding top
from_digits zero x cs l = rw (digits_low zero x l) (from_digit 0 x cs l ∙ ap (λ (v : ℕ). numbers_from v cs) (let e : 10 * 0 + x ≡ x = omega arith in e))
from_digits (suc n) x cs l = go (dec_lt x 10) (from_digits n (x / 10) ((x % 10 + 48) ∷ cs) (omega arith))
  where
    go : Dec (x < 10) → numbers_from 0 (digits n (x / 10) ++ (x % 10 + 48) ∷ cs) ≡ numbers_from (x / 10) ((x % 10 + 48) ∷ cs) → numbers_from 0 (digits (suc n) x ++ cs) ≡ numbers_from x cs
    go (yes p) h = rw (digits_low (suc n) x p) (from_digit 0 x cs p ∙ ap (λ (v : ℕ). numbers_from v cs) (let e : 10 * 0 + x ≡ x = omega arith in e))
    go (no p) h =
        rw (digits_high n x (omega arith), append_assoc (digits n (x / 10)) ((x % 10 + 48) ∷ []) cs)
        (h ∙ from_digit (x / 10) (x % 10) cs (omega arith) ∙ ap (λ (v : ℕ). numbers_from v cs) (let e : 10 * (x / 10) + x % 10 ≡ x = omega arith in e))

pub space : (v : ℕ) (cs : List ℕ) → numbers_from v (32 ∷ cs) ≡ v ∷ numbers_from 0 cs
unfolding numbers_from digit
space v cs = refl

pub newline : (v : ℕ) (cs : List ℕ) → numbers_from v (10 ∷ cs) ≡ v ∷ numbers_from 0 cs
unfolding numbers_from digit
newline v cs = refl

pub from_ended : (x c : ℕ) (cs : List ℕ) → ((v : ℕ) (ds : List ℕ) → numbers_from v (c ∷ ds) ≡ v ∷ numbers_from 0 ds) → numbers_from 0 (ended x c ++ cs) ≡ x ∷ numbers_from 0 cs
unfolding ended decimal
from_ended x c cs h = rw (append_assoc (digits x x) (c ∷ []) cs) (from_digits x x (c ∷ cs) (top_above x) ∙ h x cs)

pub decimal_same : (x y : ℕ) → decimal x ≡ decimal y → x ≡ y
unfolding ended
decimal_same x y e =
    ap (λ (l : List ℕ). get_or l 0 0) (sym (from_ended x 32 [] space) ∙ ap (λ (ds : List ℕ). numbers_from 0 ((ds ++ 32 ∷ []) ++ [])) e ∙ from_ended y 32 [] space)
