-- Texts of a list: what a test computed over the whole list says of each, that each is a line of its own, and is found again where all differ.
use Prim.Native.Nat.{ℕ, zero, suc, ◌+◌, ◌≤◌, ◌<◌}
use Prim.Native.String.{String}
use mathlib.Core.Path.{◌≡◌, refl, sym, ap, ◌∙◌}
use mathlib.Core.Bool.{Bool, true, false, ◌&&◌, cond}
use mathlib.Core.List.{List, ◌∷◌, []}
use native.Mathlib.Nat.{not-suc-le-zero, le_of_suc-le-suc}
use native.Mathlib.Omega.{arith}
use lib.Dec.{eqb}
use lib.ListN.{length, get_or}
use borrow.Author.Tests.{eqb-true}
use Rattle.plan.proofs.Searching.{and_true}
use Rattle.texts.specs.Characters.{ascii, lines_of, first_line, lines_from, line_at}
use Rattle.texts.proofs.Passing.{every, printable, first_line_holds, later_lines_holds}

-- a test of each text with its place, from place n on
unfoldable pub every_text : (ℕ → String → Bool) → ℕ → List String → Bool
every_text p n [] = true
every_text p n (t ∷ ts) = p n t && every_text p (suc n) ts

text_from : (p : ℕ → String → Bool) (n : ℕ) (ts : List String) (i : ℕ) (d : String) → every_text p n ts ≡ true → i < length ts → p (n + i) (get_or ts i d) ≡ true
unfolding every_text
text_from p n [] i d h l = absurd (not-suc-le-zero l)
text_from p n (t ∷ ts) zero d h l = let e : n + 0 ≡ n = omega arith in rw e (and_true (p n t) (every_text p (suc n) ts) h).0
text_from p n (t ∷ ts) (suc i) d h l =
    let e : n + suc i ≡ suc n + i = omega arith in
    rw e (text_from p (suc n) ts i d (and_true (p n t) (every_text p (suc n) ts) h).1 (le_of_suc-le-suc l))

pub text_at : (p : ℕ → String → Bool) (ts : List String) (i : ℕ) (d : String) → every_text p 0 ts ≡ true → i < length ts → p i (get_or ts i d) ≡ true
text_at p ts i d h l = let e : 0 + i ≡ i = omega arith in ap (λ (n : ℕ). p n (get_or ts i d)) (sym e) ∙ text_from p 0 ts i d h l

-- past the end
pub text_past : (ts : List String) (i : ℕ) (d : String) → length ts ≤ i → get_or ts i d ≡ d
text_past [] i d l = refl
text_past (t ∷ ts) zero d l = absurd (not-suc-le-zero l)
text_past (t ∷ ts) (suc i) d l = text_past ts i d (le_of_suc-le-suc l)

-- ---- found again

unfoldable pub same : List ℕ → List ℕ → Bool
same [] [] = true
same [] (y ∷ ys) = false
same (x ∷ xs) [] = false
same (x ∷ xs) (y ∷ ys) = eqb x y && same xs ys

-- the place of the first text with these bytes, or the number of texts
unfoldable pub spot : List ℕ → List String → ℕ
spot xs [] = 0
spot xs (t ∷ ts) = cond (same (ascii t) xs) 0 (suc (spot xs ts))

-- each text is the first with its bytes
unfoldable pub differ : List String → Bool
differ ts = every_text (λ n t. eqb (spot (ascii t) ts) n) 0 ts

pub found_again : (ts : List String) (i : ℕ) (d : String) → differ ts ≡ true → i < length ts → spot (ascii (get_or ts i d)) ts ≡ i
unfolding differ
found_again ts i d h l = eqb-true (spot (ascii (get_or ts i d)) ts) i (text_at (λ n t. eqb (spot (ascii t) ts) n) ts i d h l)

-- ---- as lines

-- line n of a list of printable texts is text n
pub listed_line : (ts : List String) (n k : ℕ) (d : String) → every_text (λ i t. every printable (ascii t)) k ts ≡ true → n < length ts → line_at n (lines_of ts) ≡ ascii (get_or ts n d)
unfolding line_at lines_from lines_of every_text
listed_line [] n k d h l = absurd (not-suc-le-zero l)
listed_line (t ∷ ts) zero k d h l = first_line_holds (ascii t) (lines_of ts) (and_true (every printable (ascii t)) (every_text _ (suc k) ts) h).0
listed_line (t ∷ ts) (suc n) k d h l =
    let a = and_true (every printable (ascii t)) (every_text (λ i s. every printable (ascii s)) (suc k) ts) h in
    ap (λ (text : List ℕ). first_line (lines_from n text)) (later_lines_holds (ascii t) (lines_of ts) a.0) ∙ listed_line ts n (suc k) d a.1 (le_of_suc-le-suc l)
