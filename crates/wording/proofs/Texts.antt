-- Lines of a text, found byte by byte.
use Prim.Native.Nat.{ℕ, zero, suc, ◌+◌, ◌-◌, ◌≤◌, ◌<◌}
use mathlib.Core.Path.{◌≡◌, refl, sym, ap, ◌∙◌}
use mathlib.Core.Logic.{◌≢◌, ◌⊎◌, inl, inr}
use mathlib.Core.Bool.{Bool, true, false, cond}
use lib.Dec.{eqb, ltb}
use mathlib.Core.List.{List, ◌∷◌, []}
use native.Mathlib.Nat.{not-suc-le-zero}
use native.Mathlib.Omega.{arith}
use lib.ListN.{length, get_or, take, drop, length-drop}
use lib.Seq.{drop-cons, drop-length}
use native.Mathlib.Decide.{dec_lt}
use borrow.Author.Tests.{eq-eqb, ne_eqb, lt-ltb, le-ltb}
use Rattle.std.specs.Prelude.{Option, Some, None}
use Rattle.std.specs.List.{position_or_len}
use Rattle.std.proofs.lemmas.List.Recursion.{is_position_or_len}
use Rattle.texts.specs.Characters.{first_line, later_lines, lines_from, line_at}

from_newline : (n c : ℕ) (cs : List ℕ) → c ≡ 10 → lines_from (suc n) (c ∷ cs) ≡ lines_from n cs
unfolding lines_from later_lines
from_newline n c cs e = rw (eq-eqb c 10 e) refl

from_other : (n c : ℕ) (cs : List ℕ) → c ≢ 10 → lines_from (suc n) (c ∷ cs) ≡ lines_from (suc n) cs
unfolding lines_from later_lines
from_other n c cs h = rw (ne_eqb c 10 h) refl

pub from_zero : (text : List ℕ) → lines_from 0 text ≡ text
unfolding lines_from
from_zero text = refl

from_none : (n : ℕ) → lines_from n [] ≡ []
unfolding lines_from later_lines
from_none zero = refl
from_none (suc n) = from_none n

module _ (text : List ℕ) (i : ℕ) where
  module _ (l : i < length text) where
    pub one_line_fewer : (n : ℕ) → 1 ≤ n → get_or text i 0 ≡ 10 → lines_from (n - 1) (drop (suc i) text) ≡ lines_from n (drop i text)
    one_line_fewer zero k e = absurd (not-suc-le-zero k)
    one_line_fewer (suc n) k e =
        let q : suc n - 1 ≡ n = omega arith in
        ap (λ (m : ℕ). lines_from m (drop (suc i) text)) q ∙ sym (ap (lines_from (suc n)) (drop-cons text i 0 l) ∙ from_newline n (get_or text i 0) (drop (suc i) text) e)

    pub same_lines : (n : ℕ) → 1 ≤ n → get_or text i 0 ≢ 10 → lines_from n (drop (suc i) text) ≡ lines_from n (drop i text)
    same_lines zero k h = absurd (not-suc-le-zero k)
    same_lines (suc n) k h = sym (ap (lines_from (suc n)) (drop-cons text i 0 l) ∙ from_other n (get_or text i 0) (drop (suc i) text) h)

  pub none_left : i ≡ length text → (n : ℕ) → lines_from n (drop i text) ≡ drop i text
  none_left e n =
      let q : drop i text ≡ [] = ap (λ (k : ℕ). drop k text) e ∙ drop-length text in
      ap (lines_from n) q ∙ from_none n ∙ sym q

-- a line is that much of the text, and no longer than it
pub first_take : (text : List ℕ) → (take (length (first_line text)) text ≡ first_line text) × (length (first_line text) ≤ length text)
unfolding first_line
first_take [] = (refl, omega arith)
first_take (c ∷ cs) = go (eqb c 10) refl (first_take cs)
  where
    go : (b : Bool) → eqb c 10 ≡ b → (take (length (first_line cs)) cs ≡ first_line cs) × (length (first_line cs) ≤ length cs)
        → (take (length (first_line (c ∷ cs))) (c ∷ cs) ≡ first_line (c ∷ cs)) × (length (first_line (c ∷ cs)) ≤ suc (length cs))
    go true e h = rw e (refl, omega arith)
    go false e h = rw e (ap (λ (l : List ℕ). c ∷ l) h.0, omega (arith, h.1))

-- a line's length is the place of its newline, or the text's length
line_length : (text : List ℕ) → length (first_line text) ≡ position_or_len (λ c. eqb c 10) text
unfolding first_line
line_length text = is_position_or_len (λ t. length (first_line t)) (λ c. eqb c 10) refl (λ c cs. go c cs (eqb c 10) refl) text
  where
    go : (c : ℕ) (cs : List ℕ) (b : Bool) → eqb c 10 ≡ b → length (first_line (c ∷ cs)) ≡ cond (eqb c 10) 0 (1 + length (first_line cs))
    go c cs true e = rw e refl
    go c cs false e = rw e (omega arith)

module _ (text : List ℕ) (from : ℕ) (l : from ≤ length text) where
  abbrev pub Newline : Option ℕ → Type 0
  Newline r = let rest = drop from text in let n = position_or_len (λ c. eqb c 10) rest in r ≡ cond (ltb n (length rest)) (Some n) None

  abbrev at : ℕ
  at = position_or_len (λ c. eqb c 10) (drop from text)

  found : (r : Option ℕ) → Newline r → ((at < length (drop from text)) × (r ≡ Some at)) ⊎ ((length (drop from text) ≤ at) × (r ≡ None))
  found r h = go (dec_lt at (length (drop from text)))
    where
      go : Dec (at < length (drop from text)) → ((at < length (drop from text)) × (r ≡ Some at)) ⊎ ((length (drop from text) ≤ at) × (r ≡ None))
      go (yes k) = inl (k, h ∙ (rw (lt-ltb at (length (drop from text)) k) refl))
      go (no k) = let m : length (drop from text) ≤ at = omega arith in inr (m, h ∙ (rw (le-ltb at (length (drop from text)) m) refl))

  pub ends_there : (r : Option ℕ) (i : ℕ) → Newline r → r ≡ Some i → from + i ≡ from + length (first_line (drop from text))
  ends_there r i h e = go (found r h)
    where
      go : ((at < length (drop from text)) × (r ≡ Some at)) ⊎ ((length (drop from text) ≤ at) × (r ≡ None)) → from + i ≡ from + length (first_line (drop from text))
      go (inl k) = let same : i ≡ at = cc in omega (arith, line_length (drop from text))
      go (inr k) = cc

  pub ends_last : (r : Option ℕ) → Newline r → r ≡ None → length text ≡ from + length (first_line (drop from text))
  ends_last r h e = go (found r h)
    where
      go : ((at < length (drop from text)) × (r ≡ Some at)) ⊎ ((length (drop from text) ≤ at) × (r ≡ None)) → length text ≡ from + length (first_line (drop from text))
      go (inl k) = cc
      go (inr k) = omega (arith, k.0, line_length (drop from text), (first_take (drop from text)).1, length-drop from text)

module _ (text : List ℕ) (from end : ℕ) (l : from ≤ length text) (e : end ≡ from + length (first_line (drop from text))) where
  pub line_inside : end ≤ length text
  line_inside = omega (arith, e, (first_take (drop from text)).1, length-drop from text)

  -- the part of a text that is line n
  pub line_part : (n : ℕ) → drop from text ≡ lines_from n text → take (end - from) (drop from text) ≡ line_at n text
  unfolding line_at
  line_part n d =
      let q : end - from ≡ length (first_line (drop from text)) = omega (arith, e) in
      ap (λ (k : ℕ). take k (drop from text)) q ∙ (first_take (drop from text)).0 ∙ ap first_line d
