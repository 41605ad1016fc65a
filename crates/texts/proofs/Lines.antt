-- Lines one after another, and the text of a refused and of an accepted plan.
use Prim.Native.Nat.{ℕ, zero, suc, ◌*◌}
use mathlib.Core.Path.{◌≡◌, refl, sym, ap, ◌∙◌}
use mathlib.Core.Logic.{◌≢◌}
use mathlib.Core.List.{List, ◌∷◌, ◌++◌, [], append_assoc, append-nil}
use native.Mathlib.Omega.{arith}
use lib.ListN.{length}
use borrow.Author.Tests.{eq-eqb, ne_eqb}
use Rattle.plan.specs.Questions.{answer_of}
use Rattle.plan.specs.Dispatch.{lanes}
use Rattle.texts.specs.Printed.{answer_line, word_line, entry_line, entry_lines, lines_below, table_lines, printed}

-- ---- entries line by line

pub lines_append : (lane n : ℕ) (xs ys : List ℕ) → length xs ≡ 3 * n → entry_lines lane (xs ++ ys) ≡ entry_lines lane xs ++ entry_lines lane ys
unfolding entry_lines
lines_append lane n [] ys e = refl
lines_append lane n (a ∷ []) ys e = absurd (omega arith)
lines_append lane n (a ∷ b ∷ []) ys e = absurd (omega arith)
lines_append lane zero (a ∷ b ∷ c ∷ xs) ys e = absurd (omega arith)
lines_append lane (suc n) (a ∷ b ∷ c ∷ xs) ys e =
    ap (λ (l : List ℕ). entry_line lane a b c ++ l) (lines_append lane n xs ys (omega arith))
    ∙ sym (append_assoc (entry_line lane a b c) (entry_lines lane xs) (entry_lines lane ys))

pub one_entry : (lane t k r : ℕ) → entry_lines lane (t ∷ k ∷ r ∷ []) ≡ entry_line lane t k r
unfolding entry_lines
one_entry lane t k r = append-nil (entry_line lane t k r)

-- ---- the text

module _ (s : List ℕ) where
  pub refused_text : (answer_of s).number ≢ 0 → printed s ≡ answer_line (answer_of s) ++ word_line (answer_of s)
  unfolding table_lines printed
  refused_text h = rw (ne_eqb (answer_of s).number 0 h) (append-nil (answer_line (answer_of s) ++ word_line (answer_of s)))

  pub accepted_text : (answer_of s).number ≡ 0 → printed s ≡ answer_line (answer_of s) ++ word_line (answer_of s) ++ lines_below s (lanes s)
  unfolding table_lines printed
  accepted_text h = rw (eq-eqb (answer_of s).number 0 h) refl
