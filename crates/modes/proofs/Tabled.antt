-- Tables that lie one after another are found by walking from one to the next.
use Prim.Native.Nat.{ℕ, zero, suc, ◌+◌, ◌*◌, ◌%◌, ◌^◌, ◌<◌}
use mathlib.Core.Path.{◌≡◌, refl, sym, ap, ◌∙◌}
use mathlib.Core.List.{List, ◌++◌}
use native.Mathlib.Nat.{add-zero, mod-eq_of_lt}
use native.Mathlib.Omega.{arith}
use lib.ListN.{length, get_or, take, drop, take-append-drop}
use lib.Seq.{get_or-take, get_or-drop, drop-drop}
use Rattle.plan.specs.Dispatch.{entry_count, table_of, tables_below, first_word}
use Rattle.plan.proofs.Starts.{below_first, below_lies}
use Rattle.writing.proofs.Tables.{table_length}
use Rattle.writing.proofs.AllTables.{below_most}
use Rattle.modes.specs.Modes.{table_after, table_from}

-- the tables from the second one on
pub from_second : (words : List ℕ) (word l : ℕ) → table_from words (table_after words word) l ≡ table_from words word (suc l)
unfolding table_from
from_second words word zero = refl
from_second words word (suc l) = ap (table_after words) (from_second words word l)

first_next : (s : List ℕ) (l : ℕ) → first_word s (suc l) ≡ first_word s l + length (table_of s l)
unfolding first_word
first_next s l = refl

module _ (s words : List ℕ) (w n : ℕ) (lie : take (length (tables_below s n)) (drop w words) ≡ tables_below s n)
    (low : w + length (tables_below s n) < 2 ^ 32) where
  there : (l : ℕ) → l < n → take (length (table_of s l)) (drop (w + first_word s l) words) ≡ table_of s l
  there l h =
      let rest : List ℕ = drop (length (tables_below s n)) (drop w words) in
      let e : drop w words ≡ tables_below s n ++ rest = sym (take-append-drop (length (tables_below s n)) (drop w words)) ∙ ap (λ (t : List ℕ). t ++ rest) lie in
      ap (take (length (table_of s l))) (sym (drop-drop (first_word s l) w words))
      ∙ ap (λ (t : List ℕ). take (length (table_of s l)) (drop (first_word s l) t)) e ∙ below_lies s l n rest h

  count_there : (l : ℕ) → l < n → get_or words (w + first_word s l + 1) 0 ≡ entry_count s l
  unfolding table_of
  count_there l h =
      sym (get_or-drop (w + first_word s l) words 1 0)
      ∙ sym (get_or-take (length (table_of s l)) (drop (w + first_word s l) words) 1 0 (omega (arith, table_length s l)))
      ∙ ap (λ (t : List ℕ). get_or t 1 0) (there l h)

  after_is : (l : ℕ) → suc l < n → table_after words (w + first_word s l) ≡ w + first_word s (suc l)
  unfolding table_after
  after_is l h =
      let q : w + first_word s l + 2 + 3 * get_or words (w + first_word s l + 1) 0 ≡ w + first_word s (suc l) =
      omega (arith, count_there l (omega arith), table_length s l, first_next s l) in
      let b : w + first_word s (suc l) < 2 ^ 32 = omega (arith, below_most s (suc l) n (omega arith), below_first s (suc l)) in
      ap (λ (x : ℕ). x % 2 ^ 32) q ∙ mod-eq_of_lt b

  found : (l : ℕ) → l < n → table_from words w l ≡ w + first_word s l
  unfolding table_from
  found zero h = unfold first_word in (sym (add-zero w))
  found (suc l) h = ap (table_after words) (found l (omega arith)) ∙ after_is l h

  pub table_there : (l : ℕ) → l < n → take (length (table_of s l)) (drop (table_from words w l) words) ≡ table_of s l
  table_there l h = rw (found l h) (there l h)
