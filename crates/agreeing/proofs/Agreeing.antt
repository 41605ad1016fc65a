-- Rows of two plans that have equal words.
use Prim.Native.Nat.{ℕ, ◌≤◌, ◌<◌}
use mathlib.Core.Path.{◌≡◌, refl, sym, ap, ◌∙◌}
use mathlib.Core.Logic.{◌⊎◌, inl, inr}
use mathlib.Core.Bool.{Bool, true, false, ◌&&◌}
use mathlib.Core.List.{List}
use native.Mathlib.Omega.{arith}
use lib.Dec.{leb, eqb}
use lib.ListN.{length, get_or}
use lib.Seq.{ext_get_or}
use borrow.Author.Tests.{eqb-true, eq-eqb, ne_eqb, le-leb, lt-leb}
use Rattle.plan.specs.declared.Table.{Table}
use Rattle.plan.specs.declared.Table.TheVariants.{Tasks}
use Rattle.plan.specs.Image.{shape, rows, field}
use Rattle.plan.specs.Search.{all}
use Rattle.plan.proofs.Searching.{all_yes, yes_all}
use Rattle.joins.specs.Joins.{row_words, same_words, agree_to, agree, tasks_shared}
use Rattle.joins.proofs.Lists.{row_long, word_of, same_words_holds, same_self}

module _ (a b : List ℕ) (t : Table) (r : ℕ) where
  long : (s : List ℕ) → length (row_words s t r) ≡ (shape t).width
  unfolding row_words
  long s = row_long s t (λ j w. w) r

  abbrev pub agrees : ℕ → Bool
  agrees j = eqb (field a t r j) (field b t r j)

  pub words_agree : (n : ℕ) → n ≡ (shape t).width → all n agrees ≡ same_words (row_words a t r) (row_words b t r)
  words_agree n e = go (all n agrees) refl (same_words (row_words a t r) (row_words b t r)) refl
    where
      equal : all n agrees ≡ true → row_words a t r ≡ row_words b t r
      equal h =
          ext_get_or 0 (row_words a t r) (row_words b t r) (long a ∙ sym (long b))
          (λ i l. let k : i < (shape t).width = omega (arith, long a) in word_of a t r i k ∙ eqb-true _ _ (all_yes agrees n h i (omega arith)) ∙ sym (word_of b t r i k))

      every : row_words a t r ≡ row_words b t r → all n agrees ≡ true
      every h =
          yes_all agrees n
          (λ i l. let k : i < (shape t).width = omega arith in eq-eqb _ _ (sym (word_of a t r i k) ∙ ap (λ (x : List ℕ). get_or x i 0) h ∙ word_of b t r i k))

      go : (c : Bool) → all n agrees ≡ c → (d : Bool) → same_words (row_words a t r) (row_words b t r) ≡ d → c ≡ d
      go true p true q = refl
      go true p false q = sym (same_self (row_words a t r)) ∙ ap (same_words (row_words a t r)) (equal p) ∙ q
      go false p true q = sym p ∙ every (same_words_holds (row_words a t r) (row_words b t r) q)
      go false p false q = refl

-- ---- tables and tasks

module _ (a b : List ℕ) where
  pub table_yes : (t : Table) (n : ℕ) (r : Bool) → n ≡ rows a t → n ≡ rows b t → r ≡ agree_to a b n t → r ≡ agree a b t
  unfolding agree
  table_yes t n r e d h = h ∙ ap (λ (m : ℕ). agree_to a b m t) e ∙ sym (rw (eq-eqb (rows a t) (rows b t) (sym e ∙ d)) refl)

  pub table_no : (t : Table) → (rows a t ≡ rows b t → ⊥) → false ≡ agree a b t
  unfolding agree
  table_no t d = rw (ne_eqb (rows a t) (rows b t) d) refl

  pub shared_no : (s : ℕ) → (rows a Tasks < s) ⊎ (rows b Tasks < s) → false ≡ tasks_shared a b s
  unfolding tasks_shared
  shared_no s (inl l) = rw (lt-leb s (rows a Tasks) l) refl
  shared_no s (inr l) = go (leb s (rows a Tasks))
    where
      go : (c : Bool) → false ≡ c && leb s (rows b Tasks) && agree_to a b s Tasks
      go true = rw (lt-leb s (rows b Tasks) l) refl
      go false = refl

  pub shared_yes : (s : ℕ) (r : Bool) → s ≤ rows a Tasks → s ≤ rows b Tasks → r ≡ agree_to a b s Tasks → r ≡ tasks_shared a b s
  unfolding tasks_shared
  shared_yes s r l k h = rw (le-leb s (rows a Tasks) l, le-leb s (rows b Tasks) k) h
