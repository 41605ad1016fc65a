-- Lists of rows: built below a number, looked for in, appended to.
use Prim.Native.Nat.{ℕ, zero, suc, ◌+◌, ◌<◌}
use mathlib.Core.Path.{◌≡◌, refl, sym, ap, ◌∙◌}
use mathlib.Core.Logic.{◌⊎◌, inl, inr}
use mathlib.Core.Bool.{true, cond, true≢false}
use mathlib.Core.List.{List, ◌∷◌, ◌++◌, []}
use native.Mathlib.Nat.{not-suc-le-zero, le_of_suc-le-suc, eq-or-lt_of_le}
use native.Mathlib.Omega.{arith}
use lib.Dec.{eqb}
use lib.ListN.{length, get_or, length-append, get_or-append}
use lib.Seq.{get_or-append-add, get_or-append_seam}
use borrow.Author.Tests.{eqb-true, eq-eqb}
use Rattle.plan.specs.declared.Table.{Table}
use Rattle.std.specs.Prelude.{Option}
use Rattle.std.specs.Prelude.{Some, None}
use Rattle.plan.specs.Image.{shape, rows, field}
use Rattle.joins.specs.Joins.{below, row_by, rows_by, row_words, rows_of, same_words, lowest, is_new, new_rows}
use Rattle.plan.proofs.Searching.{and_true, first_at}

module _ {A : Type 0} (d : A) (f : ℕ → A) where
  pub below_long : (n : ℕ) → length (below n f) ≡ n
  unfolding below
  below_long zero = refl
  below_long (suc n) = length-append (below n f) (f n ∷ []) ∙ omega (arith, below_long n)

  pub below_at : (n i : ℕ) → i < n → get_or (below n f) i d ≡ f i
  unfolding below
  below_at zero i l = absurd (not-suc-le-zero l)
  below_at (suc n) i l = go (eq-or-lt_of_le (le_of_suc-le-suc l)) (below_at n i)
    where
      go : (i ≡ n) ⊎ (i < n) → (i < n → get_or (below n f) i d ≡ f i) → get_or (below n f ++ f n ∷ []) i d ≡ f i
      go (inl e) k =
          let q : i ≡ length (below n f) = omega (arith, below_long n) in
          ap (λ (x : ℕ). get_or (below n f ++ f n ∷ []) x d) q ∙ get_or-append_seam (below n f) (f n) [] d ∙ ap f (sym e)
      go (inr h) k = get_or-append (below n f) (f n ∷ []) d i (omega (arith, below_long n)) ∙ k h

-- the words of a row, and the rows of a table

module _ (s : List ℕ) (t : Table) (f : ℕ → ℕ → ℕ) where
  pub row_long : (r : ℕ) → length (row_by s t f r) ≡ (shape t).width
  unfolding row_by
  row_long r = below_long 0 (λ j. f j (field s t r j)) (shape t).width

  pub row_word : (r j : ℕ) → j < (shape t).width → get_or (row_by s t f r) j 0 ≡ f j (field s t r j)
  unfolding row_by
  row_word r j l = below_at 0 (λ j. f j (field s t r j)) (shape t).width j l

  pub rows_by_long : length (rows_by s t f) ≡ rows s t
  unfolding rows_by
  rows_by_long = below_long [] (row_by s t f) (rows s t)

  pub rows_by_at : (r : ℕ) → r < rows s t → get_or (rows_by s t f) r [] ≡ row_by s t f r
  unfolding rows_by
  rows_by_at r l = below_at [] (row_by s t f) (rows s t) r l

module _ (s : List ℕ) (t : Table) where
  pub rows_long : length (rows_of s t) ≡ rows s t
  unfolding rows_of
  rows_long = rows_by_long s t (λ j w. w)

  pub rows_at : (r : ℕ) → r < rows s t → get_or (rows_of s t) r [] ≡ row_words s t r
  unfolding rows_of row_words
  rows_at r l = rows_by_at s t (λ j w. w) r l

  pub word_of : (r j : ℕ) → j < (shape t).width → get_or (row_words s t r) j 0 ≡ field s t r j
  unfolding row_words
  word_of r j l = row_word s t (λ j w. w) r j l

-- ---- equal rows

pub same_words_holds : (x y : List ℕ) → same_words x y ≡ true → x ≡ y
unfolding same_words
same_words_holds [] [] e = refl
same_words_holds [] (y ∷ ys) e = absurd (true≢false (sym e))
same_words_holds (x ∷ xs) [] e = absurd (true≢false (sym e))
same_words_holds (x ∷ xs) (y ∷ ys) e =
    let p = and_true (eqb x y) (same_words xs ys) e in
    rw (eqb-true x y p.0, same_words_holds xs ys p.1) refl

pub same_self : (x : List ℕ) → same_words x x ≡ true
unfolding same_words
same_self [] = refl
same_self (x ∷ xs) = rw (eq-eqb x x refl, same_self xs) refl

-- a row stands in a list of rows
pub record Has (xs : List (List ℕ)) (x : List ℕ) : Type 0 where
  pub row : ℕ
  pub exists : row < length xs
  pub words : get_or xs row [] ≡ x

pub has_later : {y : List ℕ} {xs : List (List ℕ)} {x : List ℕ} → Has xs x → Has (y ∷ xs) x
has_later h = record { row = suc h.row; exists = omega (arith, h.exists); words = h.words }

pub has_left : {xs : List (List ℕ)} {x : List ℕ} (ys : List (List ℕ)) → Has xs x → Has (xs ++ ys) x
has_left {xs} ys h =
    record { row = h.row; exists = rw (length-append xs ys) (omega (arith, h.exists)); words = get_or-append xs ys [] h.row h.exists ∙ h.words }

pub has_right : (xs : List (List ℕ)) {ys : List (List ℕ)} {x : List ℕ} → Has ys x → Has (xs ++ ys) x
has_right xs {ys} h =
    record { row = length xs + h.row; exists = rw (length-append xs ys) (omega (arith, h.exists)); words = get_or-append-add xs ys h.row [] ∙ h.words }

pub has_first : {x : List ℕ} {xs : List (List ℕ)} → Has (x ∷ xs) x
has_first = record { row = 0; exists = omega arith; words = refl }

pub lowest_has : (rs : List (List ℕ)) (x : List ℕ) (i : ℕ) → lowest rs x ≡ Some i → Has rs x
unfolding lowest
lowest_has rs x i e = let r = first_at (λ i. same_words (get_or rs i []) x) (length rs) i e in record { row = i; exists = r.0; words = same_words_holds (get_or rs i []) x r.1 }

pub is_new_holds : (rs : List (List ℕ)) (x : List ℕ) → lowest rs x ≡ None → is_new rs x ≡ true
unfolding is_new
is_new_holds rs x e = rw (e, is_new) refl

pub new_has : (rs : List (List ℕ)) (x : List ℕ) → is_new rs x ≡ true → (xs : List (List ℕ)) (i : ℕ) → i < length xs → get_or xs i [] ≡ x → Has (new_rows rs xs) x
unfolding new_rows
new_has rs x e [] i l q = absurd (not-suc-le-zero l)
new_has rs x e (y ∷ ys) zero l q = rw (q, e) has_first
new_has rs x e (y ∷ ys) (suc i) l q = has_right (cond (is_new rs y) (y ∷ []) []) (new_has rs x e ys i (le_of_suc-le-suc l) q)

-- a row of the second stands among the first's, or is new
pub joined_has : (rs xs : List (List ℕ)) (x : List ℕ) → Has xs x → Has (rs ++ new_rows rs xs) x
joined_has rs xs x h = go (lowest rs x) refl
  where
    go : (d : Option ℕ) → lowest rs x ≡ d → Has (rs ++ new_rows rs xs) x
    go (Some i) e = has_left (new_rows rs xs) (lowest_has rs x i e)
    go None e = has_right rs (new_has rs x (is_new_holds rs x e) xs h.row h.exists h.words)
