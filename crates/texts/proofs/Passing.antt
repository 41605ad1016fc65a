-- Bytes that all pass a test, and where such bytes end.
use Prim.Native.Nat.{ℕ, zero, suc, ◌≤◌, ◌<◌}
use mathlib.Core.Path.{◌≡◌, refl, sym, ap, ◌∙◌}
use mathlib.Core.Bool.{Bool, true, false, ◌&&◌, true≢false}
use mathlib.Core.List.{List, ◌∷◌, ◌++◌, []}
use native.Mathlib.Nat.{not-suc-le-zero, le_of_suc-le-suc}
use native.Mathlib.Omega.{arith}
use lib.Dec.{leb, eqb}
use lib.ListN.{length, get_or, drop}
use lib.Seq.{drop-append_seam}
use borrow.Author.Tests.{leb-true, le-leb, ne_eqb}
use Rattle.plan.proofs.Searching.{and_true}
use Rattle.texts.specs.Characters.{first_line, later_lines}

unfoldable pub every : (ℕ → Bool) → List ℕ → Bool
every p [] = true
every p (x ∷ xs) = p x && every p xs

module _ (p : ℕ → Bool) where
  pub every_append : (xs ys : List ℕ) → every p xs ≡ true → every p ys ≡ true → every p (xs ++ ys) ≡ true
  unfolding every
  every_append [] ys h k = k
  every_append (x ∷ xs) ys h k = let a = and_true (p x) (every p xs) h in rw (a.0, every_append xs ys a.1 k) refl

  pub every_at : (xs : List ℕ) (i : ℕ) → every p xs ≡ true → i < length xs → p (get_or xs i 0) ≡ true
  unfolding every
  every_at [] i h l = absurd (not-suc-le-zero l)
  every_at (x ∷ xs) zero h l = (and_true (p x) (every p xs) h).0
  every_at (x ∷ xs) (suc i) h l = every_at xs i (and_true (p x) (every p xs) h).1 (le_of_suc-le-suc l)

  pub every_more : (q : ℕ → Bool) → ((x : ℕ) → p x ≡ true → q x ≡ true) → (xs : List ℕ) → every p xs ≡ true → every q xs ≡ true
  unfolding every
  every_more q f [] h = refl
  every_more q f (x ∷ xs) h = let a = and_true (p x) (every p xs) h in rw (f x a.0, every_more q f xs a.1) refl

  -- what stands before the first byte that does not pass, and what after it
  pub split : (xs ys : List ℕ) (c d : ℕ) (us vs : List ℕ) → every p xs ≡ true → every p ys ≡ true → p c ≡ false → p d ≡ false
      → xs ++ c ∷ us ≡ ys ++ d ∷ vs → (xs ≡ ys) × (us ≡ vs)
  unfolding every
  split [] [] c d us vs h k a b e = (refl, ap (drop 1) e)
  split [] (y ∷ ys) c d us vs h k a b e =
      absurd (true≢false (sym (and_true (p y) (every p ys) k).0 ∙ ap (λ (l : List ℕ). p (get_or l 0 0)) (sym e) ∙ a))
  split (x ∷ xs) [] c d us vs h k a b e =
      absurd (true≢false (sym (and_true (p x) (every p xs) h).0 ∙ ap (λ (l : List ℕ). p (get_or l 0 0)) e ∙ b))
  split (x ∷ xs) (y ∷ ys) c d us vs h k a b e =
      let r = split xs ys c d us vs (and_true (p x) (every p xs) h).1 (and_true (p y) (every p ys) k).1 a b (ap (drop 1) e) in
      let z : x ≡ y = ap (λ (l : List ℕ). get_or l 0 0) e in
      (rw (z, r.0) refl, r.1)

pub cancel : (xs ys zs : List ℕ) → xs ++ ys ≡ xs ++ zs → ys ≡ zs
cancel xs ys zs e = sym (drop-append_seam xs ys) ∙ ap (drop (length xs)) e ∙ drop-append_seam xs zs

-- ---- printable bytes, 32 to 126, of which none is a newline

unfoldable pub printable : ℕ → Bool
printable x = leb 32 x && leb x 126

pub printable_bounds : (x : ℕ) → printable x ≡ true → (32 ≤ x) × (x ≤ 126)
unfolding printable
printable_bounds x e = let a = and_true (leb 32 x) (leb x 126) e in (leb-true 32 x a.0, leb-true x 126 a.1)

pub bounds_printable : (x : ℕ) → 32 ≤ x → x ≤ 126 → printable x ≡ true
unfolding printable
bounds_printable x l k = rw (le-leb 32 x l, le-leb x 126 k) refl

no_newline : (x : ℕ) → printable x ≡ true → eqb x 10 ≡ false
no_newline x e = ne_eqb x 10 (λ q. absurd (omega (arith, (printable_bounds x e).0)))

pub first_line_holds : (xs cs : List ℕ) → every printable xs ≡ true → first_line (xs ++ 10 ∷ cs) ≡ xs
unfolding every first_line
first_line_holds [] cs h = refl
first_line_holds (x ∷ xs) cs h = let a = and_true (printable x) (every printable xs) h in rw (no_newline x a.0) (ap (λ (l : List ℕ). x ∷ l) (first_line_holds xs cs a.1))

pub later_lines_holds : (xs cs : List ℕ) → every printable xs ≡ true → later_lines (xs ++ 10 ∷ cs) ≡ cs
unfolding every later_lines
later_lines_holds [] cs h = refl
later_lines_holds (x ∷ xs) cs h = let a = and_true (printable x) (every printable xs) h in rw (no_newline x a.0) (later_lines_holds xs cs a.1)
