-- The tables of all lanes one after another, and a start of each lane: where each lies.
use Prim.Native.Nat.{ℕ, zero, suc, ◌+◌, ◌<◌}
use mathlib.Core.Path.{◌≡◌, refl, sym, ap, ◌∙◌}
use mathlib.Core.Logic.{◌⊎◌, inl, inr}
use mathlib.Core.List.{List, ◌∷◌, ◌++◌, [], append-nil, append_assoc}
use native.Mathlib.Nat.{not-suc-le-zero, eq-or-lt_of_le, le_of_suc-le-suc}
use native.Mathlib.Omega.{arith}
use lib.ListN.{length, get_or, take, drop, length-append, get_or-append}
use lib.Seq.{take-append_seam, drop_at, get_or_at}
use Rattle.plan.specs.Dispatch.{table_of, tables_below, first_word, start_state, starts_at}
use Rattle.plan.specs.declared.LaneState.{LaneState}

module _ (s : List ℕ) where
  -- lane n's table begins after those before it
  pub below_first : (n : ℕ) → length (tables_below s n) ≡ first_word s n
  unfolding tables_below first_word
  below_first zero = refl
  below_first (suc n) = length-append (tables_below s n) (table_of s n) ∙ ap (λ (k : ℕ). k + length (table_of s n)) (below_first n)

  -- the tables below n begin with those below lane l, then l's
  pub below_split : (l n : ℕ) → l < n → (m : List ℕ) × (tables_below s n ≡ tables_below s l ++ (table_of s l ++ m))
  unfolding tables_below
  below_split l zero h = absurd (not-suc-le-zero h)
  below_split l (suc n) h = go (eq-or-lt_of_le (le_of_suc-le-suc h)) (below_split l n)
    where
      go : (l ≡ n) ⊎ (l < n) → (l < n → (m : List ℕ) × (tables_below s n ≡ tables_below s l ++ (table_of s l ++ m)))
          → (m : List ℕ) × (tables_below s n ++ table_of s n ≡ tables_below s l ++ (table_of s l ++ m))
      go (inl e) k = ([], rw (e, append-nil) refl)
      go (inr q) k = let r = k q in (r.0 ++ table_of s n, rw r.1 (simp append_assoc))

  -- so lane l's lies at its first word, whatever follows
  pub below_lies : (l n : ℕ) (rest : List ℕ) → l < n → take (length (table_of s l)) (drop (first_word s l) (tables_below s n ++ rest)) ≡ table_of s l
  below_lies l n rest h =
      let r = below_split l n h in
      let e : tables_below s n ++ rest ≡ tables_below s l ++ (table_of s l ++ (r.0 ++ rest)) = rw r.1 (simp append_assoc) in
      ap (λ (ws : List ℕ). take (length (table_of s l)) (drop (first_word s l) ws)) e
      ∙ ap (take (length (table_of s l))) (drop_at (tables_below s l) _ (first_word s l) (below_first l))
      ∙ take-append_seam (table_of s l) (r.0 ++ rest)

module _ (first : ℕ → ℕ) (c : ℕ) where
  pub starts_many : (n : ℕ) → length (starts_at first c n) ≡ n
  unfolding starts_at
  starts_many zero = refl
  starts_many (suc n) = length-append (starts_at first c n) (start_state c (first n) ∷ []) ∙ omega (arith, starts_many n)

  pub start_at : (n l : ℕ) (d : LaneState) → l < n → get_or (starts_at first c n) l d ≡ start_state c (first l)
  unfolding starts_at
  start_at zero l d h = absurd (not-suc-le-zero h)
  start_at (suc n) l d h = go (eq-or-lt_of_le (le_of_suc-le-suc h)) (start_at n l d)
    where
      go : (l ≡ n) ⊎ (l < n) → (l < n → get_or (starts_at first c n) l d ≡ start_state c (first l))
          → get_or (starts_at first c n ++ start_state c (first n) ∷ []) l d ≡ start_state c (first l)
      go (inl e) k = get_or_at (starts_at first c n) _ [] d l (starts_many n ∙ sym e) ∙ ap (λ (x : ℕ). start_state c (first x)) (sym e)
      go (inr q) k = get_or-append (starts_at first c n) _ d l (omega (arith, starts_many n)) ∙ k q
