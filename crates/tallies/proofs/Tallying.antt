-- A store at one place leaves the others as they were; a tally is brought up to date by one store; a tally as a sum, a largest or a
-- smallest.
use Prim.Native.Nat.{ℕ, zero, suc, ◌+◌, min, max, ◌<◌, ◌≤◌}
use mathlib.Core.Path.{◌≡◌, refl, sym, ap, ◌∙◌, subst}
use mathlib.Core.Logic.{◌⊎◌, inl, inr, ◌≢◌}
use mathlib.Core.Bool.{Bool, true, false, cond}
use mathlib.Core.List.{List}
use native.Mathlib.Nat.{not-suc-le-zero}
use native.Mathlib.Decide.{ℕ_discrete}
use native.Mathlib.Numerals.{add-one}
use native.Mathlib.Omega.{arith}
use lib.Dec.{eqb}
use lib.ListN.{length, get_or, set, length-set, replicate, get_or-replicate, length-replicate}
use lib.Seq.{get_or-set_same, get_or-set_other}
use borrow.Author.Tests.{eq-eqb, ne_eqb}
use Rattle.plan.specs.Search.{sum, largest, smallest}
use Rattle.tallies.specs.Tallies.{tally, Kept}

module _ (words : List ℕ) (base many : ℕ) (value : ℕ → ℕ) (h : Kept words base many value) where
  -- one place gets a word, and what is asked of the others stays
  pub kept_set : (next : ℕ → ℕ) (p x : ℕ) → p < many → x ≡ next p → ((q : ℕ) → q < many → q ≢ p → next q ≡ value q)
      → Kept (set words (base + p) x) base many next
  kept_set next p x l e o = record { room = simp length-set h.room; each = λ q m. go q m (ℕ_discrete q p) }
    where
      go : (q : ℕ) → q < many → Dec (q ≡ p) → get_or (set words (base + p) x) (base + q) 0 ≡ next q
      go q m (yes d) =
          subst (λ (z : ℕ). get_or (set words (base + p) x) (base + z) 0 ≡ next z) (sym d)
          (get_or-set_same words (base + p) x 0 (let r = h.room in omega arith) ∙ e)
      go q m (no d) = get_or-set_other words (base + p) (base + q) x 0 (λ z. d (omega arith)) ∙ h.each q m ∙ sym (o q m d)

  -- a word elsewhere changes none of them
  pub kept_apart : (at x : ℕ) → (at < base) ⊎ (base + many ≤ at) → Kept (set words at x) base many value
  kept_apart at x l = record { room = simp length-set h.room; each = λ p m. get_or-set_other words at (base + p) x 0 (go p m l) ∙ h.each p m }
    where
      go : (p : ℕ) → p < many → (at < base) ⊎ (base + many ≤ at) → base + p ≡ at → ⊥
      go p m (inl d) e = omega arith
      go p m (inr d) e = omega arith

  -- another definition that gives the same
  pub kept_as : (next : ℕ → ℕ) → ((q : ℕ) → q < many → next q ≡ value q) → Kept words base many next
  kept_as next o = record { room = h.room; each = λ p m. h.each p m ∙ sym (o p m) }

-- one place more
pub kept_more : (words : List ℕ) (base n : ℕ) (value : ℕ → ℕ) → Kept words base n value → base + n < length words → (x : ℕ) → x ≡ value n
    → Kept (set words (base + n) x) base (n + 1) value
kept_more words base n value h l x e = record { room = rw length-set (omega arith); each = λ p m. go p m (ℕ_discrete p n) }
  where
    go : (p : ℕ) → p < n + 1 → Dec (p ≡ n) → get_or (set words (base + n) x) (base + p) 0 ≡ value p
    go p m (yes d) =
        subst (λ (z : ℕ). get_or (set words (base + n) x) (base + z) 0 ≡ value z) (sym d) (get_or-set_same words (base + n) x 0 l ∙ e)
    go p m (no d) = get_or-set_other words (base + n) (base + p) x 0 (λ z. d (omega arith)) ∙ h.each p (omega arith)

-- of no place there is nothing to keep
pub kept_none : (words : List ℕ) (base : ℕ) (value : ℕ → ℕ) → base ≤ length words → Kept words base 0 value
kept_none words base value l = record { room = omega arith; each = λ p m. absurd (not-suc-le-zero m) }

from_0 : (p : ℕ) → 0 + p ≡ p
from_0 p = omega arith

-- fresh words
pub kept_fresh : (n x : ℕ) → Kept (replicate n x) 0 n (λ _. x)
kept_fresh n x = record { room = rw length-replicate (omega arith); each = λ p l. rw (from_0 p) (get_or-replicate n p x 0 l) }

module _ (op : ℕ → ℕ → ℕ) (none : ℕ) (place value : ℕ → ℕ) where
  pub tally_none : (p : ℕ) → tally op none place value 0 p ≡ none
  unfolding tally
  tally_none p = refl

  pub tally_at : (n : ℕ) → tally op none place value (suc n) (place n) ≡ op (tally op none place value n (place n)) (value n)
  unfolding tally
  tally_at n = rw (eq-eqb (place n) (place n) refl) refl

  pub tally_other : (n p : ℕ) → p ≢ place n → tally op none place value (suc n) p ≡ tally op none place value n p
  unfolding tally
  tally_other n p d = rw (ne_eqb (place n) p (λ e. d (sym e))) refl

  module _ (words : List ℕ) (base many n : ℕ) (h : Kept words base many (tally op none place value n)) where
    -- one row more: its place gets its value joined, the others stay
    pub tally_next : (x : ℕ) → place n < many → x ≡ op (get_or words (base + place n) 0) (value n)
        → Kept (set words (base + place n) x) base many (tally op none place value (n + 1))
    tally_next x l e =
        rw add-one
        (kept_set words base many (tally op none place value n) h (tally op none place value (suc n)) (place n) x l
        (e ∙ ap (λ (z : ℕ). op z (value n)) (h.each (place n) l) ∙ sym (tally_at n))
        (λ q m d. tally_other n q d))

    -- a row at none of these places
    pub tally_skip : many ≤ place n → Kept words base many (tally op none place value (n + 1))
    tally_skip l =
        rw add-one
        (kept_as words base many (tally op none place value n) h (tally op none place value (suc n)) (λ q m. tally_other n q (λ e. absurd (omega arith))))

-- the same of words from the first on
pub kept_at : (words : List ℕ) (many : ℕ) (value : ℕ → ℕ) → Kept words 0 many value → (p : ℕ) → p < many → get_or words p 0 ≡ value p
kept_at words many value h p l = ap (λ (i : ℕ). get_or words i 0) (sym (from_0 p)) ∙ h.each p l

-- one word more
pub kept_on : (words : List ℕ) (n : ℕ) (value : ℕ → ℕ) → Kept words 0 n value → n < length words → (x : ℕ) → x ≡ value n → Kept (set words n x) 0 (n + 1) value
kept_on words n value h l x e =
    subst (λ (i : ℕ). Kept (set words i x) 0 (n + 1) value) (from_0 n) (kept_more words 0 n value h (rw (from_0 n) l) x e)

pub tally_on : (op : ℕ → ℕ → ℕ) (none : ℕ) (place value : ℕ → ℕ) (words : List ℕ) (many n : ℕ) → Kept words 0 many (tally op none place value n)
    → (x : ℕ) → place n < many → x ≡ op (get_or words (place n) 0) (value n) → Kept (set words (place n) x) 0 many (tally op none place value (n + 1))
tally_on op none place value words many n h x l e =
    subst (λ (i : ℕ). Kept (set words i x) 0 many (tally op none place value (n + 1))) (from_0 (place n))
    (tally_next op none place value words 0 many n h x l (e ∙ ap (λ (i : ℕ). op (get_or words i 0) (value n)) (sym (from_0 (place n)))))

-- ---- a tally in the words of the questions

pub smallest_top : (top : ℕ) (f : ℕ → ℕ) (n : ℕ) → smallest top n f ≤ top
unfolding smallest
smallest_top top f zero = omega arith
smallest_top top f (suc n) = let h = smallest_top top f n in omega arith

module _ (place value : ℕ → ℕ) (p : ℕ) (test : ℕ → Bool) where
  -- whether a row is at the place is what a test says
  abbrev pub Told : ℕ → Type 0
  Told n = (i : ℕ) → i < n → eqb (place i) p ≡ test i

  pub tally_sum : (n : ℕ) → Told n → tally ◌+◌ 0 place value n p ≡ sum n (λ i. cond (test i) (value i) 0)
  unfolding tally sum
  tally_sum zero h = refl
  tally_sum (suc n) h = go (test n) refl (tally_sum n (λ i l. h i (omega arith)))
    where
      go : (b : Bool) → test n ≡ b → tally ◌+◌ 0 place value n p ≡ sum n (λ i. cond (test i) (value i) 0)
          → tally ◌+◌ 0 place value (suc n) p ≡ sum (suc n) (λ i. cond (test i) (value i) 0)
      go true e k = rw (h n (omega arith), e, k) refl
      go false e k = rw (h n (omega arith), e, k) (omega arith)

  pub tally_largest : (n : ℕ) → Told n → tally max 0 place value n p ≡ largest n (λ i. cond (test i) (value i) 0)
  unfolding tally largest
  tally_largest zero h = refl
  tally_largest (suc n) h = go (test n) refl (tally_largest n (λ i l. h i (omega arith)))
    where
      go : (b : Bool) → test n ≡ b → tally max 0 place value n p ≡ largest n (λ i. cond (test i) (value i) 0)
          → tally max 0 place value (suc n) p ≡ largest (suc n) (λ i. cond (test i) (value i) 0)
      go true e k = rw (h n (omega arith), e, k) refl
      go false e k = rw (h n (omega arith), e, k) (omega arith)

  module _ (top : ℕ) where
    pub tally_smallest : (n : ℕ) → Told n → tally min top place value n p ≡ smallest top n (λ i. cond (test i) (value i) top)
    unfolding tally smallest
    tally_smallest zero h = refl
    tally_smallest (suc n) h = go (test n) refl (tally_smallest n (λ i l. h i (omega arith)))
      where
        go : (b : Bool) → test n ≡ b → tally min top place value n p ≡ smallest top n (λ i. cond (test i) (value i) top)
            → tally min top place value (suc n) p ≡ smallest top (suc n) (λ i. cond (test i) (value i) top)
        go true e k = rw (h n (omega arith), e, k) refl
        go false e k = rw (h n (omega arith), e, k) (let t = smallest_top top (λ i. cond (test i) (value i) top) n in omega arith)
