-- Ranks answer 33 in one pass. Rows are gathered by the rank that stands with them; whether the ranks are true is then seen rank by
-- rank, and with true ranks the rows of one rank are the rows of one key. Any rows, any keys.
use Prim.Native.Nat.{ℕ, zero, suc, ◌≤◌, ◌<◌}
use mathlib.Core.Path.{◌≡◌, refl, sym, ap, ◌∙◌}
use mathlib.Core.Logic.{◌≢◌, ◌⊎◌, inl, inr}
use mathlib.Core.Bool.{Bool, true, false, ◌&&◌, cond}
use native.Mathlib.Nat.{not-suc-le-zero, eq-or-lt_of_le, le_of_suc-le-suc}
use native.Mathlib.Decide.{dec_lt, ℕ_discrete}
use native.Mathlib.Omega.{arith}
use lib.Dec.{ltb, eqb}
use borrow.Author.Tests.{ltb-true, lt-ltb, le-ltb, eq-eqb, ne_eqb}
use Rattle.plan.specs.Search.{sum, count}
use Rattle.plan.proofs.Tests.{no_count}
use Rattle.plan.proofs.Counting.{count_next, count_cong}
use Rattle.plan.proofs.Searching.{and_true, count_most}
use Rattle.drafts.proofs.Heads.{sum_same}

-- tests that say the same are equal
same_less : (a b c d : ℕ) → (a < b → c < d) → (c < d → a < b) → ltb a b ≡ ltb c d
same_less a b c d f g = go (dec_lt a b)
  where
    go : Dec (a < b) → ltb a b ≡ ltb c d
    go (yes l) = lt-ltb a b l ∙ sym (lt-ltb c d (f l))
    go (no l) = le-ltb a b (omega arith) ∙ sym (le-ltb c d (past (λ k. l (g k))))
      where
        past : (c < d → ⊥) → d ≤ c
        past h = omega arith

same_equal : (a b c d : ℕ) → (a ≡ b → c ≡ d) → (c ≡ d → a ≡ b) → eqb a b ≡ eqb c d
same_equal a b c d f g = go (ℕ_discrete a b)
  where
    go : Dec (a ≡ b) → eqb a b ≡ eqb c d
    go (yes e) = eq-eqb a b e ∙ sym (eq-eqb c d (f e))
    go (no e) = ne_eqb a b e ∙ sym (ne_eqb c d (λ k. e (g k)))

-- a test that passes wherever another does counts no fewer rows, and more where there is a row at which that one does not pass
module _ (f g : ℕ → Bool) where
  one : (x y : Bool) → (x ≡ true → y ≡ true) → cond x 1 0 ≤ cond y 1 0
  one true y k = rw (k refl) (omega arith)
  one false true k = omega arith
  one false false k = omega arith

  more : (x y : Bool) → x ≡ false → y ≡ true → cond x 1 0 < cond y 1 0
  more x y a b = rw (a, b) (omega arith)

  count_least : (n : ℕ) → ((i : ℕ) → i < n → f i ≡ true → g i ≡ true) → count n f ≤ count n g
  count_least zero h = omega (arith, no_count f, no_count g)
  count_least (suc n) h =
      let a = count_least n (λ i l. h i (omega arith)) in let b = one (f n) (g n) (h n (omega arith)) in
      omega (arith, count_next f n, count_next g n)

  count_less : (n : ℕ) → ((i : ℕ) → i < n → f i ≡ true → g i ≡ true) → (r : ℕ) → r < n → f r ≡ false → g r ≡ true → count n f < count n g
  count_less zero h r l a b = absurd (not-suc-le-zero l)
  count_less (suc n) h r l a b =
      go (eq-or-lt_of_le (le_of_suc-le-suc l)) (λ k. count_less n (λ i m. h i (omega arith)) r k a b)
    where
      go : (r ≡ n) ⊎ (r < n) → (r < n → count n f < count n g) → count (suc n) f < count (suc n) g
      go (inl e) k =
          let c = count_least n (λ i m. h i (omega arith)) in let d = more (f n) (g n) (sym (ap f e) ∙ a) (sym (ap g e) ∙ b) in
          omega (arith, count_next f n, count_next g n)
      go (inr d) k = let c = k d in let b' = one (f n) (g n) (h n (omega arith)) in omega (arith, count_next f n, count_next g n)

module _ (n : ℕ) (here : ℕ → Bool) (rank key len : ℕ → ℕ) where
  abbrev pub Row : ℕ → Type 0
  Row p = (p < n) × (here p ≡ true)

  -- how many rows have a lower rank, a lower key; the lengths of a rank's rows, of a key's
  abbrev pub before : ℕ → ℕ
  before r = count n (λ q. here q && ltb (rank q) r)

  abbrev pub lower : ℕ → ℕ
  lower x = count n (λ q. here q && ltb (key q) x)

  abbrev pub of_rank : ℕ → ℕ
  of_rank r = sum n (λ q. cond (here q && eqb (rank q) r) (len q) 0)

  abbrev pub of_key : ℕ → ℕ
  of_key x = sum n (λ q. cond (here q && eqb (key q) x) (len q) 0)

  -- What a pass sees: rows of one rank have one key, keys rise with ranks, and a rank is the number of rows of lower ranks.
  pub record Seen : Type 0 where
    pub one_key : (p q : ℕ) → Row p → Row q → rank p ≡ rank q → key p ≡ key q
    pub rising : (p q : ℕ) → Row p → Row q → rank q < rank p → key q < key p
    pub filled : (p : ℕ) → Row p → before (rank p) ≡ rank p

  abbrev pub TrueRanks : Type 0
  TrueRanks = (p : ℕ) → Row p → rank p ≡ lower (key p)

  module _ (s : Seen) (p : ℕ) (a : Row p) where
    lower_rank : (q : ℕ) → Row q → key q < key p → rank q < rank p
    lower_rank q b l = go (dec_lt (rank q) (rank p)) (dec_lt (rank p) (rank q))
      where
        go : Dec (rank q < rank p) → Dec (rank p < rank q) → rank q < rank p
        go (yes k) e = k
        go (no k) (yes e) = absurd (let r = s.rising q p b a e in omega arith)
        go (no k) (no e) = absurd (let r = s.one_key p q a b (omega arith) in omega arith)

    equal_rank : (q : ℕ) → Row q → key q ≡ key p → rank q ≡ rank p
    equal_rank q b l = go (dec_lt (rank q) (rank p)) (dec_lt (rank p) (rank q))
      where
        go : Dec (rank q < rank p) → Dec (rank p < rank q) → rank q ≡ rank p
        go (yes k) e = absurd (let r = s.rising p q a b k in omega arith)
        go (no k) (yes e) = absurd (let r = s.rising q p b a e in omega arith)
        go (no k) (no e) = omega arith

    -- ranks are true
    pub seen_rank : rank p ≡ lower (key p)
    seen_rank = sym (s.filled p a) ∙ count_cong _ _ n (λ q l. go q l (here q) refl)
      where
        go : (q : ℕ) → q < n → (b : Bool) → here q ≡ b → here q && ltb (rank q) (rank p) ≡ here q && ltb (key q) (key p)
        go q l false e = rw e refl
        go q l true e = rw e (same_less (rank q) (rank p) (key q) (key p) (λ m. s.rising p q a (l, e) m) (λ m. lower_rank q (l, e) m))

    -- and a rank's rows are the key's
    pub seen_total : of_rank (rank p) ≡ of_key (key p)
    seen_total = sum_same _ _ n (λ q l. go q l (here q) refl)
      where
        go : (q : ℕ) → q < n → (b : Bool) → here q ≡ b → cond (here q && eqb (rank q) (rank p)) (len q) 0 ≡ cond (here q && eqb (key q) (key p)) (len q) 0
        go q l false e = rw e refl
        go q l true e = rw (e, same_equal (rank q) (rank p) (key q) (key p) (λ m. s.one_key q p (l, e) a m) (λ m. equal_rank q (l, e) m)) refl

  -- True ranks are seen.
  module _ (t : TrueRanks) where
    both : (q : ℕ) (x : ℕ) → here q ≡ true → key q < x → here q && ltb (key q) x ≡ true
    both q x e l = rw (e, lt-ltb (key q) x l) refl

    climbs : (p q : ℕ) → Row p → Row q → key q < key p → rank q < rank p
    climbs p q a b l =
        let c : lower (key q) < lower (key p) =
        count_less (λ i. here i && ltb (key i) (key q)) (λ i. here i && ltb (key i) (key p)) n
        (λ i m e. let d = and_true (here i) (ltb (key i) (key q)) e in let k : key i < key q = ltb-true _ _ d.1 in both i (key p) d.0 (omega arith))
        q b.0 (rw (b.1, le-ltb (key q) (key q) (omega arith)) refl) (both q (key p) b.1 l) in
        omega (arith, t p a, t q b)

    pub true_seen : Seen
    true_seen =
        record {
          one_key = λ p q a b e. go p q a b e (dec_lt (key p) (key q)) (dec_lt (key q) (key p));
          rising = up;
          filled = λ p a. count_cong _ _ n (λ q l. agree p a q l (here q) refl) ∙ sym (t p a);
        }
      where
        go : (p q : ℕ) → Row p → Row q → rank p ≡ rank q → Dec (key p < key q) → Dec (key q < key p) → key p ≡ key q
        go p q a b e (yes l) d = absurd (let c = climbs q p b a l in omega arith)
        go p q a b e (no l) (yes d) = absurd (let c = climbs p q a b d in omega arith)
        go p q a b e (no l) (no d) = omega arith

        up : (p q : ℕ) → Row p → Row q → rank q < rank p → key q < key p
        up p q a b l = pick (dec_lt (key q) (key p)) (dec_lt (key p) (key q))
          where
            pick : Dec (key q < key p) → Dec (key p < key q) → key q < key p
            pick (yes k) e = k
            pick (no k) (yes e) = absurd (let c = climbs q p b a e in omega arith)
            pick (no k) (no e) = absurd (let z : key p ≡ key q = omega arith in omega (arith, t p a, t q b, ap lower z))

        agree : (p : ℕ) → Row p → (q : ℕ) → q < n → (b : Bool) → here q ≡ b → here q && ltb (rank q) (rank p) ≡ here q && ltb (key q) (key p)
        agree p a q l false e = rw e refl
        agree p a q l true e = rw e (same_less (rank q) (rank p) (key q) (key p) (up p q a (l, e)) (climbs p q a (l, e)))

    -- so a rank is below the number of rows, and a word for each rank suffices
    pub rank_below : (p : ℕ) → Row p → rank p < n
    rank_below p a =
        let c : lower (key p) < count n (λ i. true) =
        count_less (λ i. here i && ltb (key i) (key p)) (λ i. true) n (λ i m e. refl) p a.0 (rw (a.1, le-ltb (key p) (key p) (omega arith)) refl) refl in
        let d = count_most (λ i. true) n in omega (arith, t p a)

  -- ---- rank by rank

  -- Rows of ranks below r have keys no higher than row l's.
  abbrev pub UpTo : ℕ → ℕ → Type 0
  UpTo r l = (q : ℕ) → Row q → rank q < r → key q ≤ key l

  -- A turn: row m is of rank r and its key is above row l's, and all rows of rank r have its key.
  pub turn : (r l m : ℕ) → UpTo r l → key l < key m → ((q : ℕ) → Row q → rank q ≡ r → key q ≡ key m) → UpTo (suc r) m
  turn r l m u h s q a k = go (eq-or-lt_of_le (le_of_suc-le-suc k))
    where
      go : (rank q ≡ r) ⊎ (rank q < r) → key q ≤ key m
      go (inl e) = omega (arith, s q a e)
      go (inr e) = omega (arith, u q a e)

  pub turn_rising : (r l m : ℕ) → UpTo r l → key l < key m → ((q : ℕ) → Row q → rank q ≡ r → key q ≡ key m)
      → (p q : ℕ) → Row p → Row q → rank p ≡ r → rank q < r → key q < key p
  turn_rising r l m u h s p q a b e k = omega (arith, u q b k, s p a e)

  -- a rank without rows
  pub turn_none : (r l : ℕ) → UpTo r l → ((q : ℕ) → Row q → rank q ≢ r) → UpTo (suc r) l
  turn_none r l u h q a k = u q a (lower_still (rank q) (λ e. h q a e) k)
    where
      lower_still : (x : ℕ) → x ≢ r → x < suc r → x < r
      lower_still x d m = omega arith
