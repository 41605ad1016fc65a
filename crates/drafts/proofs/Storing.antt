-- Words stored in rows: what a word of a row then reads, and what every other word reads.
use Prim.Native.Nat.{ℕ, zero, suc, ◌+◌, ◌-◌, ◌≤◌, ◌<◌}
use mathlib.Core.Path.{◌≡◌, refl, sym, ap, ◌∙◌, subst}
use mathlib.Core.Logic.{◌≢◌, ◌⊎◌, inl, inr}
use mathlib.Core.List.{List, ◌∷◌, []}
use native.Mathlib.Nat.{not-suc-le-zero, eq-or-lt_of_le, le_of_suc-le-suc}
use native.Mathlib.Numerals.{add-one}
use native.Mathlib.Decide.{dec_lt, ℕ_discrete}
use native.Mathlib.Omega.{arith}
use lib.ListN.{length, get_or, set, length-set}
use lib.Seq.{sets, length-sets, get_or-set_same, get_or-set_other, ext_get_or}
use Rattle.drafts.specs.Edits.{store_rows}

-- a word elsewhere
pub sets_other : (vs l : List ℕ) (i j : ℕ) → ((m : ℕ) → m < length vs → j ≢ i + m) → get_or (sets l i vs) j 0 ≡ get_or l j 0
sets_other [] l i j h = refl
sets_other (v ∷ vs) l i j h =
    sets_other vs (set l i v) (suc i) j (λ m b e. h (suc m) (omega arith) (omega arith))
    ∙ get_or-set_other l i j v 0 (λ e. h 0 (omega arith) (omega arith))

-- a word stored
pub sets_at : (vs l : List ℕ) (i m : ℕ) → m < length vs → i + length vs ≤ length l → get_or (sets l i vs) (i + m) 0 ≡ get_or vs m 0
sets_at [] l i m b r = absurd (not-suc-le-zero b)
sets_at (v ∷ vs) l i zero b r =
    let z : i + 0 ≡ i = omega arith in
    rw z (sets_other vs (set l i v) (suc i) i (λ m c e. omega arith) ∙ get_or-set_same l i v 0 (omega arith))
sets_at (v ∷ vs) l i (suc m) b r =
    let z : i + suc m ≡ suc i + m = omega arith in
    rw z (sets_at vs (set l i v) (suc i) m (le_of_suc-le-suc b) (omega (arith, length-set l i v)))

module _ (at : ℕ → ℕ) (row : ℕ → List ℕ) where
  pub length_rows : (n : ℕ) (w : List ℕ) → length (store_rows at row n w) ≡ length w
  unfolding store_rows
  length_rows zero w = refl
  length_rows (suc n) w = length-sets (store_rows at row n w) (at n) (row n) ∙ length_rows n w

  -- a word of no row
  pub rows_other : (n : ℕ) (w : List ℕ) (j : ℕ) → ((r m : ℕ) → r < n → m < length (row r) → j ≢ at r + m)
      → get_or (store_rows at row n w) j 0 ≡ get_or w j 0
  unfolding store_rows
  rows_other zero w j h = refl
  rows_other (suc n) w j h =
      sets_other (row n) (store_rows at row n w) (at n) j (λ m b. h n m (omega arith) b)
      ∙ rows_other n w j (λ r m l b. h r m (omega arith) b)

  -- word m of row r, where rows are apart and lie inside the words
  pub rows_at : (n : ℕ) (w : List ℕ) → ((r q : ℕ) → r < q → at r + length (row r) ≤ at q) → ((r : ℕ) → r < n → at r + length (row r) ≤ length w)
      → (r m : ℕ) → r < n → m < length (row r) → get_or (store_rows at row n w) (at r + m) 0 ≡ get_or (row r) m 0
  unfolding store_rows
  rows_at zero w apart room r m l b = absurd (not-suc-le-zero l)
  rows_at (suc n) w apart room r m l b =
      go (eq-or-lt_of_le (le_of_suc-le-suc l)) (λ k. rows_at n w apart (λ q c. room q (omega arith)) r m k b)
    where
      go : (r ≡ n) ⊎ (r < n) → (r < n → get_or (store_rows at row n w) (at r + m) 0 ≡ get_or (row r) m 0)
          → get_or (sets (store_rows at row n w) (at n) (row n)) (at r + m) 0 ≡ get_or (row r) m 0
      go (inl e) k =
          rw e (sets_at (row n) (store_rows at row n w) (at n) m (subst (λ (x : ℕ). m < length (row x)) e b) (omega (arith, room n (omega arith), length_rows n w)))
      go (inr d) k =
          sets_other (row n) (store_rows at row n w) (at n) (at r + m) (λ i c e. omega (arith, apart r n d)) ∙ k d

  -- a word is one of a row's, or of none
  pub record InRow (n j : ℕ) : Type 0 where
    pub r : ℕ
    pub m : ℕ
    pub below : r < n
    pub inside : m < length (row r)
    pub word : j ≡ at r + m

  abbrev pub InNone : ℕ → ℕ → Type 0
  InNone n j = (r m : ℕ) → r < n → m < length (row r) → j ≢ at r + m

  pub in_rows : (n j : ℕ) → InRow n j ⊎ InNone n j
  in_rows zero j = inr (λ r m l b. absurd (not-suc-le-zero l))
  in_rows (suc n) j = go (in_rows n j) (dec_lt j (at n)) (dec_lt j (at n + length (row n)))
    where
      last : InNone n j → ((m : ℕ) → m < length (row n) → j ≢ at n + m) → InNone (suc n) j
      last h k r m l b = pick (eq-or-lt_of_le (le_of_suc-le-suc l))
        where
          pick : (r ≡ n) ⊎ (r < n) → j ≢ at r + m
          pick (inl e) = rw e (k m (subst (λ (x : ℕ). m < length (row x)) e b))
          pick (inr d) = h r m d b

      go : InRow n j ⊎ InNone n j → Dec (j < at n) → Dec (j < at n + length (row n)) → InRow (suc n) j ⊎ InNone (suc n) j
      go (inl i) a c = inl (record { r = i.r; m = i.m; below = omega (arith, i.below); inside = i.inside; word = i.word })
      go (inr h) (yes a) c = inr (last h (λ m b e. omega arith))
      go (inr h) (no a) (yes c) = inl (record { r = n; m = j - at n; below = omega arith; inside = omega arith; word = omega arith })
      go (inr h) (no a) (no c) = inr (last h (λ m b e. omega arith))

  -- words that hold every row, and elsewhere what was there, are the rows stored
  pub rows_ext : (n : ℕ) (w u : List ℕ) → length u ≡ length w → ((r q : ℕ) → r < q → at r + length (row r) ≤ at q)
      → ((r : ℕ) → r < n → at r + length (row r) ≤ length w)
      → ((r m : ℕ) → r < n → m < length (row r) → get_or u (at r + m) 0 ≡ get_or (row r) m 0) → ((j : ℕ) → InNone n j → get_or u j 0 ≡ get_or w j 0)
      → u ≡ store_rows at row n w
  rows_ext n w u e apart room held others = ext_get_or 0 u (store_rows at row n w) (e ∙ sym (length_rows n w)) (λ j b. go j (in_rows n j))
    where
      go : (j : ℕ) → InRow n j ⊎ InNone n j → get_or u j 0 ≡ get_or (store_rows at row n w) j 0
      go j (inl i) =
          ap (λ (x : ℕ). get_or u x 0) i.word ∙ held i.r i.m i.below i.inside
          ∙ sym (rows_at n w apart room i.r i.m i.below i.inside) ∙ ap (λ (x : ℕ). get_or (store_rows at row n w) x 0) (sym i.word)
      go j (inr h) = others j h ∙ sym (rows_other n w j h)

  -- a turn of a loop that stores row after row, in words v
  pub rows_turn : (n : ℕ) (w v u : List ℕ) → v ≡ store_rows at row n w → u ≡ sets v (at n) (row n) → u ≡ store_rows at row (n + 1) w
  unfolding store_rows
  rows_turn n w v u e d = d ∙ (rw (e, add-one) refl)

-- rows that are the same
pub rows_cong : (at : ℕ → ℕ) (row other : ℕ → List ℕ) (n : ℕ) (w : List ℕ) → ((r : ℕ) → r < n → row r ≡ other r) → store_rows at row n w ≡ store_rows at other n w
unfolding store_rows
rows_cong at row other zero w h = refl
rows_cong at row other (suc n) w h = rw (rows_cong at row other n w (λ r l. h r (omega arith)), h n (omega arith)) refl

-- ---- words that agree below n, stored alike

abbrev pub Agreeing : ℕ → List ℕ → List ℕ → Type 0
Agreeing n w v = (j : ℕ) → j < n → get_or v j 0 ≡ get_or w j 0

pub set_agrees : (n : ℕ) (w v : List ℕ) → n ≤ length w → n ≤ length v → Agreeing n w v → (i x : ℕ) → i < n → Agreeing n (set w i x) (set v i x)
set_agrees n w v a b h i x l j m = go (ℕ_discrete j i)
  where
    go : Dec (j ≡ i) → get_or (set v i x) j 0 ≡ get_or (set w i x) j 0
    go (yes e) = rw e (get_or-set_same v i x 0 (omega arith) ∙ sym (get_or-set_same w i x 0 (omega arith)))
    go (no e) = get_or-set_other v i j x 0 e ∙ h j m ∙ sym (get_or-set_other w i j x 0 e)

pub sets_agree : (n : ℕ) (vs w v : List ℕ) → n ≤ length w → n ≤ length v → Agreeing n w v → (i : ℕ) → i + length vs ≤ n → Agreeing n (sets w i vs) (sets v i vs)
sets_agree n [] w v a b h i l = h
sets_agree n (x ∷ vs) w v a b h i l =
    sets_agree n vs (set w i x) (set v i x) (rw (length-set w i x) a) (rw (length-set v i x) b) (set_agrees n w v a b h i x (omega arith)) (suc i) (omega arith)

pub rows_agree : (n : ℕ) (at : ℕ → ℕ) (row : ℕ → List ℕ) (k : ℕ) (w v : List ℕ) → n ≤ length w → n ≤ length v → Agreeing n w v
    → ((r : ℕ) → r < k → at r + length (row r) ≤ n) → Agreeing n (store_rows at row k w) (store_rows at row k v)
unfolding store_rows
rows_agree n at row zero w v a b h l = h
rows_agree n at row (suc k) w v a b h l =
    sets_agree n (row k) (store_rows at row k w) (store_rows at row k v) (rw (length_rows at row k w) a) (rw (length_rows at row k v) b)
    (rows_agree n at row k w v a b h (λ r m. l r (omega arith))) (at k) (l k (omega arith))
