-- An image by its rows: reading it gives the rows back.
use Prim.Native.Nat.{ℕ, zero, suc, ◌+◌, ◌-◌, ◌*◌, ◌^◌, ◌≤◌, ◌<◌}
use mathlib.Core.Path.{◌≡◌, refl, sym, ap, ◌∙◌, subst}
use mathlib.Core.List.{List, ◌∷◌, ◌++◌, [], flat_map}
use native.Mathlib.Nat.{not-suc-le-zero, le_of_suc-le-suc, mul-suc, mul-zero, mul-le-mul_left}
use native.Mathlib.Omega.{arith}
use native.Mathlib.Decide.{dec_lt}
use lib.ListN.{length, get_or, length-append, get_or-append}
use lib.Seq.{get_or-append-add}
use Rattle.plan.specs.declared.Table.{Table}
use Rattle.plan.specs.declared.Table.TheVariants.{Cores, Vcpus, Tasks, Windows, Pieces, Links, Streams, Frames, Buffers, Chains}
use Rattle.plan.specs.Image.{word_at, tables, shape, trailer_bytes, trailer_at, cycle_ticks, precision, offset, rows, field}
use Rattle.plan.specs.Boundary.{bytes_of}
use Rattle.joins.specs.Joins.{table_words, layout_from, image_words, image_of}

-- ---- words read back from their bytes

abbrev pub Small : List ℕ → Type 0
Small ws = (i : ℕ) → get_or ws i 0 < 2 ^ 32

pub small_append : (xs ys : List ℕ) → Small xs → Small ys → Small (xs ++ ys)
small_append xs ys h k i = go (dec_lt i (length xs))
  where
    go : Dec (i < length xs) → get_or (xs ++ ys) i 0 < 2 ^ 32
    go (yes l) = rw (get_or-append xs ys 0 i l) (h i)
    go (no l) =
        let e : i ≡ length xs + (i - length xs) = omega arith in
        rw (e, get_or-append-add xs ys (i - length xs) 0) (k (i - length xs))

pub small_cons : (x : ℕ) (xs : List ℕ) → x < 2 ^ 32 → Small xs → Small (x ∷ xs)
small_cons x xs h k zero = h
small_cons x xs h k (suc i) = k i

pub small_none : Small []
small_none i = omega arith

pub word_small : (b : List ℕ) → ((i : ℕ) → get_or b i 0 < 256) → (i : ℕ) → word_at b i < 2 ^ 32
unfolding word_at
word_small b h i = omega (arith, h i, h (i + 1), h (i + 2), h (i + 3))

abbrev pub stored : List ℕ → List ℕ
stored ws = flat_map (bytes_of 4) ws

pub stored_cons : (w : ℕ) (ws : List ℕ) → stored (w ∷ ws) ≡ bytes_of 4 w ++ stored ws
unfolding flat_map
stored_cons w ws = refl

four : (w : ℕ) → length (bytes_of 4 w) ≡ 4
unfolding bytes_of
four w = refl

pub stored_long : (ws : List ℕ) → length (stored ws) ≡ 4 * length ws
unfolding flat_map
stored_long [] = refl
stored_long (w ∷ ws) = rw (length-append (bytes_of 4 w) (stored ws)) (omega (arith, four w, stored_long ws))

first_word : (w : ℕ) (bs : List ℕ) → w < 2 ^ 32 → word_at (bytes_of 4 w ++ bs) 0 ≡ w
unfolding word_at bytes_of
first_word w bs l = omega arith

later_word : (w : ℕ) (bs : List ℕ) (i : ℕ) → word_at (bytes_of 4 w ++ bs) (4 + i) ≡ word_at bs i
unfolding word_at
later_word w bs i =
    let f : 4 + i + 1 ≡ 4 + (i + 1) = omega arith in
    let g : 4 + i + 2 ≡ 4 + (i + 2) = omega arith in
    let h : 4 + i + 3 ≡ 4 + (i + 3) = omega arith in
    rw (f, g, h, from i, from (i + 1), from (i + 2), from (i + 3)) refl
  where
    from : (k : ℕ) → get_or (bytes_of 4 w ++ bs) (4 + k) 0 ≡ get_or bs k 0
    from k = ap (λ (n : ℕ). get_or (bytes_of 4 w ++ bs) (n + k) 0) (sym (four w)) ∙ get_or-append-add (bytes_of 4 w) bs k 0

nothing : (i : ℕ) → word_at [] i ≡ 0
unfolding word_at
nothing i = refl

pub stored_word : (ws : List ℕ) → Small ws → (i : ℕ) → word_at (stored ws) (4 * i) ≡ get_or ws i 0
stored_word [] s i = unfold flat_map in (nothing (4 * i))
stored_word (w ∷ ws) s zero = rw (stored_cons w ws) (first_word w (stored ws) (s 0))
stored_word (w ∷ ws) s (suc i) =
    let e : 4 * suc i ≡ 4 + 4 * i = omega arith in
    rw (stored_cons w ws, e) (later_word w (stored ws) (4 * i) ∙ stored_word ws (λ k. s (suc k)) i)

-- ---- rows of w words, one after another

abbrev pub Wide : ℕ → List (List ℕ) → Type 0
Wide w xs = (r : ℕ) → r < length xs → length (get_or xs r []) ≡ w

abbrev pub flat : List (List ℕ) → List ℕ
flat xs = flat_map (λ x. x) xs

module _ (w : ℕ) where
  pub flat_long : (xs : List (List ℕ)) → Wide w xs → length (flat xs) ≡ w * length xs
  unfolding flat_map
  flat_long [] h = sym (mul-zero w)
  flat_long (x ∷ xs) h =
      rw (length-append x (flat xs), flat_long xs (λ r l. h (suc r) (omega arith)), mul-suc) (omega (arith, h 0 (omega arith)))

  pub flat_at : (xs : List (List ℕ)) → Wide w xs → (r j : ℕ) → r < length xs → j < w → get_or (flat xs) (w * r + j) 0 ≡ get_or (get_or xs r []) j 0
  unfolding flat_map
  flat_at [] h r j l k = absurd (not-suc-le-zero l)
  flat_at (x ∷ xs) h zero j l k =
      let e : w * 0 + j ≡ j = omega (arith, mul-zero w) in
      rw e (get_or-append x (flat xs) 0 j (omega (arith, h 0 (omega arith))))
  flat_at (x ∷ xs) h (suc r) j l k =
      let e : w * suc r + j ≡ length x + (w * r + j) = omega (arith, mul-suc w r, h 0 (omega arith)) in
      rw e (get_or-append-add x (flat xs) (w * r + j) 0 ∙ flat_at xs (λ q y. h (suc q) (omega arith)) r j (le_of_suc-le-suc l) k)

-- ---- tables

module _ (rs : Table → List (List ℕ)) where
  -- the words of the first k tables
  pub before : List Table → ℕ → ℕ
  before [] k = 0
  before (t ∷ ts) zero = 0
  before (t ∷ ts) (suc k) = (shape t).width * length (rs t) + before ts k

  pub count_at : (from : ℕ) (ts : List Table) (k : ℕ) → k < length ts → get_or (layout_from rs from ts) (2 * k + 1) 0 ≡ length (rs (get_or ts k Cores))
  unfolding layout_from
  count_at from [] k l = absurd (not-suc-le-zero l)
  count_at from (t ∷ ts) zero l = refl
  count_at from (t ∷ ts) (suc k) l =
      let e : 2 * suc k + 1 ≡ suc (suc (2 * k + 1)) = omega arith in
      rw e (count_at (from + 4 * ((shape t).width * length (rs t))) ts k (le_of_suc-le-suc l))

  pub offset_at : (from : ℕ) (ts : List Table) (k : ℕ) → k ≤ length ts → get_or (layout_from rs from ts) (2 * k) 0 ≡ from + 4 * before ts k
  unfolding layout_from before
  offset_at from [] zero l = omega arith
  offset_at from [] (suc k) l = absurd (not-suc-le-zero l)
  offset_at from (t ∷ ts) zero l = omega arith
  offset_at from (t ∷ ts) (suc k) l =
      let e : 2 * suc k ≡ suc (suc (2 * k)) = omega arith in
      rw e (offset_at (from + 4 * ((shape t).width * length (rs t))) ts k (le_of_suc-le-suc l) ∙ omega arith)

  pub layout_long : (from : ℕ) (ts : List Table) → length (layout_from rs from ts) ≡ 2 * length ts + 1
  unfolding layout_from
  layout_long from [] = refl
  layout_long from (t ∷ ts) = omega (arith, layout_long (from + 4 * ((shape t).width * length (rs t))) ts)

  module _ (wide : (t : Table) → Wide (shape t).width (rs t)) where
    pub word_in : (ts : List Table) (k i : ℕ) → k < length ts → i < (shape (get_or ts k Cores)).width * length (rs (get_or ts k Cores))
        → get_or (table_words rs ts) (before ts k + i) 0 ≡ get_or (flat (rs (get_or ts k Cores))) i 0
    unfolding table_words before
    word_in [] k i l h = absurd (not-suc-le-zero l)
    word_in (t ∷ ts) zero i l h =
        let e : 0 + i ≡ i = omega arith in
        rw e (get_or-append (flat (rs t)) (table_words rs ts) 0 i (omega (arith, flat_long (shape t).width (rs t) (wide t))))
    word_in (t ∷ ts) (suc k) i l h =
        let e : (shape t).width * length (rs t) + before ts k + i ≡ length (flat (rs t)) + (before ts k + i) = omega (arith, flat_long (shape t).width (rs t) (wide t)) in
        rw e (get_or-append-add (flat (rs t)) (table_words rs ts) (before ts k + i) 0 ∙ word_in ts k i (le_of_suc-le-suc l) h)

    pub words_fit : (ts : List Table) (k i : ℕ) → k < length ts → i < (shape (get_or ts k Cores)).width * length (rs (get_or ts k Cores))
        → before ts k + i < length (table_words rs ts)
    unfolding table_words before
    words_fit [] k i l h = absurd (not-suc-le-zero l)
    words_fit (t ∷ ts) zero i l h = rw (length-append (flat (rs t)) (table_words rs ts)) (omega (arith, flat_long (shape t).width (rs t) (wide t)))
    words_fit (t ∷ ts) (suc k) i l h =
        rw (length-append (flat (rs t)) (table_words rs ts)) (omega (arith, flat_long (shape t).width (rs t) (wide t), words_fit ts k i (le_of_suc-le-suc l) h))

-- a table's place among the tables is its number less 1
place : Table → ℕ
place t = (shape t).number - 1

place_of : (t : Table) → (place t < length tables) × (get_or tables (place t) Cores ≡ t) × ((shape t).number ≡ place t + 1)
unfolding place shape tables
place_of Cores = (omega arith, refl, refl)
place_of Vcpus = (omega arith, refl, refl)
place_of Tasks = (omega arith, refl, refl)
place_of Windows = (omega arith, refl, refl)
place_of Pieces = (omega arith, refl, refl)
place_of Links = (omega arith, refl, refl)
place_of Streams = (omega arith, refl, refl)
place_of Frames = (omega arith, refl, refl)
place_of Buffers = (omega arith, refl, refl)
place_of Chains = (omega arith, refl, refl)

many_tables : length tables ≡ 10
unfolding tables
many_tables = refl

pub trailer_is : trailer_bytes ≡ 92
unfolding trailer_bytes tables
trailer_is = refl

module _ (rs : Table → List (List ℕ)) (h p : ℕ) where
  abbrev T : ℕ
  T = length (table_words rs tables)

  abbrev tail : List ℕ
  tail = h ∷ p ∷ layout_from rs 0 tables

  pub words_long : length (image_words rs h p) ≡ T + 23
  unfolding image_words
  words_long = rw (length-append (table_words rs tables) tail) (omega (arith, layout_long rs 0 tables, many_tables))

  pub image_long : length (image_of rs h p) ≡ 4 * (T + 23)
  unfolding image_of
  image_long = stored_long (image_words rs h p) ∙ ap (λ (n : ℕ). 4 * n) words_long

  module _ (wide : (t : Table) → Wide (shape t).width (rs t)) (small : Small (image_words rs h p)) where
    abbrev img : List ℕ
    img = image_of rs h p

    trailer_at_holds : trailer_at img ≡ 4 * T
    unfolding trailer_at
    trailer_at_holds = omega (arith, image_long, trailer_is)

    word_at_holds : (i : ℕ) → word_at img (4 * i) ≡ get_or (image_words rs h p) i 0
    unfolding image_of
    word_at_holds i = stored_word (image_words rs h p) small i

    tail_at : (i : ℕ) → get_or (image_words rs h p) (T + i) 0 ≡ get_or tail i 0
    unfolding image_words
    tail_at i = get_or-append-add (table_words rs tables) tail i 0

    -- word i of the trailer
    trailer_word : (i : ℕ) → word_at img (trailer_at img + 4 * i) ≡ get_or tail i 0
    trailer_word i =
        let e : trailer_at img + 4 * i ≡ 4 * (T + i) = omega (arith, trailer_at_holds) in
        ap (word_at img) e ∙ word_at_holds (T + i) ∙ tail_at i

    pub cycle_is : cycle_ticks img ≡ h
    unfolding cycle_ticks
    cycle_is = let e : trailer_at img ≡ trailer_at img + 4 * 0 = omega arith in ap (word_at img) e ∙ trailer_word 0

    pub precision_is : precision img ≡ p
    unfolding precision
    precision_is = trailer_word 1

    pub rows_are : (t : Table) → rows img t ≡ length (rs t)
    unfolding rows
    rows_are t =
        let q = place_of t in
        let e : trailer_at img + 8 * (shape t).number + 4 ≡ trailer_at img + 4 * suc (suc (2 * place t + 1)) = omega (arith, q.2) in
        ap (word_at img) e ∙ trailer_word (suc (suc (2 * place t + 1))) ∙ count_at rs 0 tables (place t) q.0 ∙ ap (λ (u : Table). length (rs u)) q.1

    offset_is : (t : Table) → offset img t ≡ 4 * before rs tables (place t)
    unfolding offset
    offset_is t =
        let q = place_of t in
        let e : trailer_at img + 8 * (shape t).number ≡ trailer_at img + 4 * suc (suc (2 * place t)) = omega (arith, q.2) in
        ap (word_at img) e ∙ trailer_word (suc (suc (2 * place t))) ∙ offset_at rs 0 tables (place t) (omega (arith, q.0)) ∙ omega arith

    pub field_is : (t : Table) (r j : ℕ) → r < length (rs t) → j < (shape t).width → field img t r j ≡ get_or (get_or (rs t) r []) j 0
    unfolding field image_words
    field_is t r j l k =
        let q = place_of t in
        let w = (shape t).width in
        let i = w * r + j in
        let b : i < w * length (rs t) = omega (arith, mul-le-mul_left w l, mul-suc w r) in
        let b' : i < (shape (get_or tables (place t) Cores)).width * length (rs (get_or tables (place t) Cores)) =
        subst (λ (u : Table). i < (shape u).width * length (rs u)) (sym q.1) b in
        let e : offset img t + 4 * i ≡ 4 * (before rs tables (place t) + i) = omega (arith, offset_is t) in
        ap (word_at img) e ∙ word_at_holds (before rs tables (place t) + i)
        ∙ get_or-append (table_words rs tables) tail 0 (before rs tables (place t) + i) (words_fit rs wide tables (place t) i q.0 b')
        ∙ word_in rs wide tables (place t) i q.0 b'
        ∙ ap (λ (u : Table). get_or (flat (rs u)) i 0) q.1
        ∙ flat_at w (rs t) (wide t) r j l k
