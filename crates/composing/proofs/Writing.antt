-- Words written one after another; the words of tables and of their layout, table by table.
use Prim.Native.Nat.{ℕ, zero, suc, ◌+◌, ◌*◌, ◌≤◌, ◌<◌}
use mathlib.Core.Path.{◌≡◌, refl, sym, ap, ◌∙◌, subst}
use mathlib.Core.Bool.{Bool, true, false, ◌&&◌}
use mathlib.Core.List.{List, ◌∷◌, ◌++◌, [], flat_map, append_assoc, append-nil}
use native.Mathlib.Nat.{mul-suc, mul-zero, mul-le-mul_left}
use native.Mathlib.Numerals.{add-one}
use native.Mathlib.Omega.{arith}
use lib.Dec.{leb}
use lib.ListN.{length, get_or, take, drop, length-append, take-append-drop}
use lib.Seq.{sets, take-suc, take-length, sets-eq, length-sets}
use Rattle.plan.specs.declared.Table.{Table}
use Rattle.plan.specs.declared.Table.TheVariants.{Cores}
use Rattle.plan.specs.declared.Shape.{Shape}
use Rattle.plan.specs.Image.{shape, tables, cycle_ticks, precision}
use Rattle.plan.specs.Boundary.{bytes_of}
use Rattle.joins.specs.Joins.{below, table_words, layout_from, image_words, image_of, rows_fit, joined_rows, joined_image}
use Rattle.tables.specs.Tables.{table_count, table_at}
use Rattle.joins.proofs.Reading.{joined_long}
use Rattle.words.proofs.Bytes.{row_length, row_append, sets_append}
use Rattle.pairs.specs.Pairs.{both_row}
use Rattle.pairs.proofs.Rows.{both_wide}
use Rattle.picking.specs.Picking.{Numbers, picked_rows}
use Rattle.composing.specs.Composing.{Wrote}

-- ---- words written

module _ (b : List ℕ) (at : ℕ) where
  pub wrote_none : Wrote b at [] at b
  unfolding flat_map
  wrote_none = record { reached = omega arith; holds = refl }

  pub wrote_word : (w : ℕ) (after : List ℕ) → after ≡ sets b at (bytes_of 4 w) → Wrote b at (w ∷ []) (at + 4) after
  unfolding flat_map
  wrote_word w after e = record { reached = refl; holds = e ∙ ap (sets b at) (sym (append-nil (bytes_of 4 w))) }

  pub wrote_more : {vs ws mid after : List ℕ} {p q : ℕ} → Wrote b at vs p mid → Wrote mid p ws q after → Wrote b at (vs ++ ws) q after
  wrote_more {vs} {ws} {mid} {after} {p} {q} h k =
      let e : p ≡ at + length (flat_map (bytes_of 4) vs) = omega (arith, h.reached, row_length vs) in
      record {
        reached = rw (length-append vs ws) (omega (arith, h.reached, k.reached));
        holds = k.holds ∙ ap (λ (l : List ℕ). sets l p (flat_map (bytes_of 4) ws)) h.holds
            ∙ ap (λ (i : ℕ). sets (sets b at (flat_map (bytes_of 4) vs)) i (flat_map (bytes_of 4) ws)) e
            ∙ sym (sets_append (flat_map (bytes_of 4) vs) (flat_map (bytes_of 4) ws) b at) ∙ ap (sets b at) (sym (row_append vs ws));
      }

  pub wrote_as : {vs ws after : List ℕ} {p : ℕ} → Wrote b at vs p after → vs ≡ ws → Wrote b at ws p after
  wrote_as {vs} {ws} {after} {p} h e = subst (λ (l : List ℕ). Wrote b at l p after) e h

  pub wrote_size : {ws after : List ℕ} {p : ℕ} → Wrote b at ws p after → length after ≡ length b
  wrote_size {ws} h = ap length h.holds ∙ length-sets b at (flat_map (bytes_of 4) ws)

  -- a row, word by word
  pub wrote_turn : (x : List ℕ) (j : ℕ) {mid after : List ℕ} {p : ℕ} → j < length x → Wrote b at (take j x) p mid → after ≡ sets mid p (bytes_of 4 (get_or x j 0))
      → Wrote b at (take (j + 1) x) (p + 4) after
  wrote_turn x j {mid} {after} {p} l h e =
      wrote_as (wrote_more h (record { reached = refl; holds = wrote_one mid p (get_or x j 0) after e })) (sym (ap (λ (n : ℕ). take n x) (add-one j) ∙ take-suc x j 0 l))
    where
      wrote_one : (m : List ℕ) (q w : ℕ) (after : List ℕ) → after ≡ sets m q (bytes_of 4 w) → after ≡ sets m q (flat_map (bytes_of 4) (w ∷ []))
      wrote_one m q w after e = unfold flat_map in (e ∙ ap (sets m q) (sym (append-nil (bytes_of 4 w))))

  pub wrote_row : (x : List ℕ) (j : ℕ) {after : List ℕ} {p : ℕ} → j ≡ length x → Wrote b at (take j x) p after → Wrote b at x p after
  wrote_row x j e h = wrote_as h (ap (λ (n : ℕ). take n x) e ∙ take-length x)

-- all of an image, from byte 0 on
pub wrote_front : (b ws after : List ℕ) (q : ℕ) → Wrote b 0 ws q after → 4 * length ws ≤ length b → after ≡ flat_map (bytes_of 4) ws ++ drop (length (flat_map (bytes_of 4) ws)) b
wrote_front b ws after q h l = h.holds ∙ sets-eq (flat_map (bytes_of 4) ws) b 0 (omega (arith, row_length ws)) ∙ zero_front
  where
    zero_front : take 0 b ++ flat_map (bytes_of 4) ws ++ drop (0 + length (flat_map (bytes_of 4) ws)) b ≡ flat_map (bytes_of 4) ws ++ drop (length (flat_map (bytes_of 4) ws)) b
    zero_front = let e : 0 + length (flat_map (bytes_of 4) ws) ≡ length (flat_map (bytes_of 4) ws) = omega arith in ap (λ (n : ℕ). flat_map (bytes_of 4) ws ++ drop n b) e

-- ---- rows picked, one after another

flat_append : (xs ys : List (List ℕ)) → flat_map (λ x. x) (xs ++ ys) ≡ flat_map (λ x. x) xs ++ flat_map (λ x. x) ys
unfolding flat_map
flat_append [] ys = refl
flat_append (x ∷ xs) ys = ap (λ (l : List ℕ). x ++ l) (flat_append xs ys) ∙ sym (append_assoc x (flat_map (λ x. x) xs) (flat_map (λ x. x) ys))

module _ (a b : List ℕ) (s : ℕ) (t : Table) (picks : List ℕ) where
  pub flat_none : flat_map (λ x. x) (picked_rows a b s t picks 0) ≡ []
  unfolding picked_rows below flat_map
  flat_none = refl

  pub flat_next : (i : ℕ) → flat_map (λ x. x) (picked_rows a b s t picks (i + 1)) ≡ flat_map (λ x. x) (picked_rows a b s t picks i) ++ both_row a b s t (get_or picks i 0)
  flat_next i = ap (λ (n : ℕ). flat_map (λ x. x) (picked_rows a b s t picks n)) (add-one i) ∙ grown ∙ flat_append (picked_rows a b s t picks i) (both_row a b s t (get_or picks i 0) ∷ []) ∙ one
    where
      grown : flat_map (λ x. x) (picked_rows a b s t picks (suc i)) ≡ flat_map (λ x. x) (picked_rows a b s t picks i ++ both_row a b s t (get_or picks i 0) ∷ [])
      grown = unfold picked_rows below in refl

      one : flat_map (λ x. x) (picked_rows a b s t picks i) ++ flat_map (λ x. x) (both_row a b s t (get_or picks i 0) ∷ []) ≡ flat_map (λ x. x) (picked_rows a b s t picks i) ++ both_row a b s t (get_or picks i 0)
      one = unfold flat_map in (ap (λ (l : List ℕ). flat_map (λ x. x) (picked_rows a b s t picks i) ++ l) (append-nil (both_row a b s t (get_or picks i 0))))

  pub flat_long : (n : ℕ) → Numbers a b s t picks n → length (flat_map (λ x. x) (picked_rows a b s t picks n)) ≡ (shape t).width * n
  flat_long zero h = ap length flat_none ∙ sym (mul-zero (shape t).width)
  flat_long (suc n) h =
      let e : n + 1 ≡ suc n = omega arith in
      let k = flat_long n (record { room = omega (arith, h.room); named = λ i l. h.named i (omega arith) }) in
      subst (λ (m : ℕ). length (flat_map (λ x. x) (picked_rows a b s t picks m)) ≡ (shape t).width * m) e
      (ap length (flat_next n) ∙ length-append (flat_map (λ x. x) (picked_rows a b s t picks n)) (both_row a b s t (get_or picks n 0))
      ∙ rw (k, both_wide a b s t (get_or picks n 0) (h.named n (omega arith)), e, mul-suc (shape t).width n) (omega arith))

-- ---- tables

pub table_next : (i : ℕ) → i < table_count → take (i + 1) tables ≡ take i tables ++ table_at i ∷ []
unfolding table_at tables
table_next i l = ap (λ (n : ℕ). take n tables) (add-one i) ∙ take-suc tables i Cores l

pub all_tables : take 10 tables ≡ tables
unfolding tables
all_tables = refl

module _ (rs : Table → List (List ℕ)) where
  words_append : (ts us : List Table) → table_words rs (ts ++ us) ≡ table_words rs ts ++ table_words rs us
  unfolding table_words
  words_append [] us = refl
  words_append (t ∷ ts) us = ap (λ (l : List ℕ). flat_map (λ x. x) (rs t) ++ l) (words_append ts us) ∙ sym (append_assoc (flat_map (λ x. x) (rs t)) (table_words rs ts) (table_words rs us))

  words_one : (t : Table) → table_words rs (t ∷ []) ≡ flat_map (λ x. x) (rs t)
  unfolding table_words
  words_one t = append-nil (flat_map (λ x. x) (rs t))

  -- the words of the tables before the i-th
  unfoldable pub words_to : ℕ → List ℕ
  words_to i = table_words rs (take i tables)

  pub words_first : words_to 0 ≡ []
  unfolding words_to table_words
  words_first = refl

  pub words_next : (i : ℕ) → i < table_count → words_to (i + 1) ≡ words_to i ++ flat_map (λ x. x) (rs (table_at i))
  unfolding words_to
  words_next i l = ap (table_words rs) (table_next i l) ∙ words_append (take i tables) (table_at i ∷ []) ∙ ap (λ (ws : List ℕ). table_words rs (take i tables) ++ ws) (words_one (table_at i))

  pub words_all : words_to 10 ≡ table_words rs tables
  unfolding words_to
  words_all = ap (table_words rs) all_tables

  pub words_within : (i : ℕ) → length (words_to i) ≤ length (table_words rs tables)
  unfolding words_to
  words_within i =
      let e = ap (λ (ts : List Table). length (table_words rs ts)) (sym (take-append-drop i tables)) ∙ ap length (words_append (take i tables) (drop i tables)) ∙ length-append (table_words rs (take i tables)) (table_words rs (drop i tables)) in
      omega arith

  -- ---- row counts in bounds

  pub fit_append : (ts us : List Table) → rows_fit rs (ts ++ us) ≡ rows_fit rs ts && rows_fit rs us
  unfolding rows_fit
  fit_append [] us = refl
  fit_append (t ∷ ts) us = go (leb (length (rs t)) (shape t).most) (fit_append ts us)
    where
      go : (c : Bool) → rows_fit rs (ts ++ us) ≡ rows_fit rs ts && rows_fit rs us → c && rows_fit rs (ts ++ us) ≡ c && rows_fit rs ts && rows_fit rs us
      go true h = h
      go false h = refl

  -- ---- the layout

  -- where a table ends that begins at an offset; the last of several
  unfoldable pub end_from : ℕ → List Table → ℕ
  end_from from [] = from
  end_from from (t ∷ ts) = end_from (from + 4 * ((shape t).width * length (rs t))) ts

  -- offset and count of each table
  unfoldable pub places_from : ℕ → List Table → List ℕ
  places_from from [] = []
  places_from from (t ∷ ts) = from ∷ length (rs t) ∷ places_from (from + 4 * ((shape t).width * length (rs t))) ts

  end_append : (from : ℕ) (ts : List Table) (t : Table) → end_from from (ts ++ t ∷ []) ≡ end_from from ts + 4 * ((shape t).width * length (rs t))
  unfolding end_from
  end_append from [] t = refl
  end_append from (u ∷ ts) t = end_append (from + 4 * ((shape u).width * length (rs u))) ts t

  places_append : (from : ℕ) (ts : List Table) (t : Table) → places_from from (ts ++ t ∷ []) ≡ places_from from ts ++ end_from from ts ∷ length (rs t) ∷ []
  unfolding places_from end_from
  places_append from [] t = refl
  places_append from (u ∷ ts) t = ap (λ (l : List ℕ). from ∷ length (rs u) ∷ l) (places_append (from + 4 * ((shape u).width * length (rs u))) ts t)

  layout_is : (from : ℕ) (ts : List Table) → layout_from rs from ts ≡ places_from from ts ++ end_from from ts ∷ []
  unfolding layout_from places_from end_from
  layout_is from [] = refl
  layout_is from (t ∷ ts) = ap (λ (l : List ℕ). from ∷ length (rs t) ∷ l) (layout_is (from + 4 * ((shape t).width * length (rs t))) ts)

  -- of the tables before the i-th
  unfoldable pub end_to : ℕ → ℕ
  end_to i = end_from 0 (take i tables)

  unfoldable pub places_to : ℕ → List ℕ
  places_to i = places_from 0 (take i tables)

  pub end_first : end_to 0 ≡ 0
  unfolding end_to end_from
  end_first = refl

  pub places_first : places_to 0 ≡ []
  unfolding places_to places_from
  places_first = refl

  pub end_next : (i : ℕ) → i < table_count → end_to (i + 1) ≡ end_to i + 4 * ((shape (table_at i)).width * length (rs (table_at i)))
  unfolding end_to
  end_next i l = ap (end_from 0) (table_next i l) ∙ end_append 0 (take i tables) (table_at i)

  pub places_next : (i : ℕ) → i < table_count → places_to (i + 1) ≡ places_to i ++ end_to i ∷ length (rs (table_at i)) ∷ []
  unfolding places_to end_to
  places_next i l = ap (places_from 0) (table_next i l) ∙ places_append 0 (take i tables) (table_at i)

  pub layout_all : layout_from rs 0 tables ≡ places_to 10 ++ end_to 10 ∷ []
  unfolding places_to end_to
  layout_all = ap (layout_from rs 0) (sym all_tables) ∙ layout_is 0 (take 10 tables)

-- ---- room for what comes next

pub rows_room : (w i n : ℕ) → i < n → w * i + w ≤ w * n
rows_room w i n l = omega (arith, mul-le-mul_left w l, mul-suc w i)

pub numbers_low : (a b : List ℕ) (s : ℕ) (t : Table) (picks : List ℕ) (n i : ℕ) → Numbers a b s t picks n → i ≤ n → Numbers a b s t picks i
numbers_low a b s t picks n i h l = record { room = omega (arith, h.room); named = λ k q. h.named k (omega arith) }

pub table_room : (rs : Table → List (List ℕ)) (t : Table) (i : ℕ) → t ≡ table_at i → i < table_count → length (words_to rs i) + length (flat_map (λ x. x) (rs t)) ≤ length (table_words rs tables)
table_room rs t i e l =
    let q = ap length (words_next rs i l) ∙ length-append (words_to rs i) (flat_map (λ x. x) (rs (table_at i))) in
    omega (arith, words_within rs (i + 1), ap (λ (u : Table). length (flat_map (λ x. x) (rs u))) e)

-- a table more
pub tables_turn : (rs : Table → List (List ℕ)) (b : List ℕ) (t : Table) (i : ℕ) {mid after : List ℕ} {p q : ℕ} → t ≡ table_at i → i < table_count → Wrote b 0 (words_to rs i) p mid
    → Wrote mid p (flat_map (λ x. x) (rs t)) q after → Wrote b 0 (words_to rs (i + 1)) q after
tables_turn rs b t i e l h k =
    wrote_as b 0 (wrote_more b 0 h k) (ap (λ (u : Table). words_to rs i ++ flat_map (λ x. x) (rs u)) e ∙ sym (words_next rs i l))

-- the offset and the count of a table more
pub layout_turn : (rs : Table → List (List ℕ)) (b : List ℕ) (at i from n : ℕ) {m1 m2 m3 : List ℕ} {p : ℕ} → i < table_count → from ≡ end_to rs i → n ≡ length (rs (table_at i))
    → Wrote b at (places_to rs i) p m1 → m2 ≡ sets m1 p (bytes_of 4 from) → m3 ≡ sets m2 (p + 4) (bytes_of 4 n) → Wrote b at (places_to rs (i + 1)) (p + 8) m3
layout_turn rs b at i from n {m1} {m2} {m3} {p} l e d h u v =
    let w = wrote_more b at (wrote_more b at h (wrote_word m1 p from m2 u)) (wrote_word m2 (p + 4) n m3 v) in
    let q : p + 4 + 4 ≡ p + 8 = omega arith in
    wrote_as b at (subst (λ (k : ℕ). Wrote b at (places_to rs i ++ from ∷ [] ++ n ∷ []) k m3) q w)
    (append_assoc (places_to rs i) (from ∷ []) (n ∷ []) ∙ ap (λ (x : ℕ). places_to rs i ++ x ∷ n ∷ []) e ∙ ap (λ (x : ℕ). places_to rs i ++ end_to rs i ∷ x ∷ []) d ∙ sym (places_next rs i l))

pub layout_done : (rs : Table → List (List ℕ)) (b : List ℕ) (at i from : ℕ) {mid after : List ℕ} {p : ℕ} → i ≡ table_count → from ≡ end_to rs i → Wrote b at (places_to rs i) p mid
    → after ≡ sets mid p (bytes_of 4 from) → Wrote b at (layout_from rs 0 tables) (p + 4) after
layout_done rs b at i from {mid} {after} {p} e d h u =
    wrote_as b at (wrote_more b at h (wrote_word mid p from after u))
    (ap (λ (x : ℕ). places_to rs i ++ x ∷ []) d ∙ ap (λ (k : ℕ). places_to rs k ++ end_to rs k ∷ []) e ∙ sym (layout_all rs))

-- the whole image
pub image_wrote : (rs : Table → List (List ℕ)) (h p : ℕ) (b : List ℕ) {m1 m2 m3 after : List ℕ} {at q : ℕ} → Wrote b 0 (table_words rs tables) at m1 → m2 ≡ sets m1 at (bytes_of 4 h)
    → m3 ≡ sets m2 (at + 4) (bytes_of 4 p) → Wrote m3 (at + 8) (layout_from rs 0 tables) q after → length (image_of rs h p) ≤ length b
    → after ≡ image_of rs h p ++ drop (length (image_of rs h p)) b
unfolding image_of image_words
image_wrote rs h p b {m1} {m2} {m3} {after} {at} {q} w u v k l =
    let x = wrote_more b 0 (wrote_more b 0 w (wrote_word m1 at h m2 u)) (wrote_word m2 (at + 4) p m3 v) in
    let e : at + 4 + 4 ≡ at + 8 = omega arith in
    let y = subst (λ (i : ℕ). Wrote b 0 (table_words rs tables ++ h ∷ [] ++ p ∷ []) i m3) e x in
    let z = wrote_more b 0 y k in
    let d : table_words rs tables ++ h ∷ [] ++ p ∷ [] ++ layout_from rs 0 tables ≡ table_words rs tables ++ (h ∷ p ∷ layout_from rs 0 tables) =
    append_assoc (table_words rs tables ++ h ∷ []) (p ∷ []) (layout_from rs 0 tables) ∙ append_assoc (table_words rs tables) (h ∷ []) (p ∷ layout_from rs 0 tables) in
    wrote_front b (table_words rs tables ++ (h ∷ p ∷ layout_from rs 0 tables)) after q (wrote_as b 0 z d) (omega (arith, row_length (table_words rs tables ++ (h ∷ p ∷ layout_from rs 0 tables))))

pub stored_size : (b after : List ℕ) (i w : ℕ) → after ≡ sets b i (bytes_of 4 w) → length after ≡ length b
stored_size b after i w e = ap length e ∙ length-sets b i (bytes_of 4 w)

pub layout_end : (rs : Table → List (List ℕ)) (i from n : ℕ) (t : Table) (sh : Shape) → i < table_count → t ≡ table_at i → sh ≡ shape t → from ≡ end_to rs i → n ≡ length (rs (table_at i))
    → from + 4 * (sh.width * n) ≡ end_to rs (i + 1)
layout_end rs i from n t sh l e d f g =
    ap (λ (k : ℕ). k + 4 * (sh.width * n)) f ∙ ap (λ (v : Shape). end_to rs i + 4 * (v.width * n)) (d ∙ ap shape e)
    ∙ ap (λ (k : ℕ). end_to rs i + 4 * ((shape (table_at i)).width * k)) g ∙ sym (end_next rs i l)

pub joined_room : (a b : List ℕ) (s : ℕ) → length (joined_image a b s) ≡ 92 + 4 * length (table_words (joined_rows a b s) tables)
joined_room a b s = omega (arith, joined_long a b s)

pub joined_wrote : (a b : List ℕ) (s : ℕ) (lent : List ℕ) (h p : ℕ) → h ≡ cycle_ticks a → p ≡ precision a → {m1 m2 m3 after : List ℕ} {at q : ℕ}
    → Wrote lent 0 (table_words (joined_rows a b s) tables) at m1 → m2 ≡ sets m1 at (bytes_of 4 h) → m3 ≡ sets m2 (at + 4) (bytes_of 4 p)
    → Wrote m3 (at + 8) (layout_from (joined_rows a b s) 0 tables) q after → length (joined_image a b s) ≤ length lent → after ≡ joined_image a b s ++ drop (length (joined_image a b s)) lent
unfolding joined_image
joined_wrote a b s lent h p e d {m1} {m2} {m3} {after} w u v k l =
    let f : image_of (joined_rows a b s) h p ≡ image_of (joined_rows a b s) (cycle_ticks a) (precision a) =
    ap (λ (x : ℕ). image_of (joined_rows a b s) x p) e ∙ ap (image_of (joined_rows a b s) (cycle_ticks a)) d in
    subst (λ (im : List ℕ). length im ≤ length lent → after ≡ im ++ drop (length im) lent) f (λ y. image_wrote (joined_rows a b s) h p lent w u v k y) l
