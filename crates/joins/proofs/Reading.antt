-- The joined image read: its words fit 32 bits, and it has the joined rows, the first's cycle and precision.
use Prim.Native.Nat.{ℕ, zero, suc, ◌+◌, ◌-◌, ◌*◌, ◌^◌, ◌≤◌, ◌<◌}
use mathlib.Core.Path.{◌≡◌, refl, sym, ap, ◌∙◌}
use mathlib.Core.Bool.{Bool, true, false, cond, true≢false}
use mathlib.Core.List.{List, ◌∷◌, [], flat_map}
use native.Mathlib.Nat.{one-mul, mul-le-mul_left, mul-le-mul_right}
use native.Mathlib.Omega.{arith}
use lib.Dec.{ltb, leb}
use lib.ListN.{length, get_or, drop, length-append}
use borrow.Author.Tests.{leb-true, ltb-true, eqb-true}
use Rattle.plan.specs.declared.Table.{Table}
use Rattle.plan.specs.declared.Table.TheVariants.{Cores, Vcpus, Tasks, Windows, Pieces, Links, Streams, Frames, Buffers, Chains}
use Rattle.std.specs.Prelude.{Option}
use Rattle.std.specs.Prelude.{Some, None}
use Rattle.plan.specs.Image.{tables, shape, trailer_bytes, most_bytes, cycle_ticks, precision, rows, field, piece, stream, frame, buffer, chain, image}
use Rattle.plan.specs.Questions.{answer_of, accepted}
use Rattle.plan.proofs.Searching.{and_true, count_most, first_at}
use Rattle.plan.proofs.Facts.{facts, chain_facts}
use Rattle.plan.proofs.Sounds.{accepted_sound}
use Rattle.joins.specs.Joins
use Rattle.joins.specs.Joins.{below, row_by, rows_by, rows_of, same_words, lowest, is_new, new_rows, row_at, table_words, layout_from, image_words, rows_fit, names_task, names_stream}
use Rattle.joins.specs.Claim.{AreBytes}
use Rattle.joins.proofs.Lists.{row_long, rows_long}
use Rattle.joins.proofs.Every.{All, all_at, all_append, all_below, all_drop, all_new, all_sorted, all_of}
use Rattle.joins.proofs.Laying.{Small, small_append, small_cons, small_none, word_small, Wide, cycle_is, precision_is, rows_are, field_is, image_long, flat_long, trailer_is}

-- ---- words of 32 bits

small_flat : (xs : List (List ℕ)) → All Small xs → Small (flat_map (λ x. x) xs)
unfolding flat_map
small_flat [] h = small_none
small_flat (x ∷ xs) h = small_append x (flat_map (λ x. x) xs) h.0 (small_flat xs h.1)

small_below : (f : ℕ → ℕ) (n : ℕ) → ((i : ℕ) → i < n → f i < 2 ^ 32) → Small (below n f)
unfolding below
small_below f zero h = small_none
small_below f (suc n) h = small_append (below n f) (f n ∷ []) (small_below f n (λ i l. h i (omega arith))) (small_cons (f n) [] (h n (omega arith)) small_none)

field_small : (b : List ℕ) → AreBytes b → (t : Table) (r j : ℕ) → field b t r j < 2 ^ 32
unfolding field
field_small b h t r j = word_small b h _

-- the words of a layout are at most the bytes up to its end
layout_low : (rs : Table → List (List ℕ)) (from : ℕ) (ts : List Table) → ((t : Table) → 1 ≤ (shape t).width) → rows_fit rs ts ≡ true
    → (i : ℕ) → get_or (layout_from rs from ts) i 0 ≤ from + most_bytes ts
unfolding layout_from rows_fit most_bytes
layout_low rs from [] w e zero = omega arith
layout_low rs from [] w e (suc i) = omega arith
layout_low rs from (t ∷ ts) w e i = go i (layout_low rs (from + 4 * ((shape t).width * length (rs t))) ts w a.1)
  where
    a : (leb (length (rs t)) (shape t).most ≡ true) × (rows_fit rs ts ≡ true)
    a = and_true (leb (length (rs t)) (shape t).most) (rows_fit rs ts) e

    few : (shape t).width * length (rs t) ≤ (shape t).width * (shape t).most
    few = mul-le-mul_left (shape t).width (leb-true _ _ a.0)

    many : length (rs t) ≤ (shape t).width * (shape t).most
    many = let z = leb-true (length (rs t)) (shape t).most a.0 in omega (arith, mul-le-mul_right (shape t).most (w t), one-mul (shape t).most)

    go : (i : ℕ) → ((i : ℕ) → get_or (layout_from rs (from + 4 * ((shape t).width * length (rs t))) ts) i 0 ≤ from + 4 * ((shape t).width * length (rs t)) + most_bytes ts)
        → get_or (from ∷ length (rs t) ∷ layout_from rs (from + 4 * ((shape t).width * length (rs t))) ts) i 0 ≤ from + (4 * ((shape t).width * (shape t).most) + most_bytes ts)
    go zero k = omega arith
    go (suc zero) k = omega (arith, many)
    go (suc (suc i)) k = omega (arith, few, k i)

pub some_width : (t : Table) → 1 ≤ (shape t).width
unfolding shape
some_width Cores = omega arith
some_width Vcpus = omega arith
some_width Tasks = omega arith
some_width Windows = omega arith
some_width Pieces = omega arith
some_width Links = omega arith
some_width Streams = omega arith
some_width Frames = omega arith
some_width Buffers = omega arith
some_width Chains = omega arith

-- the largest image
pub most_is : most_bytes tables ≡ 65116
unfolding image
most_is = refl

-- an image whose row counts are in bounds is at most as long
words_most : (rs : Table → List (List ℕ)) → ((t : Table) → Wide (shape t).width (rs t)) → (ts : List Table) → rows_fit rs ts ≡ true
    → 4 * length (table_words rs ts) + trailer_bytes ≤ most_bytes ts
unfolding table_words rows_fit most_bytes
words_most rs w [] e = omega arith
words_most rs w (t ∷ ts) e =
    let a = and_true (leb (length (rs t)) (shape t).most) (rows_fit rs ts) e in
    rw (length-append (flat_map (λ x. x) (rs t)) (table_words rs ts), flat_long (shape t).width (rs t) (w t))
    (omega (arith, mul-le-mul_left (shape t).width (leb-true (length (rs t)) (shape t).most a.0), words_most rs w ts a.1))

-- ---- rows of words

-- a row of a table's width, of words
pub record Good (t : Table) (x : List ℕ) : Type 0 where
  pub wide : length x ≡ (shape t).width
  pub small : Small x

row_good : (b : List ℕ) (t : Table) (f : ℕ → ℕ → ℕ) (r : ℕ) → ((j : ℕ) → j < (shape t).width → f j (field b t r j) < 2 ^ 32) → Good t (row_by b t f r)
unfolding row_by
row_good b t f r h = record { wide = row_long b t f r; small = small_below (λ j. f j (field b t r j)) (shape t).width h }

pub rows_good : (b : List ℕ) → AreBytes b → (t : Table) → All (Good t) (rows_of b t)
unfolding rows_of rows_by
rows_good b h t = all_below (Good t) (row_by b t (λ j w. w)) (rows b t) (λ r _. row_good b t (λ j w. w) r (λ j _. field_small b h t r j))

-- a row of the second is at the lowest equal row or one of those appended
row_at_low : (rs xs : List (List ℕ)) (r : ℕ) → row_at rs xs r ≤ length rs + r
unfolding row_at
row_at_low rs xs r = go (lowest rs (get_or xs r [])) refl
  where
    go : (d : Option ℕ) → lowest rs (get_or xs r []) ≡ d → row_at rs xs r ≤ length rs + r
    go (Some i) e = let h : i < length rs = unfold lowest in (first_at (λ i. same_words (get_or rs i []) (get_or xs r [])) (length rs) i e).0 in rw (e, row_at) (omega arith)
    go None e = rw (e, row_at) (omega (arith, count_most (λ q. is_new rs (get_or xs q [])) r))

-- ---- what the rows of an accepted plan name

module _ (b : List ℕ) (eb : answer_of b ≡ accepted) where
  pub few : (t : Table) → rows b t ≤ (shape t).most
  few t = (accepted_sound b eb).inside.counts t

  pub task_named : (t : Table) (r j : ℕ) → r < rows b t → names_task t j ≡ true → j < (shape t).width → field b t r j < rows b Tasks
  unfolding names_task piece stream buffer chain shape
  task_named Cores r j l e k = absurd (true≢false (sym e))
  task_named Vcpus r j l e k = absurd (true≢false (sym e))
  task_named Tasks r j l e k = absurd (true≢false (sym e))
  task_named Windows r j l e k = absurd (true≢false (sym e))
  task_named Pieces r zero l e k = (facts b eb).names Pieces r l
  task_named Pieces r (suc j) l e k = absurd (omega (arith, eqb-true (suc j) 0 e))
  task_named Links r j l e k = absurd (true≢false (sym e))
  task_named Streams r zero l e k = ((facts b eb).names Streams r l).0
  task_named Streams r (suc zero) l e k = ((facts b eb).names Streams r l).1
  task_named Streams r (suc (suc j)) l e k = absurd (omega (arith, ltb-true (suc (suc j)) 2 e))
  task_named Frames r j l e k = absurd (true≢false (sym e))
  task_named Buffers r zero l e k = absurd (true≢false (sym e))
  task_named Buffers r (suc zero) l e k = ((facts b eb).names Buffers r l).0
  task_named Buffers r (suc (suc zero)) l e k = ((facts b eb).names Buffers r l).1
  task_named Buffers r (suc (suc (suc j))) l e k = absurd (omega arith)
  task_named Chains r zero l e k = ((chain_facts b eb).chain_tasks r l).0
  task_named Chains r (suc zero) l e k = ((chain_facts b eb).chain_tasks r l).1
  task_named Chains r (suc (suc j)) l e k = absurd (omega (arith, ltb-true (suc (suc j)) 2 e))

  pub stream_named : (t : Table) (r j : ℕ) → r < rows b t → names_stream t j ≡ true → field b t r j < rows b Streams
  unfolding names_stream frame
  stream_named Cores r j l e = absurd (true≢false (sym e))
  stream_named Vcpus r j l e = absurd (true≢false (sym e))
  stream_named Tasks r j l e = absurd (true≢false (sym e))
  stream_named Windows r j l e = absurd (true≢false (sym e))
  stream_named Pieces r j l e = absurd (true≢false (sym e))
  stream_named Links r j l e = absurd (true≢false (sym e))
  stream_named Streams r j l e = absurd (true≢false (sym e))
  stream_named Frames r zero l e = ((facts b eb).names Frames r l).0
  stream_named Frames r (suc j) l e = absurd (omega (arith, eqb-true (suc j) 0 e))
  stream_named Buffers r j l e = absurd (true≢false (sym e))
  stream_named Chains r j l e = absurd (true≢false (sym e))

-- ---- the joined rows

-- the image's length; that of its rows in words
pub joined_long : (a b : List ℕ) (s : ℕ) → length (Joins.joined_image a b s) ≡ 4 * (length (table_words (Joins.joined_rows a b s) tables) + 23)
unfolding Joins.joined_image
joined_long a b s = image_long (Joins.joined_rows a b s) (cycle_ticks a) (precision a)

module _ (a b : List ℕ) (s : ℕ) (ba : AreBytes a) (bb : AreBytes b) (ea : answer_of a ≡ accepted) (eb : answer_of b ≡ accepted) where
  task_low : (t : ℕ) → Joins.task_at a b s t ≤ rows a Tasks + t
  unfolding Joins.task_at
  task_low t = go (ltb t s)
    where
      go : (c : Bool) → cond c t (rows a Tasks + (t - s)) ≤ rows a Tasks + t
      go true = omega arith
      go false = omega arith

  -- a new number is small
  pub task_small : (t : ℕ) → t < rows b Tasks → Joins.task_at a b s t < 512
  unfolding shape
  task_small t l = omega (arith, task_low t, few a ea Tasks, few b eb Tasks)

  pub stream_small : (m : ℕ) → m < rows b Streams → Joins.stream_at a b s m < 128
  unfolding Joins.stream_at shape
  stream_small m l = omega (arith, row_at_low (rows_of a Streams) (rows_by b Streams (Joins.with_tasks a b s Streams)) m, rows_long a Streams, few a ea Streams, few b eb Streams)

  -- so is a renumbered word
  pub renumber_small : (t : Table) (r j : ℕ) → r < rows b t → j < (shape t).width → Joins.renumber a b s t j (field b t r j) < 2 ^ 32
  unfolding Joins.renumber Joins.with_tasks
  renumber_small t r j l k = go (names_stream t j) refl (names_task t j) refl
    where
      go : (c : Bool) → names_stream t j ≡ c → (d : Bool) → names_task t j ≡ d
          → cond (names_stream t j) (Joins.stream_at a b s (field b t r j)) (cond (names_task t j) (Joins.task_at a b s (field b t r j)) (field b t r j)) < 2 ^ 32
      go true e d f = rw e (omega (arith, stream_small (field b t r j) (stream_named b eb t r j l e)))
      go false e true f = rw (e, f) (omega (arith, task_small (field b t r j) (task_named b eb t r j l f k)))
      go false e false f = rw (e, f) (field_small b bb t r j)

  pub second_good : (t : Table) → All (Good t) (Joins.second_rows a b s t)
  unfolding Joins.second_rows rows_by
  second_good t =
      all_below (Good t) (row_by b t (Joins.renumber a b s t)) (rows b t) (λ r l. row_good b t (Joins.renumber a b s t) r (λ j k. renumber_small t r j l k))

  appended_good : (t : Table) → All (Good t) (Joins.appended a b s t)
  unfolding Joins.appended
  appended_good t =
      all_append (Good t) (rows_of a t) (new_rows (rows_of a t) (Joins.second_rows a b s t)) (rows_good a ba t)
      (all_new (Good t) (rows_of a t) (Joins.second_rows a b s t) (second_good t))

  abbrev rs : Table → List (List ℕ)
  rs = Joins.joined_rows a b s

  pub joined_good : (t : Table) → All (Good t) (rs t)
  unfolding Joins.joined_rows
  joined_good Cores = rows_good a ba Cores
  joined_good Vcpus = rows_good a ba Vcpus
  joined_good Tasks = all_append (Good Tasks) (rows_of a Tasks) (drop s (rows_of b Tasks)) (rows_good a ba Tasks) (all_drop (Good Tasks) s (rows_of b Tasks) (rows_good b bb Tasks))
  joined_good Windows = rows_good a ba Windows
  joined_good Pieces = all_sorted (Good Pieces) Pieces (Joins.appended a b s Pieces) (appended_good Pieces)
  joined_good Links = rows_good a ba Links
  joined_good Streams = appended_good Streams
  joined_good Frames = all_sorted (Good Frames) Frames (Joins.appended a b s Frames) (appended_good Frames)
  joined_good Buffers = appended_good Buffers
  joined_good Chains = appended_good Chains

  pub joined_wide : (t : Table) → Wide (shape t).width (rs t)
  joined_wide t r l = (all_at (Good t) (rs t) (joined_good t) r l).wide

  tables_small : (ts : List Table) → Small (table_words rs ts)
  unfolding table_words
  tables_small [] = small_none
  tables_small (t ∷ ts) =
      small_append (flat_map (λ x. x) (rs t)) (table_words rs ts) (small_flat (rs t) (all_of (Good t) Small (λ x g. g.small) (rs t) (joined_good t))) (tables_small ts)

  -- ---- the joined image

  module _ (fit : rows_fit rs tables ≡ true) where
    pub joined_most : length (Joins.joined_image a b s) ≤ 65116
    joined_most = omega (arith, joined_long a b s, words_most rs joined_wide tables fit, most_is, trailer_is)

    layout_small : Small (layout_from rs 0 tables)
    layout_small i = omega (arith, layout_low rs 0 tables some_width fit i, most_is)

    pub words_small : Small (image_words rs (cycle_ticks a) (precision a))
    unfolding image_words cycle_ticks precision
    words_small =
        small_append (table_words rs tables) (cycle_ticks a ∷ precision a ∷ layout_from rs 0 tables) (tables_small tables)
        (small_cons (cycle_ticks a) (precision a ∷ layout_from rs 0 tables) (word_small a ba _) (small_cons (precision a) (layout_from rs 0 tables) (word_small a ba _) layout_small))

    abbrev j : List ℕ
    j = Joins.joined_image a b s

    pub cycle_j : cycle_ticks j ≡ cycle_ticks a
    unfolding Joins.joined_image
    cycle_j = cycle_is rs (cycle_ticks a) (precision a) joined_wide words_small

    pub precision_j : precision j ≡ precision a
    unfolding Joins.joined_image
    precision_j = precision_is rs (cycle_ticks a) (precision a) joined_wide words_small

    pub rows_j : (t : Table) → rows j t ≡ length (rs t)
    unfolding Joins.joined_image
    rows_j t = rows_are rs (cycle_ticks a) (precision a) joined_wide words_small t

    -- a row that stands in the joined table is that row of the image
    pub field_j : (t : Table) (r k : ℕ) (x : List ℕ) → r < length (rs t) → get_or (rs t) r [] ≡ x → k < (shape t).width → field j t r k ≡ get_or x k 0
    unfolding Joins.joined_image
    field_j t r k x l e h = field_is rs (cycle_ticks a) (precision a) joined_wide words_small t r k l h ∙ ap (λ (y : List ℕ). get_or y k 0) e
