-- From the calls that load to demand 3: what rd_build_all or rd_build leaves, and rd_start, is loaded; and it can be so for every
-- accepted plan.
use Prim.Native.Nat.{ℕ, zero, suc, ◌+◌, ◌*◌, ◌/◌, ◌^◌, ◌≤◌, ◌<◌}
use mathlib.Core.Path.{◌≡◌, refl, sym, ap, ◌∙◌}
use mathlib.Core.Bool.{Bool, true, false, cond}
use mathlib.Core.List.{List, ◌∷◌, ◌++◌, [], flat_map, append-nil, append_assoc}
use native.Mathlib.Omega.{arith}
use lib.ListN.{length, get_or, take, drop, length-append, length-drop, drop_of_length-le}
use lib.Seq.{take_at, drop_at, drop-drop, get_or-take, get_or-drop, length-take-le}
use lib.Dec.{eqb}
use borrow.Author.Tests.{eq-eqb, eqb-true}
use Rattle.plan.specs.declared.Answer.{Answer}
use Rattle.plan.specs.Questions.{answer_of, accepted}
use Rattle.plan.specs.Dispatch.{lanes, table_of, tables_below, first_word, entry_count, build_answer, start_state, starts_at}
use Rattle.plan.specs.Boundary.{bytes_of, words_of, state_bytes, answer_number, check_number, build_number, build_bytes, start_number, start_bytes}
use Rattle.plan.proofs.Starts.{below_first, below_split, below_lies, starts_many, start_at}
use Rattle.writing.specs.AllTables.{all_tables, all_answer, all_number, all_bytes}
use Rattle.words.proofs.Bytes.{row_length, row_append}
use Rattle.words.proofs.Words.{words_length, words_row}
use Rattle.writing.proofs.Tables.{table_length, bytes_done}
use Rattle.writing.proofs.Fitting.{below_fits}
use Rattle.writing.proofs.AllTables.{below_small, below_inside, lanes_small, all_done}
use Rattle.writing.proofs.Reading.{built_fits, all_accepted}
use Rattle.loading.specs.Loaded.{AreBytes, Loaded, row_bytes, first_in, started_row, built_words, AllStarted, EachBuilt, AllBuilt, AllBuiltLoads, Demand3AfterBuildAll, Demand3AfterBuilds, CanBuildAll, CanBuild, CanHold, RoomForLane, RoomForAll, CanStart, SameWords, Demand3FromC, Demand3FromBuilds}
use Rattle.sizes.proofs.Bounds.{lane_fits, tables_fit}
use Rattle.records.proofs.Records.{started}
use Rattle.loading.proofs.Runs.{are_append, are_rest, row_bytes_holds, record_at}
use Rattle.loading.proofs.Loads.{zero_accepted, one_row, demand_3_through_c}

-- ---- bytes

are_number : (n x : ℕ) → AreBytes (bytes_of n x)
unfolding bytes_of
are_number zero x i = omega arith
are_number (suc n) x zero = omega arith
are_number (suc n) x (suc i) = are_number n (x / 256) i

are_words : (ws : List ℕ) → AreBytes (flat_map (bytes_of 4) ws)
unfolding flat_map
are_words [] i = omega arith
are_words (w ∷ ws) i = are_append 256 (bytes_of 4 w) (flat_map (bytes_of 4) ws) (are_number 4 w) (are_words ws) i

-- ---- records that rd_start left

started_length : (was : List ℕ) → start_number was ≡ 0 → length was ≡ 28
unfolding start_number
started_length was h = go (eqb (length was) 28) refl h
  where
    go : (t : Bool) → eqb (length was) 28 ≡ t → ◌≡◌ {A = ℕ} (cond t 0 27) 0 → length was ≡ 28
    go true e k = eqb-true (length was) 28 e
    go false e k = absurd (omega arith)

started_bytes : (c word : ℕ) (was : List ℕ) → start_number was ≡ 0 → start_bytes c word was ≡ state_bytes (start_state c word)
started_bytes c word was h = sym (started c word was (started_length was h)).1

all_started : (s row : List ℕ) (c : ℕ) (first : ℕ → ℕ) → AllStarted s row c first
    → (l : ℕ) → l < lanes s → take 28 (drop (28 * l) row) ≡ state_bytes (start_state c (first l))
all_started s row c first h l k = let p = h.1 l k in p.2 ∙ started_bytes c (first l) p.0 p.1

module _ (row : List ℕ) (first : ℕ → ℕ) (c : ℕ) where
  -- calls of rd_start for the records below n leave their starts, and the rest as it was
  rows_started : (n : ℕ) → 28 * n ≤ length row → started_row row first c n ≡ row_bytes (starts_at first c n) ++ drop (28 * n) row
  unfolding started_row starts_at flat_map
  rows_started zero h = refl
  rows_started (suc n) h =
      let x : List ℕ = row_bytes (starts_at first c n) in
      let r : started_row row first c n ≡ x ++ drop (28 * n) row = rows_started n (omega arith) in
      let m : length x ≡ 28 * n = row_bytes_holds (starts_at first c n) ∙ ap (λ (k : ℕ). 28 * k) (starts_many first c n) in
      let d : drop (28 * n) (started_row row first c n) ≡ drop (28 * n) row = ap (drop (28 * n)) r ∙ drop_at x (drop (28 * n) row) (28 * n) m in
      let t : take (28 * n) (started_row row first c n) ≡ x = ap (take (28 * n)) r ∙ take_at x (drop (28 * n) row) (28 * n) m in
      let w : length (take 28 (drop (28 * n) row)) ≡ 28 = length-take-le 28 (drop (28 * n) row) (rw (length-drop (28 * n) row) (omega arith)) in
      let e : 28 * n + 28 ≡ 28 * suc n = omega arith in
      let q : drop (28 * n + 28) (started_row row first c n) ≡ drop (28 * suc n) row =
      sym (drop-drop 28 (28 * n) (started_row row first c n)) ∙ ap (drop 28) d ∙ drop-drop 28 (28 * n) row ∙ ap (λ (k : ℕ). drop k row) e in
      ap (λ (v : List ℕ). v ++ start_bytes c (first n) (take 28 (drop (28 * n) (started_row row first c n))) ++ drop (28 * n + 28) (started_row row first c n)) t
      ∙ ap (λ (v : List ℕ). x ++ start_bytes c (first n) (take 28 v) ++ drop (28 * n + 28) (started_row row first c n)) d
      ∙ ap (λ (v : List ℕ). x ++ v ++ drop (28 * n + 28) (started_row row first c n)) (sym (started c (first n) (take 28 (drop (28 * n) row)) w).1)
      ∙ ap (λ (v : List ℕ). x ++ state_bytes (start_state c (first n)) ++ v) q
      ∙ ap (λ (v : List ℕ). v ++ drop (28 * suc n) row) (sym (one_row (starts_at first c n) (start_state c (first n))))

pub can_start : CanStart
can_start s row c first h =
    let e : started_row row first c (lanes s) ≡ row_bytes (starts_at first c (lanes s)) =
    rows_started row first c (lanes s) (omega arith)
    ∙ ap (λ (b : List ℕ). row_bytes (starts_at first c (lanes s)) ++ b) (drop_of_length-le row {i = 28 * lanes s} (omega arith))
    ∙ append-nil (row_bytes (starts_at first c (lanes s))) in
    let m = starts_many first c (lanes s) in (
      ap length e ∙ row_bytes_holds (starts_at first c (lanes s)) ∙ ap (λ (k : ℕ). 28 * k) m,
      λ l k.
          let was : List ℕ = take 28 (drop (28 * l) row) in
          let w : length was ≡ 28 = length-take-le 28 (drop (28 * l) row) (rw (length-drop (28 * l) row) (omega arith)) in
          let z = started c (first l) was w in (
            was,
            sym z.0,
            ap (λ (b : List ℕ). take 28 (drop (28 * l) b)) e ∙ record_at (starts_at first c (lanes s)) l (omega (arith, m))
                ∙ ap state_bytes (start_at first c (lanes s) l _ k) ∙ z.1,
          ),
    )

-- ---- words that rd_build_all left

is_accepted : (s : List ℕ) → answer_of s ≡ accepted → check_number s ≡ 0
unfolding check_number answer_number
is_accepted s e = rw e refl

pub can_build_all : CanBuildAll
unfolding check_number all_number answer_number
can_build_all s b e h =
    let a = zero_accepted (answer_of s) e in
    rw (← (all_done s b a (omega arith)).answer) refl

-- ---- tables laid in bytes one after another

module _ (s : List ℕ) (a : answer_of s ≡ accepted) where
  second : (l : ℕ) → get_or (table_of s l) 1 0 ≡ entry_count s l
  unfolding table_of
  second l = refl

  -- the header's rule leads to each lane's first word
  first_laid : (n : ℕ) (r : List ℕ) (l : ℕ) → l ≤ n → first_in (flat_map (bytes_of 4) (tables_below s n) ++ r) l ≡ first_word s l
  unfolding first_in first_word
  first_laid n r zero h = refl
  first_laid n r (suc l) h =
      let ws : List ℕ = tables_below s n ++ words_of r in
      let e : words_of (flat_map (bytes_of 4) (tables_below s n) ++ r) ≡ ws = words_row (tables_below s n) r (below_fits s a n) in
      let t = table_length s l in
      let m : get_or ws (first_word s l + 1) 0 ≡ entry_count s l =
      sym (get_or-drop (first_word s l) ws 1 0) ∙ sym (get_or-take (length (table_of s l)) (drop (first_word s l) ws) 1 0 (omega arith))
      ∙ ap (λ (v : List ℕ). get_or v 1 0) (below_lies s l n (words_of r) h) ∙ second l in
      rw (first_laid n r l (omega arith), e, m) (omega arith)

  first_small : (l : ℕ) → l < lanes s → first_word s l < 2 ^ 32
  first_small l h = omega (arith, below_first s l, below_small s a l, lanes_small s a)

-- lane l's table, in bytes
held_laid : (s : List ℕ) (n : ℕ) (r : List ℕ) (l : ℕ) → l < n
    → take (4 * length (table_of s l)) (drop (4 * first_word s l) (flat_map (bytes_of 4) (tables_below s n) ++ r)) ≡ flat_map (bytes_of 4) (table_of s l)
held_laid s n r l h =
    let q = below_split s l n h in
    let x : List ℕ = flat_map (bytes_of 4) (tables_below s l) in
    let y : List ℕ = flat_map (bytes_of 4) (table_of s l) in
    let z : List ℕ = flat_map (bytes_of 4) q.0 in
    let f : flat_map (bytes_of 4) (tables_below s n) ++ r ≡ x ++ (y ++ (z ++ r)) =
    ap (λ (v : List ℕ). flat_map (bytes_of 4) v ++ r) q.1
    ∙ ap (λ (v : List ℕ). v ++ r) (row_append (tables_below s l) (table_of s l ++ q.0) ∙ ap (λ (v : List ℕ). x ++ v) (row_append (table_of s l) q.0))
    ∙ append_assoc x (y ++ z) r
    ∙ ap (λ (v : List ℕ). x ++ v) (append_assoc y z r) in
    ap (λ (v : List ℕ). take (4 * length (table_of s l)) (drop (4 * first_word s l) v)) f
    ∙ ap (take (4 * length (table_of s l)))
    (drop_at x (y ++ (z ++ r)) (4 * first_word s l) (row_length (tables_below s l) ∙ ap (λ (k : ℕ). 4 * k) (below_first s l)))
    ∙ take_at y (z ++ r) (4 * length (table_of s l)) (row_length (table_of s l))

-- the bytes that rd_build_all leaves
all_laid : (s b : List ℕ) → (all_answer s b).number ≡ 0 → all_bytes s b ≡ flat_map (bytes_of 4) (tables_below s (lanes s)) ++ drop (4 * length (tables_below s (lanes s))) b
unfolding all_bytes all_tables
all_laid s b e = rw (eq-eqb (all_answer s b).number 0 e) refl

all_bytes_holds : (s b : List ℕ) → (all_answer s b).number ≡ 0 → AreBytes b → AreBytes (all_bytes s b)
all_bytes_holds s b e h =
    let t : List ℕ = tables_below s (lanes s) in
    rw (all_laid s b e) (are_append 256 (flat_map (bytes_of 4) t) (drop (4 * length t) b) (are_words t) (are_rest 256 (4 * length t) b h))

pub all_built_loads : AllBuiltLoads
unfolding all_number
all_built_loads s b row c h e hc st =
    let z : (all_answer s b).number ≡ 0 = ap (λ (x : Answer). x.number) (zero_accepted (all_answer s b) e) in
    let a = all_accepted s b z in
    let n = lanes s in
    let r : List ℕ = drop (4 * length (tables_below s n)) b in
    let f : (l : ℕ) → l < n → first_in (all_bytes s b) l ≡ first_word s l = λ l k. rw (all_laid s b z) (first_laid s a n r l (omega arith)) in
    record {
      plan = is_accepted s a;
      in_calendar = hc;
      bytes = all_bytes_holds s b z h;
      records = st.0;
      narrow = λ l k. rw (f l k) (first_small s a l k);
      started = all_started s row c (first_in (all_bytes s b)) st;
      built = λ l k. rw (f l k, all_laid s b z) (held_laid s n r l k);
    }

pub demand_3_after_build_all : Demand3AfterBuildAll
demand_3_after_build_all s b row c h e hc st =
    demand_3_through_c s (all_bytes s b) row c (first_in (all_bytes s b)) (all_built_loads s b row c h e hc st)

-- ---- words that rd_build left, lane by lane

-- an rd_build that gave 0 had enough words, and left the table before the bytes behind it
build_zero : (s : List ℕ) (l : ℕ) (r : List ℕ) → build_number s l r ≡ 0 → (build_answer s l (words_of r)).number ≡ 0
unfolding build_number
build_zero s l r e = ap (λ (x : Answer). x.number) (zero_accepted (build_answer s l (words_of r)) e)

takes_build : (s : List ℕ) (l : ℕ) (r : List ℕ) → build_number s l r ≡ 0 → 4 * length (table_of s l) ≤ length r
takes_build s l r e = omega (arith, built_fits s l (words_of r) (build_zero s l r e), words_length r)

build_leaves : (s : List ℕ) (l : ℕ) (r : List ℕ) → build_number s l r ≡ 0 → build_bytes s l r ≡ flat_map (bytes_of 4) (table_of s l) ++ drop (4 * length (table_of s l)) r
unfolding build_bytes
build_leaves s l r e = rw (eq-eqb (build_answer s l (words_of r)).number 0 (build_zero s l r e)) refl

built_front : (s : List ℕ) (l : ℕ) (r : List ℕ) → build_number s l r ≡ 0 → take (4 * length (table_of s l)) (build_bytes s l r) ≡ flat_map (bytes_of 4) (table_of s l)
built_front s l r e =
    let n : ℕ = 4 * length (table_of s l) in
    ap (take n) (build_leaves s l r e) ∙ take_at (flat_map (bytes_of 4) (table_of s l)) (drop n r) n (row_length (table_of s l))

builds_load : (s ws row : List ℕ) (c : ℕ) (first : ℕ → ℕ) → AreBytes ws → check_number s ≡ 0 → EachBuilt s ws first → c < 2 ^ 64 → AllStarted s row c first
    → Loaded s ws row c first
builds_load s ws row c first h e built hc st =
    record {
      plan = e;
      in_calendar = hc;
      bytes = h;
      records = st.0;
      narrow = λ l k. (built l k).0;
      started = all_started s row c first st;
      built = λ l k. let p = (built l k).1 in p.2 ∙ built_front s l p.0 p.1;
    }

pub demand_3_after_builds : Demand3AfterBuilds
demand_3_after_builds s ws row c first h e built hc st = demand_3_through_c s ws row c first (builds_load s ws row c first h e built hc st)

-- ---- rd_build in turn, in place

-- where the words suffice, an rd_build of a lane gives 0
build_takes : (s : List ℕ) (l : ℕ) (r : List ℕ) → answer_of s ≡ accepted → l < lanes s → 4 * length (table_of s l) ≤ length r → build_number s l r ≡ 0
unfolding build_number answer_number
build_takes s l r a h k = let t = table_length s l in rw (← (bytes_done s l r a h (omega arith)).answer) refl

module _ (s b : List ℕ) (a : answer_of s ≡ accepted) where
  abbrev before : ℕ → List ℕ
  before n = flat_map (bytes_of 4) (tables_below s n)

  abbrev behind : ℕ → List ℕ
  behind n = drop (4 * length (tables_below s n)) b

  -- the tables below n stand before the bytes that follow, and the next call is lent these
  abbrev Laid : ℕ → Type 0
  Laid n = built_words s b n ≡ before n ++ behind n

  module _ (n : ℕ) (e : Laid n) where
    place : 4 * first_in (built_words s b n) n ≡ length (before n)
    place = rw e (omega (arith, first_laid s a n (behind n) n (omega arith), below_first s n, row_length (tables_below s n)))

    pub lent : drop (4 * first_in (built_words s b n) n) (built_words s b n) ≡ behind n
    lent = rw (place, e) (drop_at (before n) (behind n) _ refl)

    above : take (4 * first_in (built_words s b n) n) (built_words s b n) ≡ before n
    above = rw (place, e) (take_at (before n) (behind n) _ refl)

    pub next_laid : build_number s n (behind n) ≡ 0 → Laid (suc n)
    unfolding built_words tables_below
    next_laid z =
        let t : List ℕ = table_of s n in
        let m : 4 * length (tables_below s n) + 4 * length t ≡ 4 * length (tables_below s n ++ t) = omega (arith, length-append (tables_below s n) t) in
        ap (λ (x : List ℕ). x ++ build_bytes s n (drop (4 * first_in (built_words s b n) n) (built_words s b n))) above
        ∙ ap (λ (r : List ℕ). before n ++ build_bytes s n r) lent
        ∙ ap (λ (x : List ℕ). before n ++ x) (build_leaves s n (behind n) z)
        ∙ ap (λ (r : List ℕ). before n ++ (flat_map (bytes_of 4) t ++ r)) (drop-drop (4 * length t) (4 * length (tables_below s n)) b ∙ ap (λ (k : ℕ). drop k b) m)
        ∙ sym (append_assoc (before n) (flat_map (bytes_of 4) t) _)
        ∙ ap (λ (x : List ℕ). x ++ drop (4 * length (tables_below s n ++ t)) b) (sym (row_append (tables_below s n) t))

  pub laid_none : Laid 0
  unfolding built_words tables_below flat_map
  laid_none = refl

  -- where the bytes suffice, each call gives 0 and all tables are laid
  pub enough_takes : 4 * length (all_tables s) ≤ length b → (n : ℕ) → n < lanes s → build_number s n (behind n) ≡ 0
  enough_takes h n k = build_takes s n (behind n) a k (rw (length-drop) (omega (arith, below_inside s n k, table_length s n)))

  pub enough_laid : 4 * length (all_tables s) ≤ length b → (n : ℕ) → n ≤ lanes s → Laid n
  enough_laid h zero k = laid_none
  enough_laid h (suc n) k = next_laid n (enough_laid h n (omega arith)) (enough_takes h n k)

  -- and they suffice where each call gives 0
  pub taken_laid : AllBuilt s b → (n : ℕ) → n ≤ lanes s → Laid n × (4 * length (tables_below s n) ≤ length b)
  unfolding tables_below
  taken_laid h zero k = (laid_none, omega arith)
  taken_laid h (suc n) k =
      let p = taken_laid h n (omega arith) in
      let z : build_number s n (behind n) ≡ 0 = rw (lent n p.0) at (h n k) in
      let q = takes_build s n (behind n) z in
      (next_laid n p.0 z, omega (arith, p.1, q, length-drop (4 * length (tables_below s n)) b, length-append (tables_below s n) (table_of s n)))

pub can_build : CanBuild
unfolding check_number
can_build s b e h l k =
    let a = zero_accepted (answer_of s) e in
    rw (lent s b a l (enough_laid s b a h l (omega arith))) (enough_takes s b a h l k)

pub room_for_lane : RoomForLane
unfolding check_number
room_for_lane s l b e h k = let a = zero_accepted (answer_of s) e in build_takes s l b a h (omega (arith, (lane_fits s a l).1))

pub room_for_all : RoomForAll
unfolding check_number
room_for_all s b e k =
    let m = (tables_fit s (zero_accepted (answer_of s) e)).1 in
    let h : 4 * length (all_tables s) ≤ length b = omega arith in
    (can_build_all s b e h, can_build s b e h)

pub same_words_holds : SameWords
unfolding check_number all_number all_tables
same_words_holds s b e h =
    let a = zero_accepted (answer_of s) e in
    let p = taken_laid s b a h (lanes s) (omega arith) in
    let z = can_build_all s b (is_accepted s a) (unfold all_tables in p.1) in
    (z, p.0 ∙ sym (all_laid s b (ap (λ (x : Answer). x.number) (zero_accepted (all_answer s b) z))))

pub can_hold : CanHold
unfolding check_number
can_hold s b e h l k =
    let a = zero_accepted (answer_of s) e in
    let p = (taken_laid s b a h (lanes s) (omega arith)).0 in
    let f : first_in (built_words s b (lanes s)) l ≡ first_word s l = rw p (first_laid s a (lanes s) _ l (omega arith)) in
    let ws : List ℕ = built_words s b l in
    let r : List ℕ = drop (4 * first_in ws l) ws in
    (rw f (first_small s a l k), (r, h l k, rw (f, p) (held_laid s (lanes s) _ l k ∙ sym (built_front s l r (h l k)))))

-- ---- in one

pub demand_3_from_c : Demand3FromC
demand_3_from_c s b row c h e n hc =
    let first : ℕ → ℕ = first_in (all_bytes s b) in
    demand_3_after_build_all s b (started_row row first c (lanes s)) c h e hc (can_start s row c first n)

pub demand_3_from_builds : Demand3FromBuilds
demand_3_from_builds s b row c h e built n hc =
    let w = same_words_holds s b e built in
    rw w.1 (demand_3_from_c s b row c h w.0 n hc)
