-- Lists of calls through C: they give the numbers that the same calls of states give, and leave the bytes of the states that those
-- leave. So what plan's Demand.antt says of runs holds of them.
use Prim.Native.Nat.{ℕ, zero, suc, ◌+◌, ◌-◌, ◌*◌, ◌/◌, ◌^◌, ◌<◌}
use mathlib.Core.Path.{◌≡◌, refl, sym, ap, subst, ◌∙◌}
use mathlib.Core.Bool.{Bool, true, false, not, ◌&&◌, cond, true≢false}
use mathlib.Core.List.{List, ◌∷◌, ◌++◌, [], map, flat_map, append_assoc}
use native.Mathlib.Nat.{not-suc-le-zero, le_of_suc-le-suc}
use native.Mathlib.Omega.{arith}
use native.Mathlib.Decide.{dec_lt}
use lib.Dec.{ltb, leb, eqb}
use borrow.Author.Tests.{eq-eqb}
use lib.ListN.{length, get_or, take, drop, set, get_or-eq_default, length-append, length-map, length-set}
use lib.Seq.{get_or-drop, take_at, drop_at, drop-drop, drop-cons, drop-nil, take-nil, drop-append-add, take-append-add, set_split}
use Rattle.plan.specs.Image.{word_at}
use Rattle.plan.specs.Dispatch.{show, table_ticks, table_entries, entry_word, fits, last_tick, calendar_ends, next_entry, moved, step, start_state, refusal, step_all}
use Rattle.plan.specs.Boundary.{words_of, bytes_of, state_bytes, step_number}
use Rattle.plan.specs.Runs.{Call, all_lanes, one_lane, gives, leaves, after, record_shows}
use Rattle.plan.specs.declared.LaneState.{LaneState}
use Rattle.plan.specs.declared.Stepped.{Stepped}
use Rattle.loading.specs.Loaded.{AreBytes, shown_bytes, row_bytes, gives_bytes, leaves_bytes, after_bytes}
use Rattle.moves.specs.Lookups.{lookup, fits_table}
use Rattle.moves.proofs.Deciding.{fitting}
use Rattle.words.proofs.Words.{words_length, words_at}
use Rattle.states.proofs.Bytes.{state_length}
use Rattle.loading.proofs.States.{InWidth, AllInWidth, step_of_bytes, step_all_of_bytes}

abbrev none : LaneState
none = start_state 0 0

-- ---- lists of numbers below a bound

pub are_append : (most : ℕ) (xs ys : List ℕ) → ((i : ℕ) → get_or xs i 0 < most) → ((i : ℕ) → get_or ys i 0 < most) → (i : ℕ) → get_or (xs ++ ys) i 0 < most
are_append most [] ys h k i = k i
are_append most (x ∷ xs) ys h k zero = h 0
are_append most (x ∷ xs) ys h k (suc i) = are_append most xs ys (λ j. h (suc j)) k i

pub are_rest : (most n : ℕ) (xs : List ℕ) → ((i : ℕ) → get_or xs i 0 < most) → (i : ℕ) → get_or (drop n xs) i 0 < most
are_rest most n xs h i = rw (get_or-drop n xs i 0) (h (n + i))

-- ---- a step keeps a state's fields in their widths

abbrev pub AreWords : List ℕ → Type 0
AreWords words = (i : ℕ) → get_or words i 0 < 2 ^ 32

pub words_of_holds : (b : List ℕ) → AreBytes b → AreWords (words_of b)
unfolding word_at
words_of_holds b h i = go (dec_lt i (length b / 4))
  where
    go : Dec (i < length b / 4) → get_or (words_of b) i 0 < 2 ^ 32
    go (yes l) = rw (words_at b i l) (omega (arith, h (4 * i), h (4 * i + 1), h (4 * i + 2), h (4 * i + 3)))
    go (no l) = rw (get_or-eq_default (words_of b) 0 {n = i} (omega (arith, words_length b))) (omega arith)

module _ (words : List ℕ) (narrow : AreWords words) (st : LaneState) (w : InWidth st) where
  cycle_kept : calendar_ends words st ≡ false → (moved words st).cycle < 2 ^ 64
  unfolding calendar_ends moved
  cycle_kept h = go (last_tick words st) refl h
    where
      go : (t : Bool) → last_tick words st ≡ t → t && eqb st.cycle (2 ^ 64 - 1) ≡ false → cond t (st.cycle + 1) st.cycle < 2 ^ 64
      go false e k = w.cycle
      go true e k = let n : (st.cycle ≡ 2 ^ 64 - 1 → ⊥) = λ q. true≢false (sym (eq-eqb st.cycle (2 ^ 64 - 1) q) ∙ k) in omega (arith, n, w.cycle)

  module _ (f : fits words st ≡ true) where
    inside : (st.entry < table_entries words st) × (st.tick < table_ticks words st)
    unfolding fits lookup fits_table
    inside = fitting (lookup words st) st f

    tick_kept : (moved words st).tick < 2 ^ 32
    unfolding moved table_ticks
    tick_kept = go (last_tick words st)
      where
        go : (t : Bool) → cond t 0 (st.tick + 1) < 2 ^ 32
        go false = omega (arith, inside.1, narrow st.first)
        go true = omega arith

    entry_kept : (moved words st).entry < 2 ^ 32
    unfolding moved next_entry table_entries
    entry_kept = go (last_tick words st) (ltb (st.entry + 1) (table_entries words st) && leb (entry_word words st (st.entry + 1) 0) (st.tick + 1))
      where
        go : (t u : Bool) → cond t 0 (cond u (st.entry + 1) st.entry) < 2 ^ 32
        go false false = w.entry
        go false true = omega (arith, inside.0, narrow (st.first + 1))
        go true u = omega arith

    moved_kept : calendar_ends words st ≡ false → InWidth (moved words st)
    unfolding moved entry_word
    moved_kept e =
        record {
          cycle = cycle_kept e;
          tick = tick_kept;
          entry = entry_kept;
          first = w.first;
          kind = narrow (st.first + 2 + 3 * st.entry + 1);
          row = narrow (st.first + 2 + 3 * st.entry + 2);
        }

  pub step_kept : InWidth (step words st).state
  unfolding step
  step_kept = go (fits words st) refl (calendar_ends words st) refl
    where
      go : (f : Bool) → fits words st ≡ f → (e : Bool) → calendar_ends words st ≡ e
          → InWidth (cond {A = Stepped} (not f) (record { number = 27; state = st }) (cond e (record { number = 28; state = st }) (record { number = 0; state = moved words st }))).state
      go false p e q = w
      go true p true q = w
      go true p false q = moved_kept p q

-- ---- a row of states

module _ (words : List ℕ) (narrow : AreWords words) where
  map_kept : (sts : List LaneState) → AllInWidth sts → AllInWidth (map (λ st. (step words st).state) sts)
  map_kept [] w = tt
  map_kept (st ∷ sts) w = (step_kept words narrow st w.0, map_kept sts w.1)

  pub all_kept : (sts : List LaneState) → AllInWidth sts → AllInWidth (step_all words sts)
  unfolding step_all
  all_kept sts w = go (eqb (refusal words sts) 0)
    where
      go : (t : Bool) → AllInWidth (cond t (map (λ st. (step words st).state) sts) sts)
      go true = map_kept sts w
      go false = w

  pub width_at : (sts : List LaneState) (l : ℕ) → AllInWidth sts → l < length sts → InWidth (get_or sts l none)
  width_at [] l w h = absurd (not-suc-le-zero h)
  width_at (st ∷ sts) zero w h = w.0
  width_at (st ∷ sts) (suc l) w h = width_at sts l w.1 (le_of_suc-le-suc h)

  set_kept : (sts : List LaneState) (l : ℕ) (st : LaneState) → AllInWidth sts → InWidth st → AllInWidth (set sts l st)
  set_kept [] l st w k = tt
  set_kept (x ∷ xs) zero st w k = (k, w.1)
  set_kept (x ∷ xs) (suc l) st w k = (w.0, set_kept xs l st w.1 k)

-- the record of lane l begins at byte 28 l
drop_row : (l : ℕ) (sts : List LaneState) → drop (28 * l) (row_bytes sts) ≡ row_bytes (drop l sts)
unfolding flat_map
drop_row zero sts = refl
drop_row (suc l) [] = drop-nil (28 * suc l)
drop_row (suc l) (st ∷ sts) =
    let e : 28 * suc l ≡ length (state_bytes st) + 28 * l = omega (arith, state_length st) in
    ap (λ (n : ℕ). drop n (state_bytes st ++ row_bytes sts)) e ∙ drop-append-add (state_bytes st) (row_bytes sts) (28 * l) ∙ drop_row l sts

take_row : (l : ℕ) (sts : List LaneState) → take (28 * l) (row_bytes sts) ≡ row_bytes (take l sts)
unfolding flat_map
take_row zero sts = refl
take_row (suc l) [] = take-nil (28 * suc l)
take_row (suc l) (st ∷ sts) =
    let e : 28 * suc l ≡ length (state_bytes st) + 28 * l = omega (arith, state_length st) in
    ap (λ (n : ℕ). take n (state_bytes st ++ row_bytes sts)) e
    ∙ take-append-add (state_bytes st) (row_bytes sts) (28 * l)
    ∙ ap (λ (b : List ℕ). state_bytes st ++ b) (take_row l sts)

pub row_bytes_holds : (sts : List LaneState) → length (row_bytes sts) ≡ 28 * length sts
unfolding flat_map
row_bytes_holds [] = refl
row_bytes_holds (st ∷ sts) = length-append (state_bytes st) (row_bytes sts) ∙ omega (arith, state_length st, row_bytes_holds sts)

pub append_row : (xs ys : List LaneState) → row_bytes (xs ++ ys) ≡ row_bytes xs ++ row_bytes ys
unfolding flat_map
append_row [] ys = refl
append_row (x ∷ xs) ys = ap (λ (b : List ℕ). state_bytes x ++ b) (append_row xs ys) ∙ sym (append_assoc (state_bytes x) (row_bytes xs) (row_bytes ys))

module _ (sts : List LaneState) (l : ℕ) (h : l < length sts) where
  here : drop (28 * l) (row_bytes sts) ≡ state_bytes (get_or sts l none) ++ row_bytes (drop (suc l) sts)
  unfolding flat_map
  here = drop_row l sts ∙ ap row_bytes (drop-cons sts l none h)

  pub record_at : take 28 (drop (28 * l) (row_bytes sts)) ≡ state_bytes (get_or sts l none)
  record_at = ap (take 28) here ∙ take_at (state_bytes (get_or sts l none)) (row_bytes (drop (suc l) sts)) 28 (state_length (get_or sts l none))

  -- its last eight bytes
  pub shown_at_holds : take 8 (drop (28 * l + 20) (row_bytes sts)) ≡ shown_bytes (record_shows [] sts l)
  unfolding state_bytes bytes_of record_shows show
  shown_at_holds = ap (take 8) (sym (drop-drop 20 (28 * l) (row_bytes sts)) ∙ ap (drop 20) here)

  rest_after : drop (28 * l + 28) (row_bytes sts) ≡ row_bytes (drop (suc l) sts)
  rest_after =
      sym (drop-drop 28 (28 * l) (row_bytes sts))
      ∙ ap (drop 28) here
      ∙ drop_at (state_bytes (get_or sts l none)) (row_bytes (drop (suc l) sts)) 28 (state_length (get_or sts l none))

  set_row : (st : LaneState) → row_bytes (set sts l st) ≡ take (28 * l) (row_bytes sts) ++ state_bytes st ++ drop (28 * l + 28) (row_bytes sts)
  unfolding flat_map
  set_row st =
      ap row_bytes (set_split sts l st h)
      ∙ append_row (take l sts) (st ∷ drop (suc l) sts)
      ∙ sym (append_assoc (row_bytes (take l sts)) (state_bytes st) (row_bytes (drop (suc l) sts)))
      ∙ (rw (take_row l sts, rest_after) refl)

-- ---- calls

-- calls of all lanes and of lanes that there are
abbrev pub Among : ℕ → Call → Type 0
Among n all_lanes = Unit {0}
Among n (one_lane l) = l < n

abbrev pub AllAmong : ℕ → List Call → Type 0
AllAmong n [] = Unit {0}
AllAmong n (c ∷ cs) = Among n c × AllAmong n cs

module _ (ws : List ℕ) where
  -- calls keep the number of states
  call_long : (sts : List LaneState) (c : Call) → length (leaves (words_of ws) sts c) ≡ length sts
  unfolding leaves step_all
  call_long sts all_lanes = go (eqb (refusal (words_of ws) sts) 0)
    where
      go : (t : Bool) → length (cond t (map (λ st. (step (words_of ws) st).state) sts) sts) ≡ length sts
      go true = length-map sts (λ st. (step (words_of ws) st).state)
      go false = refl
  call_long sts (one_lane l) = length-set sts l (step (words_of ws) (get_or sts l none)).state

  pub calls_long : (cs : List Call) (sts : List LaneState) → length (after (words_of ws) sts cs) ≡ length sts
  unfolding after
  calls_long [] sts = refl
  calls_long (c ∷ cs) sts = calls_long cs (leaves (words_of ws) sts c) ∙ call_long sts c

module _ (ws : List ℕ) (b : AreBytes ws) where
  -- a call through C gives what the call gives, and leaves the bytes of the states that the call leaves
  pub call_of_bytes :
      (sts : List LaneState) (c : Call)
      → AllInWidth sts
      → Among (length sts) c
      → (gives_bytes ws (row_bytes sts) c ≡ gives (words_of ws) sts c) × (leaves_bytes ws (row_bytes sts) c ≡ row_bytes (leaves (words_of ws) sts c))
  unfolding gives_bytes leaves_bytes gives leaves
  call_of_bytes sts all_lanes w h = step_all_of_bytes ws sts w
  call_of_bytes sts (one_lane l) w h =
      let k = step_of_bytes ws (get_or sts l none) (width_at (words_of ws) (words_of_holds ws b) sts l w h) in (
        ap (step_number ws) (record_at sts l h) ∙ k.0,
        (rw (record_at sts l h, k.1) refl) ∙ sym (set_row sts l h (step (words_of ws) (get_or sts l none)).state),
      )

  call_kept : (sts : List LaneState) (c : Call) → AllInWidth sts → Among (length sts) c → AllInWidth (leaves (words_of ws) sts c)
  unfolding leaves
  call_kept sts all_lanes w h = all_kept (words_of ws) (words_of_holds ws b) sts w
  call_kept sts (one_lane l) w h =
      let n = words_of_holds ws b in
      set_kept (words_of ws) n sts l (step (words_of ws) (get_or sts l none)).state w
      (step_kept (words_of ws) n (get_or sts l none) (width_at (words_of ws) n sts l w h))

  -- after any list of calls through C, the row has the bytes of the states that the same calls leave, and the next call gives the same
  pub calls_of_bytes :
      (cs : List Call) (sts : List LaneState) (c : Call)
      → AllInWidth sts
      → AllAmong (length sts) cs
      → Among (length sts) c
      → (after_bytes ws (row_bytes sts) cs ≡ row_bytes (after (words_of ws) sts cs))
      × (gives_bytes ws (after_bytes ws (row_bytes sts) cs) c ≡ gives (words_of ws) (after (words_of ws) sts cs) c)
  unfolding after_bytes after
  calls_of_bytes [] sts c w hs h = (refl, (call_of_bytes sts c w h).0)
  calls_of_bytes (d ∷ cs) sts c w hs h =
      let e = call_long ws sts d in
      rw
      (call_of_bytes sts d w hs.0).1
      (calls_of_bytes cs (leaves (words_of ws) sts d) c (call_kept sts d w hs.0) (subst (λ (n : ℕ). AllAmong n cs) (sym e) hs.1) (subst (λ (n : ℕ). Among n c) (sym e) h))

  -- and the states' fields stay in their widths
  pub calls_kept : (cs : List Call) (sts : List LaneState) → AllInWidth sts → AllAmong (length sts) cs → AllInWidth (after (words_of ws) sts cs)
  unfolding after
  calls_kept [] sts w hs = w
  calls_kept (d ∷ cs) sts w hs =
      calls_kept cs (leaves (words_of ws) sts d) (call_kept sts d w hs.0) (subst (λ (n : ℕ). AllAmong n cs) (sym (call_long ws sts d)) hs.1)
