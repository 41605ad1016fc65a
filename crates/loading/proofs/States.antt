-- What the calls through C do, said of states: bytes hold a state, and steps of bytes are steps of the states that they hold.
use Prim.Native.Nat.{ℕ, ◌+◌, ◌*◌, ◌/◌, ◌^◌, ◌<◌}
use mathlib.Core.Path.{◌≡◌, refl, sym, ap, ◌∙◌}
use mathlib.Core.Logic.{◌≢◌}
use mathlib.Core.Bool.{Bool, true, false, not, cond}
use mathlib.Core.List.{List, ◌∷◌, ◌++◌, [], map, flat_map}
use native.Mathlib.Omega.{arith}
use lib.Dec.{eqb}
use borrow.Author.Tests.{eq-eqb}
use lib.ListN.{length, length-append}
use lib.Seq.{take_at, drop_at}
use Rattle.plan.specs.Image.{word_at}
use Rattle.plan.specs.Dispatch.{fits, calendar_ends, moved, step, start_state, refusal, step_all}
use Rattle.plan.specs.Boundary.{words_of, bytes_of, state_of, state_bytes, start_number, start_bytes, step_number, step_bytes, records_of, refused_number, step_all_number, step_all_bytes}
use Rattle.loading.specs.Loaded.{row_bytes}
use Rattle.plan.specs.declared.LaneState.{LaneState}
use Rattle.plan.specs.declared.Stepped.{Stepped}
use Rattle.words.proofs.Words.{low, low_word}
use Rattle.states.proofs.Bytes.{state_length}
use Rattle.records.proofs.Rows.{records_cons, records_nil}
use Rattle.records.proofs.Records.{started}

-- ---- there and back

-- each field fits its width
pub record InWidth (st : LaneState) : Type 0 where
  pub cycle : st.cycle < 2 ^ 64
  pub tick : st.tick < 2 ^ 32
  pub entry : st.entry < 2 ^ 32
  pub first : st.first < 2 ^ 32
  pub kind : st.kind < 2 ^ 32
  pub row : st.row < 2 ^ 32

low_high : (x : ℕ) → low x + 2 ^ 32 * (x / 256 / 256 / 256 / 256) ≡ x
low_high x = omega arith

two_low : (x : ℕ) → x < 2 ^ 64 → low x + 2 ^ 32 * low (x / 256 / 256 / 256 / 256) ≡ x
two_low x h =
    let y : x / 256 / 256 / 256 / 256 < 2 ^ 32 = omega arith in
    ap (λ (z : ℕ). low x + 2 ^ 32 * z) (low_word (x / 256 / 256 / 256 / 256) y) ∙ low_high x

pub round_trip : (st : LaneState) → InWidth st → state_of (state_bytes st) ≡ st
unfolding state_of state_bytes bytes_of word_at
round_trip st w =
    rw (
      two_low st.cycle w.cycle,
      low_word st.tick w.tick,
      low_word st.entry w.entry,
      low_word st.first w.first,
      low_word st.kind w.kind,
      low_word st.row w.row,
    )
    refl

-- ---- one lane

-- a refused step leaves the state as it was
refused_state : (words : List ℕ) (st : LaneState) → (step words st).number ≢ 0 → (step words st).state ≡ st
unfolding step
refused_state words st h = go (fits words st) (calendar_ends words st) h
  where
    chosen : Bool → Bool → Stepped
    chosen f e = cond (not f) (record { number = 27; state = st }) (cond e (record { number = 28; state = st }) (record { number = 0; state = moved words st }))

    go : (f e : Bool) → (chosen f e).number ≢ 0 → (chosen f e).state ≡ st
    go false e k = refl
    go true true k = refl
    go true false k = absurd (k refl)

module _ (ws : List ℕ) where
  -- a step of a state's bytes gives the number of the state's step, and leaves the bytes of the state after it
  pub step_of_bytes :
      (st : LaneState)
      → InWidth st
      → (step_number ws (state_bytes st) ≡ (step (words_of ws) st).number) × (step_bytes ws (state_bytes st) ≡ state_bytes (step (words_of ws) st).state)
  unfolding step_number step_bytes
  step_of_bytes st w =
      let n : step_number ws (state_bytes st) ≡ (step (words_of ws) st).number = rw (state_length st, round_trip st w) refl in
      (n, go (eqb (step (words_of ws) st).number 0) refl n)
    where
      go : (t : Bool) → eqb (step (words_of ws) st).number 0 ≡ t → step_number ws (state_bytes st) ≡ (step (words_of ws) st).number
          → cond (eqb (step_number ws (state_bytes st)) 0) (state_bytes (step (words_of ws) (state_of (state_bytes st))).state) (state_bytes st)
          ≡ state_bytes (step (words_of ws) st).state
      go true e n = rw (n, e, round_trip st w) refl
      go false e n =
          rw
          (n, e)
          (ap state_bytes
          (sym (refused_state (words_of ws) st (λ z. let y = sym e ∙ eq-eqb (step (words_of ws) st).number 0 z in let x : ◌≡◌ {A = ℕ} 0 1 = cc in omega arith))))

  -- a lane that is started and then stepped: the step of the start state
  pub step_after_start :
      (cycle word : ℕ) (b : List ℕ)
      → cycle < 2 ^ 64
      → word < 2 ^ 32
      → length b ≡ 28
      → (start_number b ≡ 0)
      × (step_number ws (start_bytes cycle word b) ≡ (step (words_of ws) (start_state cycle word)).number)
      × (step_bytes ws (start_bytes cycle word b) ≡ state_bytes (step (words_of ws) (start_state cycle word)).state)
  unfolding start_state
  step_after_start cycle word b hc hw n =
      let s = started cycle word b n in
      let k = step_of_bytes (start_state cycle word) (record { cycle = hc; tick = omega arith; entry = omega arith; first = hw; kind = omega arith; row = omega arith }) in
      (sym s.0, ap (step_number ws) (sym s.1) ∙ k.0, ap (step_bytes ws) (sym s.1) ∙ k.1)

-- ---- all lanes

abbrev pub AllInWidth : List LaneState → Type 0
AllInWidth [] = Unit {0}
AllInWidth (st ∷ sts) = InWidth st × AllInWidth sts

pub records_of_row : (sts : List LaneState) → records_of (row_bytes sts) ≡ map state_bytes sts
unfolding flat_map
records_of_row [] = records_nil
records_of_row (st ∷ sts) =
    let n = state_length st in
    let l : 0 < length (state_bytes st ++ row_bytes sts) = rw (length-append (state_bytes st) (row_bytes sts)) (omega arith) in
    records_cons (state_bytes st ++ row_bytes sts) l
    ∙ (rw (take_at (state_bytes st) (row_bytes sts) 28 n, drop_at (state_bytes st) (row_bytes sts) 28 n, records_of_row sts) refl)

module _ (ws : List ℕ) where
  refused_of_row : (sts : List LaneState) → AllInWidth sts → refused_number ws (map state_bytes sts) ≡ refusal (words_of ws) sts
  unfolding refused_number refusal
  refused_of_row [] w = refl
  refused_of_row (st ∷ sts) w = rw ((step_of_bytes ws st w.0).0, refused_of_row sts w.1) refl

  moved_of_row :
      (sts : List LaneState) → AllInWidth sts → flat_map (step_bytes ws) (map state_bytes sts) ≡ row_bytes (map (λ st. (step (words_of ws) st).state) sts)
  unfolding flat_map
  moved_of_row [] w = refl
  moved_of_row (st ∷ sts) w = rw ((step_of_bytes ws st w.0).1, moved_of_row sts w.1) refl

  -- a step of all records gives the number of the step of all states, and leaves the bytes of the states after it
  pub step_all_of_bytes :
      (sts : List LaneState)
      → AllInWidth sts
      → (step_all_number ws (row_bytes sts) ≡ refusal (words_of ws) sts) × (step_all_bytes ws (row_bytes sts) ≡ row_bytes (step_all (words_of ws) sts))
  unfolding step_all_number step_all_bytes step_all
  step_all_of_bytes sts w =
      let n : step_all_number ws (row_bytes sts) ≡ refusal (words_of ws) sts = ap (refused_number ws) (records_of_row sts) ∙ refused_of_row sts w in
      (n, go (eqb (refusal (words_of ws) sts) 0) refl n)
    where
      go : (t : Bool) → eqb (refusal (words_of ws) sts) 0 ≡ t → step_all_number ws (row_bytes sts) ≡ refusal (words_of ws) sts
          → cond (eqb (step_all_number ws (row_bytes sts)) 0) (flat_map (step_bytes ws) (records_of (row_bytes sts))) (row_bytes sts)
          ≡ row_bytes (cond (eqb (refusal (words_of ws) sts) 0) (map (λ st. (step (words_of ws) st).state) sts) sts)
      go true e n = rw (n, e, records_of_row sts) (moved_of_row sts w)
      go false e n = rw (n, e) refl
