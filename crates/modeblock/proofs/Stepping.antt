-- A step of all lanes over bytes: refused before any record is tried, at the tables that the records have, or at those of the plan requested.
use Prim.Native.Nat.{ℕ, zero, suc, ◌+◌, ◌*◌, ◌/◌, ◌%◌, ◌≤◌}
use mathlib.Core.Path.{◌≡◌, refl, sym, ap, ◌∙◌}
use mathlib.Core.Logic.{◌≢◌}
use mathlib.Core.Bool.{Bool, true, false, ◌&&◌, cond}
use mathlib.Core.List.{List, ◌∷◌, [], map, flat_map}
use native.Mathlib.Omega.{arith}
use lib.Dec.{ltb, eqb}
use lib.ListN.{length, take, drop, length-take, length-drop}
use lib.Seq.{get_or-take}
use borrow.Author.Tests.{eqb-true, eq-eqb, ne_eqb}
use Rattle.plan.specs.declared.LaneState.{LaneState}
use Rattle.plan.specs.Image.{word_at}
use Rattle.plan.specs.Dispatch.{step, refusal, step_all}
use Rattle.plan.specs.Boundary.{words_of, state_of, state_bytes, step_number, step_bytes, first_records, records_of, refused_number, step_all_number, step_all_bytes}
use Rattle.plan.proofs.Searching.{and_true}
use Rattle.writing.specs.Stored.{stored}
use Rattle.modes.specs.Modes.{places, lane_count, plan, held, placed, Mode, due, taken, stepped}
use Rattle.turns.specs.Turns.{states_of}
use Rattle.turns.proofs.Turning.{states_cons}
use Rattle.modeblock.specs.Blocks.{is_block, has_row, plans_of, mode_of, runs, takes, modes_step_number, modes_step_states, modes_step_block}
use Rattle.modeblock.proofs.Blocks.{held_core}

-- ---- records of 28 bytes each are states

module _ (words : List ℕ) where
  abbrev W : List ℕ
  W = words_of words

  one_number : (r : List ℕ) → length r ≡ 28 → step_number words r ≡ (step W (state_of r)).number
  unfolding step_number
  one_number r n = rw (eq-eqb (length r) 28 n) refl

  one_bytes : (r : List ℕ) → length r ≡ 28 → step_number words r ≡ 0 → step_bytes words r ≡ state_bytes (step W (state_of r)).state
  unfolding step_bytes
  one_bytes r n e = rw (eq-eqb (step_number words r) 0 e) refl

  front : (n : ℕ) (b : List ℕ) → 28 * suc n ≤ length b → length (take 28 b) ≡ 28
  front n b h = omega (arith, length-take 28 b)

  behind : (n : ℕ) (b : List ℕ) → 28 * suc n ≤ length b → 28 * n ≤ length (drop 28 b)
  behind n b h = omega (arith, length-drop 28 b)

  numbers : (n : ℕ) (b : List ℕ) → 28 * n ≤ length b → refused_number words (first_records n b) ≡ refusal W (map state_of (first_records n b))
  unfolding first_records refused_number refusal
  numbers zero b h = refl
  numbers (suc n) b h = rw (one_number (take 28 b) (front n b h), numbers n (drop 28 b) (behind n b h)) refl

  moves : (n : ℕ) (b : List ℕ) → 28 * n ≤ length b → refused_number words (first_records n b) ≡ 0
      → flat_map (step_bytes words) (first_records n b) ≡ flat_map state_bytes (map (λ st. (step W st).state) (map state_of (first_records n b)))
  unfolding first_records refused_number flat_map
  moves zero b h e = refl
  moves (suc n) b h e = go (moves n (drop 28 b) (behind n b h)) (eqb (step_number words (take 28 b)) 0) refl e
    where
      go : (refused_number words (first_records n (drop 28 b)) ≡ 0
          → flat_map (step_bytes words) (first_records n (drop 28 b))
          ≡ flat_map state_bytes (map (λ st. (step W st).state) (map state_of (first_records n (drop 28 b)))))
          → (t : Bool) → eqb (step_number words (take 28 b)) 0 ≡ t
          → cond t (refused_number words (first_records n (drop 28 b))) (step_number words (take 28 b)) ≡ 0
          → flat_map (step_bytes words) (take 28 b ∷ first_records n (drop 28 b))
          ≡ flat_map state_bytes (map (λ st. (step W st).state) (map state_of (take 28 b ∷ first_records n (drop 28 b))))
      go rest true z k = rw (one_bytes (take 28 b) (front n b h) (eqb-true (step_number words (take 28 b)) 0 z), rest k) refl
      go rest false z k = absurd (let y = sym z ∙ eq-eqb (step_number words (take 28 b)) 0 k in let x : ◌≡◌ {A = ℕ} 0 1 = cc in omega arith)

  module _ (states : List ℕ) (w : length states % 28 ≡ 0) where
    many : 28 * ((length states + 27) / 28) ≤ length states
    many = omega arith

    pub row_number : step_all_number words states ≡ refusal W (states_of states)
    unfolding step_all_number records_of states_of
    row_number = numbers ((length states + 27) / 28) states many

    pub row_moved : step_all_number words states ≡ 0 → step_all_bytes words states ≡ flat_map state_bytes (step_all W (states_of states))
    unfolding step_all_number step_all_bytes records_of states_of step_all
    row_moved e =
        let z = sym (numbers ((length states + 27) / 28) states many) ∙ e in
        rw (eq-eqb (refused_number words (first_records ((length states + 27) / 28) states)) 0 e, eq-eqb (refusal W (map state_of (first_records ((length states + 27) / 28) states))) 0 z)
        (moves ((length states + 27) / 28) states many e)

    pub row_stays : step_all_number words states ≢ 0 → step_all_bytes words states ≡ states
    unfolding step_all_bytes
    row_stays h = rw (ne_eqb (step_all_number words states) 0 h) refl

-- ---- a step

module _ (b words states : List ℕ) where
  abbrev m : Mode
  m = mode_of b states

  -- before any record is tried
  pub step_none : is_block b && runs b states ≡ false
      → (27 ≡ modes_step_number b words states) × ((states ≡ modes_step_states b words states) × (b ≡ modes_step_block b words states))
  unfolding modes_step_number modes_step_states modes_step_block
  step_none e = (rw e refl, (rw e refl, rw e refl))

  pub no_block : length b ≢ 172 → is_block b && runs b states ≡ false
  unfolding is_block
  no_block h = rw (ne_eqb (length b) 172 h) refl

  pub no_run : length b ≡ 172 → runs b states ≡ false → is_block b && runs b states ≡ false
  unfolding is_block
  no_run n e = rw (eq-eqb (length b) 172 n, e) refl

  module _ (n : length b ≡ 172) (k : runs b states ≡ true) where
    row_long : length states ≡ 28 * lane_count (plan (plans_of b) (word_at b 0))
    unfolding runs has_row
    row_long = eqb-true _ _ (and_true (held (plans_of b) (word_at b 0)) _ k).1

    some_lane : 1 ≤ lane_count (plan (plans_of b) (word_at b 0))
    unfolding lane_count runs
    some_lane = let c = held_core (plans_of b) (word_at b 0) (and_true (held (plans_of b) (word_at b 0)) (has_row (plan (plans_of b) (word_at b 0)) states) k).0 in omega arith

    pub row_whole : (28 ≤ length states) × (length states % 28 ≡ 0)
    row_whole = (omega (arith, row_long, some_lane), omega (arith, row_long))

    both : is_block b && runs b states ≡ true
    unfolding is_block
    both = rw (eq-eqb (length b) 172 n, k) refl

    number_is : modes_step_number b words states ≡ refusal (words_of words) (taken (plans_of b) (words_of words) m).row
    unfolding modes_step_number
    number_is = rw both refl

    -- whether tick 0 is next is read off the first record
    pub due_is : takes b words states ≡ ltb (word_at b 4) places && eqb (word_at states 8) 0
    unfolding takes due mode_of state_of word_at
    due_is =
        let w = row_whole.0 in
        rw (states_cons states (omega arith), get_or-take 28 states 8 0 (omega arith), get_or-take 28 states 9 0 (omega arith), get_or-take 28 states 10 0 (omega arith), get_or-take 28 states 11 0 (omega arith)) refl

    stepped_row : (stepped (plans_of b) (words_of words) m).row ≡ step_all (words_of words) (taken (plans_of b) (words_of words) m).row
    unfolding stepped
    stepped_row = refl

    -- no request is due
    module _ (d : takes b words states ≡ false) where
      row_stays_put : (taken (plans_of b) (words_of words) m).row ≡ states_of states
      unfolding takes taken mode_of
      row_stays_put = rw d refl

      plain_number : step_all_number words states ≡ modes_step_number b words states
      plain_number = row_number words states row_whole.1 ∙ sym (number_is ∙ ap (refusal (words_of words)) row_stays_put)

      pub step_plain : (step_all_number words states ≡ modes_step_number b words states) × (step_all_bytes words states ≡ modes_step_states b words states)
          × (b ≡ modes_step_block b words states)
      step_plain = (plain_number, go (eqb (modes_step_number b words states) 0) refl, block (eqb (modes_step_number b words states) 0) refl)
        where
          go : (t : Bool) → eqb (modes_step_number b words states) 0 ≡ t → step_all_bytes words states ≡ modes_step_states b words states
          go true e =
              unfold modes_step_states in
              (row_moved words states row_whole.1 (plain_number ∙ eqb-true _ 0 e) ∙ sym (ap (flat_map state_bytes) (stepped_row ∙ ap (step_all (words_of words)) row_stays_put)) ∙ (rw e refl))
          go false e =
              unfold modes_step_states in
              (row_stays words states row_whole.1 (λ z. absurd (let y = sym e ∙ eq-eqb (modes_step_number b words states) 0 (sym plain_number ∙ z) in let x : ◌≡◌ {A = ℕ} 0 1 = cc in omega arith)) ∙ (rw e refl))

          block : (t : Bool) → eqb (modes_step_number b words states) 0 ≡ t → b ≡ modes_step_block b words states
          block true e = unfold modes_step_block in (rw (e, d) refl)
          block false e = unfold modes_step_block in (rw e refl)

    -- a request is due
    module _ (d : takes b words states ≡ true) where
      abbrev row : List LaneState
      row = placed (words_of words) (plan (plans_of b) (word_at b 4)).first (states_of states)

      row_turned : (taken (plans_of b) (words_of words) m).row ≡ row
      unfolding takes taken mode_of
      row_turned = rw d refl

      pub turn_number : refusal (words_of words) row ≡ modes_step_number b words states
      turn_number = sym (number_is ∙ ap (refusal (words_of words)) row_turned)

      pub turn_refused : modes_step_number b words states ≢ 0 → (states ≡ modes_step_states b words states) × (b ≡ modes_step_block b words states)
      unfolding modes_step_states modes_step_block
      turn_refused h = (rw (ne_eqb (modes_step_number b words states) 0 h) refl, rw (ne_eqb (modes_step_number b words states) 0 h) refl)

      pub turn_done : modes_step_number b words states ≡ 0
          → (flat_map state_bytes (step_all (words_of words) row) ≡ modes_step_states b words states)
          × (stored b 0 (word_at b 4 ∷ places ∷ []) ≡ modes_step_block b words states)
      unfolding modes_step_states modes_step_block
      turn_done e = (
        sym (ap (flat_map state_bytes) (stepped_row ∙ ap (step_all (words_of words)) row_turned)) ∙ (rw (eq-eqb (modes_step_number b words states) 0 e) refl),
        rw (eq-eqb (modes_step_number b words states) 0 e, d) refl,
      )
