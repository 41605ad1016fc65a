-- A start, a request and holding a plan over bytes, by their answers.
use Prim.Native.Nat.{ℕ, ◌+◌, ◌*◌, ◌/◌, ◌%◌, ◌≤◌, ◌<◌}
use Rattle.std.proofs.Common.{Option, Some, None, Err}
use mathlib.Core.Path.{◌≡◌, refl, sym, ap, ◌∙◌}
use mathlib.Core.Logic.{◌≢◌}
use mathlib.Core.Bool.{Bool, true, false, ◌&&◌, cond}
use mathlib.Core.List.{List, ◌∷◌, [], flat_map}
use native.Mathlib.Omega.{arith}
use lib.Dec.{ltb, eqb}
use lib.ListN.{length}
use borrow.Author.Tests.{eqb-true, eq-eqb, ne_eqb, lt-ltb, le-ltb}
use Rattle.plan.specs.declared.Answer.{Answer}
use Rattle.plan.specs.Image.{word_at}
use Rattle.plan.specs.Questions.{answer_of, accepted, questions, answer_to, whole}
use Rattle.plan.specs.Dispatch.{starts_at}
use Rattle.plan.specs.Boundary.{words_of, state_bytes}
use Rattle.plan.proofs.Asking.{then_asked, stopped_first}
use Rattle.plan.proofs.Numbers.{real}
use Rattle.plan.proofs.Searching.{and_true}
use Rattle.asking.specs.Asking.{verdict}
use Rattle.questions.proofs.Verdict.{ask_refuses, ask_numbers}
use Rattle.lanes.proofs.Building.{asked, whole_yes, whole_no}
use Rattle.writing.specs.Stored.{stored}
use Rattle.writing.specs.AllTables.{all_tables}
use Rattle.modes.specs.Modes.{places, held_of, lane_count, plan, held, alike, table_from, table_at, started, request_number, words_end, hold_answer}
use Rattle.modeblock.proofs.Blocks.{suffices}
use Rattle.modeblock.specs.Blocks.{is_block, held_words, has_row, has_room, plans_of, used_of, mode_of, shift_of, modes_hold_answer, modes_hold_words, modes_hold_block, modes_start_number, modes_start_states, modes_start_block, modes_request_number, modes_request_block}

pub block_no : (b : List ℕ) → length b ≢ 172 → is_block b ≡ false
unfolding is_block
block_no b h = ne_eqb (length b) 172 h

pub block_yes : (b : List ℕ) → length b ≡ 172 → is_block b ≡ true
unfolding is_block
block_yes b h = eq-eqb (length b) 172 h

-- ---- a start

module _ (b : List ℕ) (p c : ℕ) (words states : List ℕ) where
  abbrev number : ℕ
  number = modes_start_number b p c words states

  pub start_refused : (r : ℕ) → r ≡ number → r ≢ 0 → (r ≡ number) × ((states ≡ modes_start_states b p c words states) × (b ≡ modes_start_block b p c words states))
  unfolding modes_start_states modes_start_block
  start_refused r e h =
      let k = ne_eqb number 0 (λ z. h (e ∙ z)) in
      (e, (rw k refl, rw k refl))

  pub start_other : length b ≢ 172 → 27 ≡ number
  unfolding modes_start_number
  start_other h = rw (block_no b h) refl

  pub start_43 : length b ≡ 172 → held (plans_of b) p ≡ false → 43 ≡ number
  unfolding modes_start_number
  start_43 n e = rw (block_yes b n, e) refl

  pub start_27 : length b ≡ 172 → held (plans_of b) p ≡ true → has_room (plan (plans_of b) p) words states ≡ false → 27 ≡ number
  unfolding modes_start_number
  start_27 n e h = rw (block_yes b n, e, h) refl

  module _ (n : length b ≡ 172) (e : held (plans_of b) p ≡ true) (h : has_room (plan (plans_of b) p) words states ≡ true) where
    row_long : length states ≡ 28 * lane_count (plan (plans_of b) p)
    unfolding has_room has_row
    row_long = eqb-true _ _ (and_true (eqb (length states) (28 * lane_count (plan (plans_of b) p))) _ h).0

    pub start_whole : length states % 28 ≡ 0
    start_whole = omega (arith, row_long)

    zero : number ≡ 0
    unfolding modes_start_number
    zero = rw (block_yes b n, e, h) refl

    pub start_done : (0 ≡ number)
        × ((flat_map state_bytes (starts_at (table_from (words_of words) (plan (plans_of b) p).first) c (length states / 28)) ≡ modes_start_states b p c words states)
        × (stored b 0 (p ∷ places ∷ []) ≡ modes_start_block b p c words states))
    unfolding modes_start_states modes_start_block started table_at
    start_done =
        let k = eq-eqb number 0 zero in
        let l : length states / 28 ≡ lane_count (plan (plans_of b) p) = omega (arith, row_long) in
        (sym zero, (rw (k, l) refl, rw k refl))

-- ---- a request

module _ (b : List ℕ) (p : ℕ) where
  pub request_refused : (r : ℕ) → r ≡ modes_request_number b p → r ≢ 0 → (r ≡ modes_request_number b p) × (b ≡ modes_request_block b p)
  unfolding modes_request_block
  request_refused r e h = (e, rw (ne_eqb (modes_request_number b p) 0 (λ z. h (e ∙ z))) refl)

  abbrev like : Bool
  like = held (plans_of b) (word_at b 0) && alike (plan (plans_of b) (word_at b 0)) (plan (plans_of b) p)

  pub request_other : length b ≢ 172 → 27 ≡ modes_request_number b p
  unfolding modes_request_number
  request_other h = rw (block_no b h) refl

  pub request_43 : length b ≡ 172 → held (plans_of b) p ≡ false → 43 ≡ modes_request_number b p
  unfolding modes_request_number request_number
  request_43 n e = rw (block_yes b n, e) refl

  pub request_44 : length b ≡ 172 → held (plans_of b) p ≡ true → like ≡ false → 44 ≡ modes_request_number b p
  unfolding modes_request_number request_number mode_of
  request_44 n e h = rw (block_yes b n, e, h) refl

  zero_request : length b ≡ 172 → held (plans_of b) p ≡ true → like ≡ true → 0 ≡ modes_request_number b p
  unfolding modes_request_number request_number mode_of
  zero_request n e h = rw (block_yes b n, e, h) refl

  pub request_done : length b ≡ 172 → held (plans_of b) p ≡ true → like ≡ true → (0 ≡ modes_request_number b p) × (stored b 4 (p ∷ []) ≡ modes_request_block b p)
  unfolding modes_request_block
  request_done n e h = let z = zero_request n e h in (z, rw (eq-eqb (modes_request_number b p) 0 (sym z)) refl)

-- ---- holding a plan

pub used_is : (b : List ℕ) → used_of b ≡ word_at b 8
unfolding used_of
used_is b = refl

-- an answer that asking gives is a refusal
pub asked_no : (image : List ℕ) (x : Answer) → Err x ≡ verdict (questions image) → x.number ≢ 0
asked_no image x e z = ask_numbers image x e (ap (λ (a : Answer). a.number) (ask_refuses image x e) ∙ z)

module _ (b image : List ℕ) (p : ℕ) (words : List ℕ) where
  abbrev answer : Answer
  answer = modes_hold_answer b image p words

  pub hold_refused : (r : Answer) → r ≡ answer → r.number ≢ 0 → (r ≡ answer) × ((words ≡ modes_hold_words b image p words) × (b ≡ modes_hold_block b image p words))
  unfolding modes_hold_words modes_hold_block
  hold_refused r e h =
      let k = ne_eqb answer.number 0 (λ z. h (ap (λ (x : Answer). x.number) e ∙ z)) in
      (e, (rw k refl, rw k refl))

  pub hold_other : length b ≢ 172 → record { number = 27; table = 0; row = 0 } ≡ answer
  unfolding modes_hold_answer
  hold_other h = rw (block_no b h) refl

  module _ (n : length b ≡ 172) where
    its_own : answer ≡ hold_answer (shift_of b words []) image p
    unfolding modes_hold_answer
    its_own = rw (block_yes b n) refl

    pub hold_image : (answer_of image).number ≢ 0 → answer_of image ≡ answer
    hold_image h = unfold answer_of hold_answer in (sym (stopped_first (questions image) _ h)) ∙ sym its_own

    module _ (e : answer_of image ≡ accepted) where
      asks_on : answer ≡ answer_to (whole 43 (ltb p places) ∷ whole 26 (suffices image (used_of b) words) ∷ [])
      unfolding hold_answer answer_of words_end shift_of
      asks_on = its_own ∙ then_asked (questions image) _ (real image) (ap (λ (a : Answer). a.number) e)

      pub hold_43 : places ≤ p → record { number = 43; table = 0; row = 0 } ≡ answer
      unfolding asked
      hold_43 l = sym (asks_on ∙ whole_no 43 (ltb p places) _ (le-ltb p places l))

      module _ (l : p < places) where
        asks_26 : answer ≡ answer_to (whole 26 (suffices image (used_of b) words) ∷ [])
        asks_26 = asks_on ∙ whole_yes 43 (ltb p places) _ (lt-ltb p places l)

        -- the word after the tables, if there is room
        abbrev end : Option ℕ
        end = cond (suffices image (used_of b) words) (Some (used_of b + length (all_tables image))) None

        asks_too_much : suffices image (used_of b) words ≡ false → record { number = 26; table = 0; row = 0 } ≡ answer
        unfolding asked
        asks_too_much k = sym (asks_26 ∙ whole_no 26 (suffices image (used_of b) words) [] k)

        pub hold_26 : end ≡ None → (record { number = 26; table = 0; row = 0 } ≡ answer) × (suffices image (used_of b) words ≡ false)
        hold_26 = go (suffices image (used_of b) words) refl
          where
            go : (t : Bool) → suffices image (used_of b) words ≡ t → cond t (Some (used_of b + length (all_tables image))) None ≡ None
                → (record { number = 26; table = 0; row = 0 } ≡ answer) × (suffices image (used_of b) words ≡ false)
            go true k o = absurd cc
            go false k o = (asks_too_much k, k)

        pub hold_room : (r : ℕ) → end ≡ Some r → (r ≡ used_of b + length (all_tables image)) × (suffices image (used_of b) words ≡ true)
        hold_room r = go (suffices image (used_of b) words) refl
          where
            go : (t : Bool) → suffices image (used_of b) words ≡ t → cond t (Some (used_of b + length (all_tables image))) None ≡ Some r
                → (r ≡ used_of b + length (all_tables image)) × (suffices image (used_of b) words ≡ true)
            go true k o = (cc, k)
            go false k o = absurd cc

        pub hold_done : suffices image (used_of b) words ≡ true
            → (accepted ≡ answer) × ((stored words (4 * used_of b) (all_tables image) ≡ modes_hold_words b image p words)
            × (stored (stored b 0 (places ∷ places ∷ (used_of b + length (all_tables image)) ∷ [])) (12 + 20 * p) (held_words (held_of image (used_of b)))
            ≡ modes_hold_block b image p words))
        unfolding modes_hold_words modes_hold_block words_end shift_of
        hold_done k =
            let z : answer ≡ accepted = unfold answer_to in (asks_26 ∙ whole_yes 26 (suffices image (used_of b) words) [] k) in
            (sym z, (rw z refl, rw z refl))
