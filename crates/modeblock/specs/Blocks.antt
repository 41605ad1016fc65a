-- Modes in the load tool's bytes (paper 02, request 14): the block that keeps the places, and what each call through C gives and leaves in
-- every byte that it is lent. A block of another length gives 27 and stays as it was.
use Rattle.std.specs.Prelude.{ℕ, zero, suc, ◌+◌, ◌*◌, Bool, ◌&&◌, cond, length, replicate, leb, eqb}
use mathlib.Core.List.{List, ◌∷◌, ◌++◌, [], flat_map}
use Rattle.plan.specs.declared.Answer.{Answer}
use Rattle.plan.specs.Image.{word_at}
use Rattle.plan.specs.Boundary.{words_of, bytes_of, state_bytes, answer_number}
use Rattle.plan.specs.Dispatch.{refusal}
use Rattle.writing.specs.Stored.{stored}
use Rattle.writing.specs.AllTables.{all_tables}
use Rattle.modes.specs.declared.HeldPlan.{HeldPlan}
use Rattle.modes.specs.Modes.{places, held_of, lane_count, plan, held, Mode, Shift, words_end, hold_answer, started, request_number, due, taken, stepped}
use Rattle.turns.specs.Turns.{states_of}

-- running place, requested place, words taken so far, and five words for each of eight places
unfoldable pub is_block : List ℕ → Bool
is_block b = eqb (length b) 172

-- what is kept of a plan, as its words
unfoldable pub held_words : HeldPlan → List ℕ
held_words h = h.ticks ∷ h.cores ∷ h.links ∷ h.first ∷ h.end ∷ []

-- a row of states has one record for each lane of a plan; and the words do not end before its tables do
unfoldable pub has_row : HeldPlan → List ℕ → Bool
has_row h states = eqb (length states) (28 * lane_count h)

unfoldable pub has_room : HeldPlan → List ℕ → List ℕ → Bool
has_room h words states = has_row h states && leb h.end (length (words_of words))

-- ---- what a block's bytes stand for

module _ (b : List ℕ) where
  unfoldable pub held_at : ℕ → HeldPlan
  held_at p =
      record {
        ticks = word_at b (12 + 20 * p);
        cores = word_at b (16 + 20 * p);
        links = word_at b (20 + 20 * p);
        first = word_at b (24 + 20 * p);
        end = word_at b (28 + 20 * p);
      }

  unfoldable pub plans_below : ℕ → List HeldPlan
  plans_below zero = []
  plans_below (suc n) = plans_below n ++ held_at n ∷ []

  unfoldable pub plans_of : List HeldPlan
  plans_of = plans_below places

  unfoldable pub used_of : ℕ
  used_of = word_at b 8

  -- with the bytes of a row of states, and those of the words
  unfoldable pub mode_of : List ℕ → Mode
  mode_of states = record { running = word_at b 0; wanted = word_at b 4; row = states_of states }

  unfoldable pub shift_of : List ℕ → List ℕ → Shift
  shift_of words states = record { plans = plans_of; used = used_of; words = words_of words; mode = mode_of states }

  -- ---- a fresh block

  unfoldable pub modes_fresh_number : ℕ
  modes_fresh_number = cond (is_block b) 0 27

  unfoldable pub modes_fresh_block : List ℕ
  modes_fresh_block = cond (is_block b) (flat_map (bytes_of 4) (places ∷ places ∷ replicate 41 0)) b

  -- ---- holding an image at a place

  module _ (image : List ℕ) (p : ℕ) (words : List ℕ) where
    unfoldable pub modes_hold_answer : Answer
    modes_hold_answer = cond (is_block b) (hold_answer (shift_of words []) image p) (record { number = 27; table = 0; row = 0 })

    unfoldable pub modes_hold_number : ℕ
    modes_hold_number = answer_number modes_hold_answer

    unfoldable pub modes_hold_words : List ℕ
    modes_hold_words = cond (eqb modes_hold_answer.number 0) (stored words (4 * used_of) (all_tables image)) words

    unfoldable pub modes_hold_block : List ℕ
    modes_hold_block =
        cond (eqb modes_hold_answer.number 0)
        (stored (stored b 0 (places ∷ places ∷ words_end (shift_of words []) image p ∷ [])) (12 + 20 * p) (held_words (held_of image used_of))) b

  -- ---- a start

  module _ (p c : ℕ) (words states : List ℕ) where
    unfoldable pub modes_start_number : ℕ
    modes_start_number = cond (is_block b) (cond (held plans_of p) (cond (has_room (plan plans_of p) words states) 0 27) 43) 27

    unfoldable pub modes_start_states : List ℕ
    modes_start_states = cond (eqb modes_start_number 0) (flat_map state_bytes (started plans_of (words_of words) p c).row) states

    unfoldable pub modes_start_block : List ℕ
    modes_start_block = cond (eqb modes_start_number 0) (stored b 0 (p ∷ places ∷ [])) b

  -- ---- a request, which needs neither words nor states

  unfoldable pub modes_request_number : ℕ → ℕ
  modes_request_number p = cond (is_block b) (request_number plans_of [] (mode_of []) p) 27

  unfoldable pub modes_request_block : ℕ → List ℕ
  modes_request_block p = cond (eqb (modes_request_number p) 0) (stored b 4 (p ∷ [])) b

  -- ---- a step of all lanes

  -- a plan runs, and the row has one record for each of its lanes
  unfoldable pub runs : List ℕ → Bool
  runs states = held plans_of (word_at b 0) && has_row (plan plans_of (word_at b 0)) states

  module _ (words states : List ℕ) where
    -- a request is taken by a step that gives 0
    unfoldable pub takes : Bool
    takes = due plans_of (words_of words) (mode_of states)

    unfoldable pub modes_step_number : ℕ
    modes_step_number = cond (is_block b && runs states) (refusal (words_of words) (taken plans_of (words_of words) (mode_of states)).row) 27

    unfoldable pub modes_step_states : List ℕ
    modes_step_states = cond (eqb modes_step_number 0) (flat_map state_bytes (stepped plans_of (words_of words) (mode_of states)).row) states

    unfoldable pub modes_step_block : List ℕ
    modes_step_block = cond (eqb modes_step_number 0 && takes) (stored b 0 (word_at b 4 ∷ places ∷ [])) b

-- All of the above, for a proof by computation: `unfolding blocks` opens it.
unfoldable pub blocks : Unit {0}
unfolding is_block held_words has_row has_room held_at plans_below plans_of used_of mode_of shift_of modes_fresh_number modes_fresh_block modes_hold_answer modes_hold_number modes_hold_words
    modes_hold_block modes_start_number modes_start_states modes_start_block modes_request_number modes_request_block runs takes modes_step_number modes_step_states modes_step_block
blocks = tt
