-- The tables of all lanes, one after another, in lent bytes.
use Rattle.std.specs.Prelude.{ℕ, ◌*◌, ◌/◌, ◌^◌, ◌<◌, ◌≡◌, cond, length, take, drop, leb, eqb}
use mathlib.Core.List.{List, ◌∷◌, ◌++◌, [], flat_map}
use Rattle.plan.specs.declared.Answer.{Answer}
use Rattle.plan.specs.Questions.{whole, questions, answer_to}
use Rattle.plan.specs.Dispatch.{lanes, table_of, tables_below, first_word, starts_at}
use Rattle.plan.specs.Runs.{Ready}
use Rattle.plan.specs.Boundary.{bytes_of, words_of, answer_number}

module _ (image : List ℕ) where
  -- those of all lanes
  unfoldable pub all_tables : List ℕ
  all_tables = tables_below image (lanes image)

  -- building all of them: the check's questions, then 26 of them together
  unfoldable pub all_answer : List ℕ → Answer
  all_answer b = answer_to (questions image ++ whole 26 (leb (length all_tables) (length b / 4)) ∷ [])

  unfoldable pub all_number : List ℕ → ℕ
  all_number b = answer_number (all_answer b)

  -- the bytes afterwards; later bytes stay as they were, and all of them after a refusal
  unfoldable pub all_bytes : List ℕ → List ℕ
  all_bytes b = cond (eqb (all_answer b).number 0) (flat_map (bytes_of 4) all_tables ++ drop (4 * length all_tables) b) b

  pub record BuiltAll (b : List ℕ) (r : Answer) (after : List ℕ) : Type 0 where
    pub answer : r ≡ all_answer b
    pub left : after ≡ all_bytes b

-- after a build of all that gives 0, the bytes read as words hold each lane's table at its first word; proved in proofs/Reading.antt
abbrev pub AllLie : Type 0
AllLie =
    (image b : List ℕ) (lane : ℕ) → (all_answer image b).number ≡ 0 → lane < lanes image
    → take (length (table_of image lane)) (drop (first_word image lane) (words_of (all_bytes image b))) ≡ table_of image lane

-- so these words and the starts of all lanes are ready for a run (specs/Runs.antt of plan); proved there too
abbrev pub AllReady : Type 0
AllReady =
    (image b : List ℕ) (c : ℕ) → c < 2 ^ 64 → (all_answer image b).number ≡ 0
    → Ready image (words_of (all_bytes image b)) (starts_at (first_word image) c (lanes image)) c
