-- The answers to a build of all tables, to a gate list, to holding a plan and to a join are small as well.
use Prim.Native.Nat.{ℕ}
use mathlib.Core.Bool.{Bool, true, false, cond}
use mathlib.Core.List.{List, []}
use native.Mathlib.Omega.{arith}
use Rattle.plan.specs.Questions.{whole, questions}
use Rattle.gates.specs.Gates.{gate_answer}
use Rattle.modes.specs.Modes.{hold_answer}
use Rattle.modeblock.specs.Blocks.{is_block, shift_of, modes_hold_answer}
use Rattle.joins.specs.Joins.{joined_image, input_questions, join_answer}
use Rattle.writing.specs.AllTables.{all_answer}
use Rattle.packing.proofs.Answers.{Narrow, Small, narrow_append, questions_narrow, narrow_answer}

pub all_small : (s b : List ℕ) → Small (all_answer s b)
unfolding all_answer whole
all_small s b = narrow_answer _ (narrow_append (questions s) _ (questions_narrow s) (omega arith))

pub gates_small : (s : List ℕ) (l : ℕ) (words : List ℕ) → Small (gate_answer s l words)
unfolding gate_answer whole
gates_small s l words = narrow_answer _ (narrow_append (questions s) _ (questions_narrow s) (omega arith))

pub hold_small : (b image : List ℕ) (p : ℕ) (words : List ℕ) → Small (modes_hold_answer b image p words)
unfolding modes_hold_answer hold_answer whole
hold_small b image p words = go (is_block b)
  where
    go : (t : Bool) → Small (cond t (hold_answer (shift_of b words []) image p) (record { number = 27; table = 0; row = 0 }))
    go true = narrow_answer _ (narrow_append (questions image) _ (questions_narrow image) (omega arith, (omega arith, tt)))
    go false = (omega arith, omega arith)

input_narrow : (a b : List ℕ) (s n : ℕ) → Narrow (input_questions a b s n)
unfolding input_questions whole
input_narrow a b s n = narrow_append (questions a) _ (questions_narrow a) (narrow_append (questions b) _ (questions_narrow b) (omega arith))

pub join_small : (a b : List ℕ) (s n : ℕ) → Small (join_answer a b s n)
unfolding join_answer
join_small a b s n =
    narrow_answer _ (narrow_append (input_questions a b s n) (questions (joined_image a b s)) (input_narrow a b s n) (questions_narrow (joined_image a b s)))
