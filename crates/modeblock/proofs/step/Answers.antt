use Prim.Native.Nat.{ℕ}
use mathlib.Core.Path.{sym, ap, ◌∙◌}
use mathlib.Core.Bool.{◌&&◌}
use mathlib.Core.List.{◌∷◌, [], flat_map}
use lib.Dec.{ltb, eqb}
use borrow.Author.Tests.{ltb-true, ne_eqb}
use Rattle.plan.specs.Image.{word_at}
use Rattle.plan.specs.Dispatch.{refusal, step_all}
use Rattle.plan.specs.Boundary.{words_of, state_bytes}
use Rattle.plan.proofs.Searching.{and_true}
use Rattle.writing.specs.Stored.{stored}
use Rattle.modes.specs.declared.HeldPlan.{HeldPlan}
use Rattle.modes.specs.Modes.{places, plan, placed}
use Rattle.turns.specs.Turns.{states_of}
use Rattle.modeblock.specs.Blocks.{plans_of}
use Rattle.modeblock.proofs.Stepping.{step_none, no_block, no_run, row_whole, due_is, step_plain, turn_number, turn_refused, turn_done}
use Rattle.modeblock.proofs.step.Goals as goal

pub returns-then-block-ne-BLOCK : goal.returns-then-block-ne-BLOCK
returns-then-block-ne-BLOCK c = let a = c.args in let v = a.block.now in let w = a.words.now in let r = a.states.now in let both = step_none v w r (no_block v w r c.if-block-ne-BLOCK.true) in record { value = both.0; states_after = both.1.0; block_after = both.1.1 }

pub returns-then-not-is_running : goal.returns-then-not-is_running
returns-then-not-is_running c = let a = c.args in let v = a.block.now in let w = a.words.now in let r = a.states.now in let both = step_none v w r (no_run v w r c.if-block-ne-BLOCK.false (sym c.is_running.ensures ∙ c.if-not-is_running.true)) in record { value = both.0; states_after = both.1.0; block_after = both.1.1 }

pub is_due-requires : goal.is_due-requires
is_due-requires c = let a = c.args in let v = a.block.now in let w = a.words.now in let r = a.states.now in (row_whole v w r c.if-block-ne-BLOCK.false (sym c.is_running.ensures ∙ c.if-not-is_running.false)).0

pub returns-then-not-is_due : goal.returns-then-not-is_due
returns-then-not-is_due c = let a = c.args in let v = a.block.now in let w = a.words.now in let r = a.states.now in let d = step_plain v w r c.if-block-ne-BLOCK.false (sym c.is_running.ensures ∙ c.if-not-is_running.false) (due_is v w r c.if-block-ne-BLOCK.false (sym c.is_running.ensures ∙ c.if-not-is_running.false) ∙ ap (λ (x : ℕ). ltb x places && eqb (word_at r 8) 0) (sym c.word-wanted.ensures) ∙ sym c.is_due.ensures ∙ c.if-not-is_due.true) in let e = c.step_all.ensures in record { value = e.0 ∙ d.0; states_after = e.1 ∙ d.1; block_after = d.2 }

pub plan_at-first-requires : goal.plan_at-first-requires
plan_at-first-requires c = let a = c.args in let v = a.block.now in let w = a.words.now in let r = a.states.now in (c.if-block-ne-BLOCK.false, ltb-true _ places (and_true _ _ (sym c.is_due.ensures ∙ c.if-not-is_due.false)).0)

pub turn_all-number-requires : goal.turn_all-number-requires
turn_all-number-requires c = let a = c.args in let v = a.block.now in let w = a.words.now in let r = a.states.now in (row_whole v w r c.if-block-ne-BLOCK.false (sym c.is_running.ensures ∙ c.if-not-is_running.false)).1

pub returns-then-number-ne0 : goal.returns-then-number-ne0
returns-then-number-ne0 c = let a = c.args in let v = a.block.now in let w = a.words.now in let r = a.states.now in let k = (due_is v w r c.if-block-ne-BLOCK.false (sym c.is_running.ensures ∙ c.if-not-is_running.false) ∙ ap (λ (x : ℕ). ltb x places && eqb (word_at r 8) 0) (sym c.word-wanted.ensures) ∙ sym c.is_due.ensures ∙ c.if-not-is_due.false) in let t = c.turn_all-number.ensures in let f = c.plan_at-first.ensures ∙ ap (plan (plans_of v)) c.word-wanted.ensures in let n = t.value ∙ ap (λ (x : HeldPlan). refusal (words_of w) (placed (words_of w) x.first (states_of r))) f ∙ turn_number v w r c.if-block-ne-BLOCK.false (sym c.is_running.ensures ∙ c.if-not-is_running.false) k in let d = turn_refused v w r c.if-block-ne-BLOCK.false (sym c.is_running.ensures ∙ c.if-not-is_running.false) k (λ z. c.if-number-ne0.true (n ∙ z)) in record { value = n; states_after = t.states_after ∙ (rw (ne_eqb _ 0 c.if-number-ne0.true) d.0); block_after = d.1 }

pub returns : goal.returns
returns c = let a = c.args in let v = a.block.now in let w = a.words.now in let r = a.states.now in let k = (due_is v w r c.if-block-ne-BLOCK.false (sym c.is_running.ensures ∙ c.if-not-is_running.false) ∙ ap (λ (x : ℕ). ltb x places && eqb (word_at r 8) 0) (sym c.word-wanted.ensures) ∙ sym c.is_due.ensures ∙ c.if-not-is_due.false) in let t = c.turn_all-number.ensures in let o = c.word-wanted.ensures in let f = c.plan_at-first.ensures ∙ ap (plan (plans_of v)) o in let n = t.value ∙ ap (λ (x : HeldPlan). refusal (words_of w) (placed (words_of w) x.first (states_of r))) f ∙ turn_number v w r c.if-block-ne-BLOCK.false (sym c.is_running.ensures ∙ c.if-not-is_running.false) k in let z = c.if-number-ne0.false in let d = turn_done v w r c.if-block-ne-BLOCK.false (sym c.is_running.ensures ∙ c.if-not-is_running.false) k (sym n ∙ z) in record { value = sym z ∙ n; states_after = t.states_after ∙ (rw z (ap (λ (x : HeldPlan). flat_map state_bytes (step_all (words_of w) (placed (words_of w) x.first (states_of r)))) f ∙ d.0)); block_after = c.put_places.ensures ∙ ap (λ (x : ℕ). stored v 0 (x ∷ places ∷ [])) o ∙ d.1 }
