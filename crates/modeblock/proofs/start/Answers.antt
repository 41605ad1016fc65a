use Prim.Native.Nat.{◌/◌}
use mathlib.Core.Path.{sym, ap, ◌∙◌}
use mathlib.Core.List.{flat_map}
use native.Mathlib.Omega.{arith}
use lib.ListN.{length}
use Rattle.plan.specs.Dispatch.{starts_at}
use Rattle.plan.specs.Boundary.{words_of, state_bytes}
use Rattle.modes.specs.declared.HeldPlan.{HeldPlan}
use Rattle.modes.specs.Modes.{table_from}
use Rattle.modeblock.specs.Blocks.{has_room, plans_of}
use Rattle.modeblock.proofs.Blocks.{held_place}
use Rattle.modeblock.proofs.Answers.{start_refused, start_other, start_43, start_27, start_whole, start_done}
use Rattle.modeblock.proofs.start.Goals as goal

pub returns-then-block-ne-BLOCK : goal.returns-then-block-ne-BLOCK
returns-then-block-ne-BLOCK c = let a = c.args in let v = a.block.now in let w = a.words.now in let r = a.states.now in let both = start_refused v a.place a.cycle w r 27 (start_other v a.place a.cycle w r c.if-block-ne-BLOCK.true) (λ z. absurd (omega arith)) in record { value = both.0; states_after = both.1.0; block_after = both.1.1 }

pub returns-then-not-is_held : goal.returns-then-not-is_held
returns-then-not-is_held c = let a = c.args in let v = a.block.now in let w = a.words.now in let r = a.states.now in let both = start_refused v a.place a.cycle w r 43 (start_43 v a.place a.cycle w r c.if-block-ne-BLOCK.false (sym c.is_held.ensures ∙ c.if-not-is_held.true)) (λ z. absurd (omega arith)) in record { value = both.0; states_after = both.1.0; block_after = both.1.1 }

pub plan_at-plan-requires : goal.plan_at-plan-requires
plan_at-plan-requires c = let a = c.args in let v = a.block.now in let w = a.words.now in let r = a.states.now in (c.if-block-ne-BLOCK.false, held_place (plans_of v) a.place (sym c.is_held.ensures ∙ c.if-not-is_held.false))

pub returns-then-not-has_room : goal.returns-then-not-has_room
returns-then-not-has_room c = let a = c.args in let v = a.block.now in let w = a.words.now in let r = a.states.now in let both = start_refused v a.place a.cycle w r 27 (start_27 v a.place a.cycle w r c.if-block-ne-BLOCK.false (sym c.is_held.ensures ∙ c.if-not-is_held.false) (ap (λ (x : HeldPlan). has_room x w r) (sym c.plan_at-plan.ensures) ∙ sym c.has_room.ensures ∙ c.if-not-has_room.true)) (λ z. absurd (omega arith)) in record { value = both.0; states_after = both.1.0; block_after = both.1.1 }

pub start_all-requires : goal.start_all-requires
start_all-requires c = let a = c.args in let v = a.block.now in let w = a.words.now in let r = a.states.now in start_whole v a.place a.cycle w r c.if-block-ne-BLOCK.false (sym c.is_held.ensures ∙ c.if-not-is_held.false) (ap (λ (x : HeldPlan). has_room x w r) (sym c.plan_at-plan.ensures) ∙ sym c.has_room.ensures ∙ c.if-not-has_room.false)

pub returns : goal.returns
returns c = let a = c.args in let v = a.block.now in let w = a.words.now in let r = a.states.now in let e = c.plan_at-plan.ensures in let d = start_done v a.place a.cycle w r c.if-block-ne-BLOCK.false (sym c.is_held.ensures ∙ c.if-not-is_held.false) (ap (λ (x : HeldPlan). has_room x w r) (sym e) ∙ sym c.has_room.ensures ∙ c.if-not-has_room.false) in record { value = d.0; states_after = c.start_all.ensures ∙ ap (λ (x : HeldPlan). flat_map state_bytes (starts_at (table_from (words_of w) x.first) a.cycle (length r / 28))) e ∙ d.1.0; block_after = c.put_places.ensures ∙ d.1.1 }
