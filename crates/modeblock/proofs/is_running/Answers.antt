use mathlib.Core.Path.{refl, sym, ap, ◌∙◌}
use native.Mathlib.Omega.{arith}
use Rattle.modes.specs.Modes.{lane_count, held}
use Rattle.modeblock.specs.Blocks.{has_row, plans_of, runs}
use Rattle.modeblock.proofs.Blocks.{held_place}
use Rattle.modeblock.proofs.is_running.Goals as goal

pub returns-then-not-is_held : goal.returns-then-not-is_held
unfolding runs
returns-then-not-is_held c = let a = c.args in let v = a.block.now in let k = sym (c.is_held.ensures ∙ ap (held (plans_of v)) c.word-running.ensures) ∙ c.if-not-is_held.true in rw k refl

pub plan_at-requires : goal.plan_at-requires
plan_at-requires c = let a = c.args in let v = a.block.now in (c.requires, held_place (plans_of v) _ (sym c.is_held.ensures ∙ c.if-not-is_held.false))

pub overflow_mul-result : goal.overflow_mul-result
unfolding lane_count
overflow_mul-result c = omega (arith, c.lane_count.ensures)

pub returns : goal.returns
unfolding runs has_row
returns c = let a = c.args in let v = a.block.now in let w = c.word-running.ensures in let k = sym (c.is_held.ensures ∙ ap (held (plans_of v)) w) ∙ c.if-not-is_held.false in rw (k, c.lane_count.ensures, c.plan_at.ensures, w) refl
