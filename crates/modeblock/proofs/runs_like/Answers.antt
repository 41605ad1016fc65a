use mathlib.Core.Path.{refl, sym, ap, ◌∙◌}
use Rattle.modes.specs.Modes.{held}
use Rattle.modeblock.specs.Blocks.{plans_of}
use Rattle.modeblock.proofs.Blocks.{held_place}
use Rattle.modeblock.proofs.runs_like.Goals as goal

pub returns-then-not-is_held : goal.returns-then-not-is_held
returns-then-not-is_held c = let a = c.args in let v = a.block.now in let k = sym (c.is_held.ensures ∙ ap (held (plans_of v)) c.word-running.ensures) ∙ c.if-not-is_held.true in rw k refl

pub plan_at-requires : goal.plan_at-requires
plan_at-requires c = let a = c.args in let v = a.block.now in (c.requires.0, held_place (plans_of v) _ (sym c.is_held.ensures ∙ c.if-not-is_held.false))

pub returns : goal.returns
returns c = let a = c.args in let v = a.block.now in let w = c.word-running.ensures in let k = sym (c.is_held.ensures ∙ ap (held (plans_of v)) w) ∙ c.if-not-is_held.false in rw (k, c.alike.ensures, c.plan_at-2.ensures, c.plan_at.ensures, w) refl
