use mathlib.Core.Path.{ap, ◌∙◌}
use Rattle.modes.specs.Modes.{is_plan}
use Rattle.modeblock.specs.Blocks.{plans_of}
use Rattle.modeblock.proofs.Blocks.{held_in, held_out}
use Rattle.modeblock.proofs.is_held.Goals as goal

pub returns-then-place-lt-PLACES : goal.returns-then-place-lt-PLACES
returns-then-place-lt-PLACES c = c.is_plan.ensures ∙ ap is_plan c.plan_at.ensures ∙ held_in (plans_of c.args.block.now) c.args.place c.if-place-lt-PLACES.true

pub returns : goal.returns
returns c = held_out (plans_of c.args.block.now) c.args.place c.if-place-lt-PLACES.false
