use mathlib.Core.Path.{ap, ◌∙◌}
use Rattle.plan.specs.declared.LaneState.{LaneState}
use Rattle.plan.specs.Dispatch.{step}
use Rattle.plan.specs.Boundary.{words_of}
use Rattle.modes.specs.Modes.{at_table}
use Rattle.turns.proofs.number_there.Goals as goal

pub returns : goal.returns
returns c = let w = words_of c.args.words.now in c.number_for.ensures ∙ ap (λ (x : LaneState). (step w x).number) (c.at_table.ensures ∙ ap (at_table c.args.at) c.state_of.ensures)
