use mathlib.Core.Path.{ap, ◌∙◌}
use Rattle.plan.specs.declared.LaneState.{LaneState}
use Rattle.plan.specs.Dispatch.{step}
use Rattle.plan.specs.Boundary.{words_of, state_bytes}
use Rattle.modes.specs.Modes.{at_table}
use Rattle.turns.proofs.move_there.Goals as goal

pub moved-next-requires : goal.moved-next-requires
moved-next-requires c = let w = words_of c.args.words.now in ap (λ (x : LaneState). (step w x).number) (c.at_table.ensures ∙ ap (at_table c.args.at) c.state_of.ensures) ∙ c.requires.1

pub returns : goal.returns
returns c = let w = words_of c.args.words.now in c.put_state.ensures ∙ ap state_bytes (c.moved-next.ensures ∙ ap (λ (x : LaneState). (step w x).state) (c.at_table.ensures ∙ ap (at_table c.args.at) c.state_of.ensures))
