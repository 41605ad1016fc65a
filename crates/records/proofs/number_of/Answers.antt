use mathlib.Core.Path.{ap, ◌∙◌}
use Rattle.plan.specs.Dispatch.{step}
use Rattle.plan.specs.Boundary.{words_of}
use Rattle.plan.specs.declared.LaneState.{LaneState}
use Rattle.records.proofs.Records.{whole_number}
use Rattle.records.proofs.number_of.Goals as goal

pub returns : goal.returns
returns c = let w = c.args.words.now in c.number_for.ensures ∙ ap (λ (x : LaneState). (step (words_of w) x).number) c.state_of.ensures ∙ whole_number w c.args.bytes.now c.requires
