use mathlib.Core.Path.{ap, ◌∙◌}
use Rattle.plan.specs.Dispatch.{step}
use Rattle.plan.specs.Boundary.{words_of, state_bytes}
use Rattle.plan.specs.declared.LaneState.{LaneState}
use Rattle.records.proofs.Records.{whole_number, moved_bytes}
use Rattle.records.proofs.move_record.Goals as goal

pub moved-next-requires : goal.moved-next-requires
moved-next-requires c = let w = c.args.words.now in ap (λ (x : LaneState). (step (words_of w) x).number) c.state_of.ensures ∙ whole_number w c.args.bytes.now c.requires.0 ∙ c.requires.1

pub returns : goal.returns
returns c = let w = c.args.words.now in c.put_state.ensures ∙ ap state_bytes (c.moved-next.ensures ∙ ap (λ (x : LaneState). (step (words_of w) x).state) c.state_of.ensures) ∙ moved_bytes w c.args.bytes.now c.requires.1
