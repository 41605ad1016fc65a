use mathlib.Core.Path.{ap, ◌∙◌}
use Rattle.plan.specs.Boundary.{answer_number, check_number}
use Rattle.packing.proofs.Answers.{answer_small}
use Rattle.reaperdecade.proofs.rd_check.Goals as goal

pub packed-requires : goal.packed-requires
packed-requires c = rw c.check.ensures (answer_small c.args.image.now)

pub returns : goal.returns
unfolding check_number
returns c = c.packed.ensures ∙ ap answer_number c.check.ensures
