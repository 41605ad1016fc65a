use mathlib.Core.Path.{ap, ◌∙◌}
use Rattle.plan.specs.Boundary.{answer_number}
use Rattle.writing.specs.AllTables.{all_number}
use Rattle.reaperdecade.proofs.Answers.{all_small}
use Rattle.reaperdecade.proofs.rd_build_all.Goals as goal

pub packed-requires : goal.packed-requires
packed-requires c = let a = c.args in rw c.build_all.ensures.answer (all_small a.image.now a.words.now)

pub returns : goal.returns
unfolding all_number
returns c = let e = c.build_all.ensures in (c.packed.ensures ∙ ap answer_number e.answer, e.left)
