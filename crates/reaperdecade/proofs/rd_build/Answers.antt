use mathlib.Core.Path.{ap, ◌∙◌}
use Rattle.plan.specs.Boundary.{answer_number, words_of, build_number}
use Rattle.packing.proofs.Answers.{build_small}
use Rattle.reaperdecade.proofs.rd_build.Goals as goal

pub packed-requires : goal.packed-requires
packed-requires c = let a = c.args in rw c.build.ensures.answer (build_small a.image.now a.lane (words_of a.words.now))

pub returns : goal.returns
unfolding build_number
returns c = let e = c.build.ensures in (c.packed.ensures ∙ ap answer_number e.answer, e.left)
