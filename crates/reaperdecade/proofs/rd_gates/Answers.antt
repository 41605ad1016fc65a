use mathlib.Core.Path.{ap, ◌∙◌}
use Rattle.plan.specs.Boundary.{answer_number, words_of}
use Rattle.gates.specs.Gates.{gate_number}
use Rattle.reaperdecade.proofs.Answers.{gates_small}
use Rattle.reaperdecade.proofs.rd_gates.Goals as goal

pub packed-requires : goal.packed-requires
packed-requires c = let a = c.args in rw c.store.ensures.0 (gates_small a.image.now a.link (words_of a.words.now))

pub returns : goal.returns
unfolding gate_number
returns c = let e = c.store.ensures in (c.packed.ensures ∙ ap answer_number e.0, e.1)
