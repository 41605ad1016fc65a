use mathlib.Core.Path.{ap, ◌∙◌}
use Rattle.plan.specs.Boundary.{answer_number}
use Rattle.arrivals.specs.Arrivals.{arrival_number}
use Rattle.arriving.proofs.Lending.{lent_small}
use Rattle.reaperdecade.proofs.rd_arrivals.Goals as goal

pub packed-requires : goal.packed-requires
packed-requires c = let a = c.args in rw c.store.ensures.0 (lent_small a.image.now a.frame a.ticks.now)

pub returns : goal.returns
unfolding arrival_number
returns c = let e = c.store.ensures in (c.packed.ensures ∙ ap answer_number e.0, e.1)
