use mathlib.Core.Path.{◌∙◌}
use Rattle.records.proofs.Records.{refused_all}
use Rattle.records.proofs.step_all.Goals as goal

pub returns-then-lowest-ne0 : goal.returns-then-lowest-ne0
returns-then-lowest-ne0 c = let a = c.args in let e = c.refused_number-lowest.ensures in (e, refused_all a.words.now a.states.now (λ z. c.if-lowest-ne0.true (e ∙ z)))
