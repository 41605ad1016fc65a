use mathlib.Core.Path.{◌∙◌}
use Rattle.records.proofs.Records.{other_length, refused_stays}
use Rattle.reaperdecade.proofs.rd_step.Goals as goal

pub returns-then-state-ne-STATE : goal.returns-then-state-ne-STATE
returns-then-state-ne-STATE c = let a = c.args in other_length a.words.now a.state.now c.if-state-ne-STATE.true

pub returns-then-refusal-ne0 : goal.returns-then-refusal-ne0
returns-then-refusal-ne0 c =
    let a = c.args in let e = c.number_of-refusal.ensures in
    (e, refused_stays a.words.now a.state.now (λ z. c.if-refusal-ne0.true (e ∙ z)))
