use mathlib.Core.Path.{ap, ◌∙◌}
use Rattle.plan.specs.Boundary.{state_bytes}
use Rattle.records.proofs.Records.{started, not_started}
use Rattle.reaperdecade.proofs.rd_start.Goals as goal

pub returns-then-state-eq-STATE : goal.returns-then-state-eq-STATE
returns-then-state-eq-STATE c =
    let a = c.args in let h = started a.cycle a.first a.state.now c.if-state-eq-STATE.true in
    (h.0, c.put_state.ensures ∙ ap state_bytes c.start.ensures ∙ h.1)

pub returns : goal.returns
returns c = let a = c.args in not_started a.cycle a.first a.state.now c.if-state-eq-STATE.false
