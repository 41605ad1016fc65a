use mathlib.Core.Path.{refl}
use Rattle.plan.specs.Dispatch.{start_state}
use Rattle.plan.proofs.LaneState.start.Statement.{statement}
use Rattle.plan.proofs.LaneState.start.Tie as tie

returns : tie.Need-returns
unfolding start_state
returns c = refl

pub start_spec : {M : Type 1} → statement M
start_spec = tie.close (tie.spec returns)
