use Rattle.std.proofs.Common.{refl}
use Rattle.timer.specs.Registers.{fresh}
use Rattle.timer.proofs.Timer.fresh.Goals as goal

pub returns : goal.returns
unfolding fresh
returns c = refl
