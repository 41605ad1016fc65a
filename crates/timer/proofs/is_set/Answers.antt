use Rattle.std.proofs.Common.{refl}
use Rattle.timer.specs.Registers.{bit0}
use Rattle.timer.proofs.is_set.Goals as goal

pub returns : goal.returns
unfolding bit0
returns c = refl
