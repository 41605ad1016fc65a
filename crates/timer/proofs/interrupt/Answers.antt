use Rattle.std.proofs.Common.{refl}
use Rattle.timer.specs.Registers.{interrupts}
use Rattle.timer.proofs.interrupt.Goals as goal

pub returns : goal.returns
unfolding interrupts
returns c = refl
