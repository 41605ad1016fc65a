use Rattle.std.proofs.Common.{refl}
use Rattle.timer.specs.Registers.{reached}
use Rattle.timer.proofs.reached.Goals as goal

pub returns : goal.returns
unfolding reached
returns c = rw (c.minus-ahead.ensures, c.minus-gone.ensures) refl
