use Rattle.std.proofs.Common.{refl}
use Rattle.timer.specs.Registers.{reading}
use Rattle.timer.proofs.reading.Goals as goal

pub returns : goal.returns
unfolding reading
returns c = rw c.reached-now.ensures refl
