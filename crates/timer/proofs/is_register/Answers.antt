use Rattle.std.proofs.Common.{refl}
use Rattle.timer.specs.Registers.{is_register}
use Rattle.timer.proofs.is_register.Goals as goal

pub returns : goal.returns
unfolding is_register
returns c = refl
