use Rattle.timerblock.specs.Blocks.{timer_of}
use Rattle.timerblock.proofs.timer_of.Goals as goal

pub returns : goal.returns
unfolding timer_of
returns c = cc
