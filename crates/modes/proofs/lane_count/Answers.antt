use borrow.Author.Rules.{rules}
use Rattle.modes.specs.Modes.{lane_count}
use Rattle.modes.proofs.lane_count.Goals as goal

pub returns : goal.returns
unfolding lane_count
returns c = search rules
