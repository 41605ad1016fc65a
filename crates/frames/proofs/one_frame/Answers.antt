use Rattle.std.proofs.Common.{rules}
use Rattle.frames.specs.Index.{once_each}
use Rattle.frames.proofs.one_frame.Goals as goal

pub returns : goal.returns
unfolding once_each
returns c = search rules
