use Rattle.std.proofs.Common.{rules}
use Rattle.frames.proofs.Once.{first_agrees}
use Rattle.frames.proofs.first_unframed.Goals as goal

-- where no place is left over, the test of the places says what the question's does
pub returns : goal.returns
returns c = let agrees = first_agrees c.args.image.now c.requires.0 in search rules
