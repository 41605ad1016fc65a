use mathlib.Core.Path.{refl}
use Rattle.jobs.specs.Times.{taken_at}
use Rattle.jobs.proofs.take_at.Goals as goal

-- src/lib.rt:84:5

pub returns : goal.returns
unfolding taken_at
returns c = rw (c.min-first.ensures, c.max-last.ensures) refl
