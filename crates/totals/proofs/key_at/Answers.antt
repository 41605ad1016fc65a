use mathlib.Core.Path.{refl}
use Rattle.totals.specs.Gathers.{job_key}
use Rattle.totals.proofs.key_at.Goals as goal

pub returns : goal.returns
unfolding job_key
returns c = rw c.piece_at-piece.ensures refl
