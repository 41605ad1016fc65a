use mathlib.Core.Path.{refl}
use Rattle.plan.specs.Questions.{names}
use Rattle.names.proofs.stream_names.Goals as goal

-- src/lib.rt:19:1
pub returns : goal.returns
unfolding names
returns c = rw (c.stream_at-stream.ensures, c.rows_of-tasks.ensures) refl
