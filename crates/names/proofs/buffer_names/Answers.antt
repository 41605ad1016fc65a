use mathlib.Core.Path.{refl}
use Rattle.plan.specs.Questions.{names}
use Rattle.names.proofs.buffer_names.Goals as goal

-- src/lib.rt:38:1
pub returns : goal.returns
unfolding names
returns c = rw (c.buffer_at-buffer.ensures, c.rows_of-tasks.ensures) refl
