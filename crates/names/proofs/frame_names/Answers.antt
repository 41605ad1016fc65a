use mathlib.Core.Path.{refl}
use Rattle.plan.specs.Questions.{names}
use Rattle.names.proofs.frame_names.Goals as goal

-- src/lib.rt:29:1
pub returns : goal.returns
unfolding names
returns c = rw (c.frame_at-frame.ensures, c.rows_of.ensures, c.rows_of-2.ensures) refl
