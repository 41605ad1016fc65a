use mathlib.Core.Path.{refl, sym, ◌∙◌}
use Rattle.plan.specs.Questions.{hold_apart}
use Rattle.buffers.specs.Holds.{holds_apart}
use Rattle.plan.specs.Search.{apart}
use Rattle.buffers.proofs.row_apart.Goals as goal

pub returns-then-same_buffer : goal.returns-then-same_buffer
unfolding hold_apart holds_apart apart
returns-then-same_buffer c = rw (sym c.same_buffer.ensures ∙ c.if-same_buffer.true) c.holds_apart.ensures

pub returns-else-same_buffer : goal.returns-else-same_buffer
unfolding hold_apart holds_apart apart
returns-else-same_buffer c = rw (sym c.same_buffer.ensures ∙ c.if-same_buffer.false) refl
