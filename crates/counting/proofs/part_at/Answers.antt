use mathlib.Core.Path.{sym, ◌∙◌}
use Rattle.counting.specs.Counting.{rank_part}
use Rattle.counting.proofs.part_at.Goals as goal

pub returns : goal.returns
unfolding rank_part
returns c = rw (sym c.is_free.ensures ∙ c.if-is_free.false, sym c.piece_at-here.ensures) c.rank_part.ensures
