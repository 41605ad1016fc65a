use mathlib.Core.Path.{refl, sym, ◌∙◌}
use Rattle.counting.proofs.Counting.{counted_none, counted_two}
use Rattle.counting.proofs.count_at.Goals as goal

pub returns-then-is_free : goal.returns-then-is_free
returns-then-is_free c = let a = c.args in rw (counted_none a.more a.piece a.words.now a.place (sym c.is_free.ensures ∙ c.if-is_free.true)) refl

pub returns : goal.returns
returns c = let a = c.args in c.store_sums.ensures ∙ (rw (counted_two a.more a.piece a.words.now a.place (sym c.is_free.ensures ∙ c.if-is_free.false), c.with_part-total.ensures, c.with_part-rank.ensures, c.total_part.ensures, c.rank_part.ensures, c.total_at.ensures, c.rank_at.ensures, c.piece_at-here.ensures) refl)
