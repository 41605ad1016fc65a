use mathlib.Core.Path.{sym, ◌∙◌}
use native.Mathlib.Omega.{arith}
use Rattle.texts.specs.Characters.{ascii}
use Rattle.texts.specs.Wording.{wording}
use Rattle.texts.proofs.Fitting.{named_bounds, kind_number}
use Rattle.lines.proofs.Storing.{put_more, put_as}
use Rattle.wording.proofs.Worded.{name_put}
use Rattle.wording.proofs.put_kind.Goals as goal

pub overflow_sub-table : goal.overflow_sub-table
overflow_sub-table c = (named_bounds c.args.table (sym c.is_named.ensures ∙ c.if-is_named.true)).0

pub returns-then-is_named : goal.returns-then-is_named
unfolding wording
returns-then-is_named c = let a = c.args in name_put a.out.now a.at a.table c.ranges.table.fits (sym c.is_named.ensures ∙ c.if-is_named.true) c.put_line_at.ensures

pub returns : goal.returns
unfolding ascii
returns c =
    let a = c.args in
    put_as a.out.now a.at (sym (kind_number a.table (sym c.is_named.ensures ∙ c.if-is_named.false))) (omega arith)
    (put_more a.out.now a.at c.put_text-number.ensures (put_more _ _ c.put_digits-end.ensures c.put_text.ensures))
