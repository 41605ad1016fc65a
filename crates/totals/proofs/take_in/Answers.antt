use mathlib.Core.Path.{sym, ◌∙◌}
use native.Mathlib.Omega.{arith}
use Rattle.totals.proofs.Gathering.{gathered_free, gathered_high, gathered_taken, may_take}
use Rattle.totals.proofs.take_in.Goals as goal

pub returns-then-is_free : goal.returns-then-is_free
returns-then-is_free c = let a = c.args in let p = c.requires in gathered_free a.words.now a.gathered.now a.place p.gathered (sym c.is_free.ensures ∙ c.if-is_free.true)

pub take_at-requires : goal.take_at-requires
take_at-requires c =
    let a = c.args in let p = c.requires in let e = c.piece_at-piece.ensures in
    let m = may_take a.words.now p.headed.0.0 p.headed.0.1 a.gathered.now a.place c.rank_at-rank.result p.gathered p.headed.1 c.if-rank-lt-PLACES.true in
    record { gathered_len = (m.0.0, m.0.1); rank_bound = rw e m.1 }

pub returns-then-rank-lt-PLACES : goal.returns-then-rank-lt-PLACES
returns-then-rank-lt-PLACES c =
    let a = c.args in let p = c.requires in let r = c.rank_at-rank in
    rw (c.take_at.ensures, c.piece_at-piece.ensures, r.ensures)
    (gathered_taken a.words.now a.gathered.now a.place p.gathered (sym c.is_free.ensures ∙ c.if-is_free.false) (omega (arith, r.ensures, c.if-rank-lt-PLACES.true)))

pub returns-else-rank-lt-PLACES : goal.returns-else-rank-lt-PLACES
returns-else-rank-lt-PLACES c = let a = c.args in let p = c.requires in gathered_high a.words.now a.gathered.now a.place p.gathered (sym c.is_free.ensures ∙ c.if-is_free.false) (omega (arith, c.rank_at-rank.ensures, c.if-rank-lt-PLACES.false))
