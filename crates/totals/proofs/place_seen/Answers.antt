use Prim.Native.Nat.{ℕ, ◌<◌}
use mathlib.Core.Path.{refl, sym, subst, ◌∙◌}
use native.Mathlib.Omega.{arith}
use borrow.Author.Tests.{le-ltb}
use Rattle.drafts.specs.Drafts.{places, rank_at}
use Rattle.totals.specs.Gathers.{place_seen}
use Rattle.totals.proofs.Gathering.{last_small, seen_is}
use Rattle.totals.proofs.place_seen.Goals as goal

pub returns-then-is_free : goal.returns-then-is_free
unfolding place_seen
returns-then-is_free c = rw (sym c.is_free.ensures ∙ c.if-is_free.true) refl

pub returns-then-rank-ge-PLACES : goal.returns-then-rank-ge-PLACES
unfolding place_seen places
returns-then-rank-ge-PLACES c = rw (sym c.is_free.ensures ∙ c.if-is_free.false, le-ltb (rank_at c.args.words.now c.args.place) 2048 (omega (arith, c.rank_at-rank.ensures, c.if-rank-ge-PLACES.true))) refl

pub piece_at-last-requires : goal.piece_at-last-requires
piece_at-last-requires c = let a = c.args in let p = c.requires in (p.headed.0.room, subst (λ (n : ℕ). n < places) (sym (p.gathered.lasts.each c.rank_at-rank.result (omega arith))) (last_small a.words.now c.rank_at-rank.result))

pub returns : goal.returns
returns c =
    let a = c.args in let p = c.requires in let r = c.rank_at-rank in
    seen_is a.words.now a.gathered.now a.place p.gathered (sym c.is_free.ensures ∙ c.if-is_free.false) c.piece_at-piece.result c.piece_at-last.result r.result c.total_at-total.result
    r.ensures (omega (arith, c.if-rank-ge-PLACES.false)) c.piece_at-piece.ensures c.piece_at-last.ensures c.total_at-total.ensures
