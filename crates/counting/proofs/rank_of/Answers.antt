use Rattle.counting.proofs.Counting.{lower_next, lower_fits}
use Prim.Native.Nat.{ℕ}
use mathlib.Core.Path.{◌≡◌, sym, ap, ◌∙◌}
use mathlib.Core.Bool.{not, ◌&&◌}
use native.Mathlib.Omega.{arith}
use Rattle.plan.specs.Search.{count}
use Rattle.plan.proofs.Tests.{no_count}
use Rattle.drafts.specs.Drafts.{places, is_below, piece_at, is_free, rank}
use Rattle.counting.proofs.rank_of.Goals as goal

pub loop-place-init : goal.loop-place-init
loop-place-init c = sym (no_count _)

pub part_at-rank-requires : goal.part_at-rank-requires
unfolding places
part_at-rank-requires c = (c.requires, omega arith)

pub overflow_add-rank : goal.overflow_add-rank
overflow_add-rank c = let a = c.args in let l = c.loop-place in let h = lower_fits a.words.now a.piece l.place l.rank c.part_at-rank.result l.invariant c.part_at-rank.ensures (omega arith) in omega arith

pub loop-place-preserved : goal.loop-place-preserved
loop-place-preserved c = let a = c.args in let l = c.loop-place in lower_next a.words.now a.piece l.place l.rank c.part_at-rank.result l.invariant c.part_at-rank.ensures

pub returns : goal.returns
unfolding rank places
returns c = let a = c.args in let l = c.loop-place in let e : l.place ≡ 2048 = omega (arith, c.loop-place-test.false) in l.invariant ∙ ap (λ (n : ℕ). count n (λ q. not (is_free a.words.now q) && is_below a.piece.task a.piece.job (piece_at a.words.now q))) e
