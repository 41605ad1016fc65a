use mathlib.Core.Path.{◌≡◌, sym, ap, subst, ◌∙◌}
use Prim.Native.Nat.{ℕ, ◌<◌}
use native.Mathlib.Omega.{arith}
use Rattle.plan.specs.declared.Piece.{Piece}
use Rattle.plan.proofs.Searching.{all_yes}
use Rattle.drafts.specs.Drafts.{places, task_core, piece_at}
use Rattle.draftwords.specs.Heads.{place_fits}
use Rattle.draftwords.proofs.Headed.{head_parts}
use Rattle.totals.proofs.Gathering.{summed_free, summed_taken, present_task, present_core, may_sum}
use Rattle.totals.proofs.sum_in.Goals as goal

pub returns-then-is_free : goal.returns-then-is_free
returns-then-is_free c = let a = c.args in let p = c.requires in summed_free a.words.now a.sums.now a.place p.core_sums (sym c.is_free.ensures ∙ c.if-is_free.true)

pub task_core-core-requires : goal.task_core-core-requires
task_core-core-requires c = let a = c.args in let p = c.requires in let t = present_task a.words.now p.headed.0.0 a.place (all_yes (place_fits a.words.now) places p.headed.0.1 a.place p.headed.1) (sym c.is_free.ensures ∙ c.if-is_free.false) in (p.headed.0.0.room, rw c.piece_at-piece.ensures (omega (arith, t, (head_parts _ p.headed.0.0).4)))

pub add_ticks-requires : goal.add_ticks-requires
add_ticks-requires c =
    let a = c.args in let p = c.requires in
    let d : c.task_core-core.result ≡ task_core a.words.now (piece_at a.words.now a.place).task = c.task_core-core.ensures ∙ ap (λ (x : Piece). task_core a.words.now x.task) c.piece_at-piece.ensures in
    let l = present_core a.words.now p.headed.0.0 p.headed.0.1 a.place p.headed.1 (sym c.is_free.ensures ∙ c.if-is_free.false) in
    rw c.piece_at-piece.ensures (may_sum a.words.now p.headed.0.0 p.headed.0.1 a.sums.now a.place c.task_core-core.result p.core_sums p.headed.1 (subst (λ (n : ℕ). n < 32) (sym d) l))

pub returns : goal.returns
returns c =
    let a = c.args in let p = c.requires in
    let d : c.task_core-core.result ≡ task_core a.words.now (piece_at a.words.now a.place).task = c.task_core-core.ensures ∙ ap (λ (x : Piece). task_core a.words.now x.task) c.piece_at-piece.ensures in
    let e = sym c.is_free.ensures ∙ c.if-is_free.false in
    let l = present_core a.words.now p.headed.0.0 p.headed.0.1 a.place p.headed.1 e in
    rw (c.add_ticks.ensures, c.piece_at-piece.ensures) (summed_taken a.words.now a.sums.now a.place p.core_sums e c.task_core-core.result d (subst (λ (n : ℕ). n < 32) (sym d) l))
