use Prim.Native.Nat.{ℕ, ◌<◌}
use mathlib.Core.Path.{sym, subst}
use native.Mathlib.Omega.{arith}
use Rattle.drafts.specs.Drafts.{places}
use Rattle.totals.proofs.Gathering.{last_small}
use Rattle.totals.proofs.Climbing.{climb_none, climb_some, count_most, in_2048}
use Rattle.totals.proofs.climb_at.Goals as goal

pub bounds-gathered-at : goal.bounds-gathered-at
unfolding places
bounds-gathered-at c = omega (arith, c.requires.headed.0.1.room, c.requires.headed.1)

pub returns-then-count-eq0 : goal.returns-then-count-eq0
unfolding places
returns-then-count-eq0 c = let a = c.args in let p = c.requires in climb_none a.words.now a.gathered.now p.headed.0.1 a.rank p.headed.1 a.climb c.if-count-eq0.true

pub bounds-gathered-at-2 : goal.bounds-gathered-at-2
unfolding places
bounds-gathered-at-2 c = omega (arith, c.requires.headed.0.1.room, c.requires.headed.1)

pub key_at-now-requires : goal.key_at-now-requires
key_at-now-requires c = let a = c.args in let p = c.requires in (p.headed.0.0.room, subst (λ (n : ℕ). n < places) (sym (p.headed.0.1.lasts.each a.rank (in_2048 a.rank p.headed.1))) (last_small a.words.now a.rank))

pub overflow_add-result : goal.overflow_add-result
unfolding places
overflow_add-result c = let a = c.args in let p = c.requires in omega (arith, p.last_lt_places.1, p.headed.1, count_most a.words.now a.gathered.now p.headed.0.1 a.rank p.headed.1 a.climb)

pub returns-then-not-rises : goal.returns-then-not-rises
unfolding places
returns-then-not-rises c =
    let a = c.args in let p = c.requires in
    let h = climb_some a.words.now a.gathered.now p.headed.0.1 a.rank p.headed.1 a.climb c.if-count-eq0.false c.key_at-before.result c.key_at-now.result c.key_at-before.ensures c.key_at-now.ensures in
    rw c.if-not-rises.true at h

pub returns : goal.returns
unfolding places
returns c =
    let a = c.args in let p = c.requires in
    let h = climb_some a.words.now a.gathered.now p.headed.0.1 a.rank p.headed.1 a.climb c.if-count-eq0.false c.key_at-before.result c.key_at-now.result c.key_at-before.ensures c.key_at-now.ensures in
    rw c.if-not-rises.false at h
