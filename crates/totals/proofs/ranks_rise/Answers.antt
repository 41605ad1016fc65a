use Prim.Native.Nat.{◌*◌}
use mathlib.Core.Path.{◌≡◌, sym, ap, subst, ◌∙◌}
use native.Mathlib.Omega.{arith}
use Rattle.std.specs.Prelude.{Option, IfSome, is_some}
use Rattle.totals.specs.declared.Climb.{Climb}
use Rattle.drafts.specs.Drafts.{places}
use Rattle.totals.specs.Gathers.{climbed}
use Rattle.totals.proofs.Climbing.{Small, climbed_none, climbed_next, climbed_small, climb_stops}
use Rattle.totals.proofs.ranks_rise.Goals as goal

pub loop-rank-init : goal.loop-rank-init
loop-rank-init c = climbed_none _

pub climb_at-requires : goal.climb_at-requires
unfolding places
climb_at-requires c =
    let l = c.loop-rank in
    record { headed = (c.requires, omega arith); last_lt_places = subst (λ (o : Option Climb). IfSome o (Small (2048 * l.rank))) l.invariant (climbed_small c.args.words.now l.rank) }

pub returns-in-None : goal.returns-in-None
unfolding places
returns-in-None c =
    let l = c.loop-rank in
    climb_stops c.args.words.now l.rank l.climb (omega arith) l.invariant (sym c.climb_at.ensures ∙ c.in-None.is)

pub loop-rank-preserved : goal.loop-rank-preserved
loop-rank-preserved c =
    let l = c.loop-rank in
    climbed_next c.args.words.now l.rank l.climb l.invariant ∙ sym c.climb_at.ensures ∙ c.in-Some.is

pub returns : goal.returns
unfolding places
returns c =
    let l = c.loop-rank in let e : l.rank ≡ 2048 = omega (arith, c.loop-rank-test.false) in
    sym (ap (λ (o : Option Climb). is_some o) (ap (climbed c.args.words.now) (sym e) ∙ l.invariant))
