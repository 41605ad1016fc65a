use Prim.Native.Nat.{ℕ}
use mathlib.Core.Path.{◌≡◌, subst}
use native.Mathlib.Omega.{arith}
use Rattle.drafts.specs.Drafts.{places}
use Rattle.totals.specs.Gathers.{CoreSums}
use Rattle.totals.proofs.Gathering.{summed_none}
use Rattle.totals.proofs.sum_cores.Goals as goal

pub loop-place-init : goal.loop-place-init
loop-place-init c = let p = c.requires in summed_none _ _ p.sums_len.0 p.sums_len.1

pub sum_in-requires : goal.sum_in-requires
unfolding places
sum_in-requires c = let p = c.requires in record { headed = (p.headed, omega arith); core_sums = c.loop-place.invariant }

pub returns : goal.returns
unfolding places
returns c = let l = c.loop-place in let e : l.place ≡ 2048 = omega (arith, c.loop-place-test.false) in subst (λ (n : ℕ). CoreSums c.args.words.now l.sums n) e l.invariant
