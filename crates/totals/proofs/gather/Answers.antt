use Prim.Native.Nat.{ℕ}
use mathlib.Core.Path.{◌≡◌, subst}
use native.Mathlib.Omega.{arith}
use Rattle.drafts.specs.Drafts.{places}
use Rattle.totals.specs.Gathers.{Gathered}
use Rattle.totals.proofs.Gathering.{gathered_none}
use Rattle.totals.proofs.gather.Goals as goal

pub loop-place-init : goal.loop-place-init
loop-place-init c = let p = c.requires in gathered_none _ _ p.gathered_len.0 p.gathered_len.1

pub take_in-requires : goal.take_in-requires
unfolding places
take_in-requires c = let p = c.requires in record { headed = (p.headed, omega arith); gathered = c.loop-place.invariant }

pub returns : goal.returns
unfolding places
returns c = let l = c.loop-place in let e : l.place ≡ 2048 = omega (arith, c.loop-place-test.false) in subst (λ (n : ℕ). Gathered c.args.words.now l.gathered n) e l.invariant
