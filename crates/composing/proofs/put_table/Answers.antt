use Prim.Native.Nat.{ℕ}
use mathlib.Core.Path.{sym, ap, ◌∙◌}
use mathlib.Core.List.{List, flat_map}
use native.Mathlib.Omega.{arith}
use lib.ListN.{length}
use Rattle.composing.proofs.Writing.{wrote_as, flat_long}
use Rattle.composing.proofs.put_table.Goals as goal

pub put_rows-requires : goal.put_rows-requires
put_rows-requires c = let a = c.args in let p = c.requires in let q = c.pick-n.ensures in record { ready = p.ready; numbers = (q.numbers, omega (arith, p.shared_bound.1, ap (λ (xs : List (List ℕ)). length (flat_map (λ x. x) xs)) (sym q.are) ∙ flat_long a.first.now a.second.now a.shared a.table c.pick-n.new.picks c.pick-n.result q.numbers)) }

pub returns : goal.returns
returns c = let a = c.args in wrote_as a.joined.now a.at c.put_rows.ensures (ap (flat_map (λ (x : List ℕ). x)) c.pick-n.ensures.are)
