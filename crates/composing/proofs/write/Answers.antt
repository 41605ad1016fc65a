use native.Mathlib.Omega.{arith}
use Rattle.composing.proofs.Fitting.{counted_fits, too_many, too_long, all_written}
use Rattle.composing.proofs.write.Goals as goal

pub returns-in_err-length : goal.returns-in_err-length
returns-in_err-length c = let a = c.args in rw c.from_residual.ensures (too_many a.first.now a.second.now a.shared _ a.joined.now (c.in_err-length.ensures {u = tt}))

pub returns-then-joined-length : goal.returns-then-joined-length
returns-then-joined-length c = let a = c.args in too_long a.first.now a.second.now a.shared _ _ (c.in_ok-length.ensures {u = tt}) a.joined.now c.if-joined-length.true

pub compose-requires : goal.compose-requires
compose-requires c = let p = c.requires in let q = counted_fits _ _ _ _ _ (c.in_ok-length.ensures {u = tt}) in record { ready = (p.0, c.place_streams.ensures); shared_bound = (p.1, q.1.1); tables_value = (q.0, (omega (arith, q.1.0, c.if-joined-length.false), omega (arith, q.1.0))) }

pub returns : goal.returns
returns c = let a = c.args in all_written a.first.now a.second.now a.shared _ _ (c.in_ok-length.ensures {u = tt}) a.joined.now (omega (arith, c.if-joined-length.false)) _ c.compose.ensures
