use Prim.Native.Nat.{ℕ}
use native.Mathlib.Omega.{arith}
use lib.ListN.{length-replicate}
use Rattle.lines.proofs.Storing.{put_front, put_within}
use Rattle.wording.proofs.Worded.{too_few, enough}
use Rattle.wording.proofs.write_line.Goals as goal

pub returns-then-line-length : goal.returns-then-line-length
returns-then-line-length c = let a = c.args in too_few (record { number = a.number; table = a.table; row = a.row }) a.line.now (omega (arith, c.if-line-length.true, c.put_line-length.ensures.reached))

pub returns : goal.returns
returns c =
    let a = c.args in let first = c.put_line-length.ensures in
    let e = put_front _ (omega (arith, first.reached, first.few, length-replicate {A = ℕ} 95 0)) first in
    let r = enough (record { number = a.number; table = a.table; row = a.row }) a.line.now (omega (arith, c.if-line-length.false, first.reached)) (put_within a.line.now 0 {n = 95} e (omega (arith, first.reached, first.few)) c.put_text.ensures) in
    (omega (arith, first.reached, r.0), r.1)
