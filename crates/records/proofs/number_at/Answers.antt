use native.Mathlib.Omega.{arith}
use Rattle.records.proofs.Records.{other_length}
use Rattle.records.proofs.number_at.Goals as goal

pub returns-then-bytes-lt-STATE : goal.returns-then-bytes-lt-STATE
returns-then-bytes-lt-STATE c = (other_length c.args.words.now c.args.bytes.now (λ e. omega (arith, c.if-bytes-lt-STATE.true))).0
