use native.Mathlib.Omega.{arith}
use Rattle.writing.proofs.Tables.{bytes_short, bytes_done}
use Rattle.writing.proofs.fill.Goals as goal

pub returns-then-bytes-count : goal.returns-then-bytes-count
returns-then-bytes-count c = let a = c.args in let p = c.requires in bytes_short a.image.now a.lane a.bytes.now p.0.passed p.1 (omega (arith, c.count_entries-count.ensures, c.if-bytes-count.true))

pub returns : goal.returns
returns c = let a = c.args in let p = c.requires in rw (c.accepted.ensures, c.write_table.ensures.1) (bytes_done a.image.now a.lane a.bytes.now p.0.passed p.1 (omega (arith, c.count_entries-count.ensures, c.if-bytes-count.false)))
