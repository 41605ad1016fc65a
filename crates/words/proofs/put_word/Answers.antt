use native.Mathlib.Omega.{arith}
use lib.ListN.{length-set}
use Rattle.words.proofs.Bytes.{word_stored}
use Rattle.words.proofs.put_word.Goals as goal

pub bounds-bytes-i-2 : goal.bounds-bytes-i-2
bounds-bytes-i-2 c = simp length-set (omega arith)

pub bounds-bytes-i-3 : goal.bounds-bytes-i-3
bounds-bytes-i-3 c = simp length-set (omega arith)

pub bounds-bytes-i-4 : goal.bounds-bytes-i-4
bounds-bytes-i-4 c = simp length-set (omega arith)

pub returns : goal.returns
returns c = word_stored c.args.bytes.now c.args.i c.args.x
