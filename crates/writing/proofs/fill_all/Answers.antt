use Rattle.writing.proofs.AllTables.{all_short, all_done}
use native.Mathlib.Omega.{arith}
use Rattle.writing.proofs.fill_all.Goals as goal

pub returns-then-bytes-words_of_all : goal.returns-then-bytes-words_of_all
returns-then-bytes-words_of_all c = let a = c.args in all_short a.image.now a.bytes.now c.requires.passed (omega (arith, c.words_of_all.ensures, c.if-bytes-words_of_all.true))

pub returns : goal.returns
returns c = let a = c.args in rw (c.accepted.ensures, c.write_all.ensures) (all_done a.image.now a.bytes.now c.requires.passed (omega (arith, c.words_of_all.ensures, c.if-bytes-words_of_all.false)))
