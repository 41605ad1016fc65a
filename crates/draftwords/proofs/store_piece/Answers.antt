use native.Mathlib.Omega.{arith}
use lib.ListN.{length-set}
use Rattle.draftwords.proofs.Stores.{four_words}
use Rattle.draftwords.proofs.store_piece.Goals as goal

-- src/lib.rt:78:5
pub bounds-words-at-2 : goal.bounds-words-at-2
bounds-words-at-2 c = omega (arith, c.requires.0, length-set c.args.words.now c.args.at c.args.piece.task)

-- src/lib.rt:79:5
pub bounds-words-at-3 : goal.bounds-words-at-3
bounds-words-at-3 c = rw (length-set, length-set) (omega (arith, c.requires.0))

-- src/lib.rt:80:5
pub bounds-words-at-4 : goal.bounds-words-at-4
bounds-words-at-4 c = rw (length-set, length-set, length-set) (omega (arith, c.requires.0))

-- src/lib.rt:73:1
pub returns : goal.returns
returns c = four_words c.args.words.now c.args.at c.args.piece
