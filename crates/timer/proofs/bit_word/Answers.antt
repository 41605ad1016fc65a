use Rattle.std.proofs.Common.{refl}
use Rattle.timer.specs.Registers.{bit_word}
use Rattle.timer.proofs.bit_word.Goals as goal

pub returns-then-set : goal.returns-then-set
unfolding bit_word
returns-then-set c = rw c.if-set.true refl

pub returns-else-set : goal.returns-else-set
unfolding bit_word
returns-else-set c = rw c.if-set.false refl
