use mathlib.Core.Path.{◌∙◌}
use Rattle.timerblock.proofs.Blocks.{interrupt_yes, interrupt_no}
use Rattle.timerblock.proofs.interrupt.Goals as goal

pub returns-then-block-eq-BLOCK : goal.returns-then-block-eq-BLOCK
returns-then-block-eq-BLOCK c = let a = c.args in c.bit_word.ensures ∙ (rw (c.interrupt.ensures, c.timer_of.ensures) (interrupt_yes a.block.now c.if-block-eq-BLOCK.true))

pub returns : goal.returns
returns c = interrupt_no c.args.block.now c.if-block-eq-BLOCK.false
