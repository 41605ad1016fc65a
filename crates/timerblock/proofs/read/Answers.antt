use Rattle.timerblock.proofs.Blocks.{register_yes, register_no}
use Rattle.timerblock.proofs.read.Goals as goal

pub returns-then-block-eq-BLOCK : goal.returns-then-block-eq-BLOCK
returns-then-block-eq-BLOCK c = let a = c.args in let r = c.read-register in rw (r.ensures.0, r.ensures.1, c.timer_of.ensures) (register_yes a.block.now c.if-block-eq-BLOCK.true a.address)

pub returns : goal.returns
returns c = let a = c.args in register_no a.block.now c.if-block-eq-BLOCK.false a.address
