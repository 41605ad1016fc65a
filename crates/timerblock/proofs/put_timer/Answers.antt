use Rattle.timerblock.proofs.Blocks.{timer_stored}
use Rattle.timerblock.proofs.put_timer.Goals as goal

pub returns : goal.returns
returns c = rw (c.put_word-4.ensures, c.put_word-3.ensures, c.put_word-2.ensures, c.put_word.ensures, c.bit_word-enable.ensures, c.bit_word-status.ensures)
    (timer_stored c.args.block.now c.args.timer c.requires)
