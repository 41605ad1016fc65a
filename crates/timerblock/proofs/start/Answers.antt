use mathlib.Core.Path.{ap, ◌∙◌}
use Rattle.timerblock.specs.Blocks.{timer_bytes}
use Rattle.timerblock.proofs.Blocks.{number_yes, number_no, started_yes, started_no}
use Rattle.timerblock.proofs.start.Goals as goal

pub returns-then-block-eq-BLOCK : goal.returns-then-block-eq-BLOCK
returns-then-block-eq-BLOCK c = let b = c.args.block.now in let l = c.if-block-eq-BLOCK.true in
    (number_yes b l, c.put_timer.ensures ∙ ap timer_bytes c.fresh.ensures ∙ started_yes b l)

pub returns : goal.returns
returns c = let b = c.args.block.now in (number_no b c.if-block-eq-BLOCK.false, started_no b c.if-block-eq-BLOCK.false)
