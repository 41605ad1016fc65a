use mathlib.Core.Path.{ap, ◌∙◌}
use Rattle.timer.specs.declared.Timer.{Timer}
use Rattle.timer.specs.Registers.{reading}
use Rattle.timerblock.specs.Blocks.{timer_bytes}
use Rattle.timerblock.proofs.Blocks.{number_yes, number_no, reading_yes, reading_no}
use Rattle.timerblock.proofs.reading.Goals as goal

pub returns-then-block-eq-BLOCK : goal.returns-then-block-eq-BLOCK
returns-then-block-eq-BLOCK c = let a = c.args in let l = c.if-block-eq-BLOCK.true in
    let t = c.reading-next.ensures ∙ ap (λ (u : Timer). reading u a.count) c.timer_of.ensures in
    (number_yes a.block.now l, c.put_timer.ensures ∙ ap timer_bytes t ∙ reading_yes a.block.now l a.count)

pub returns : goal.returns
returns c = let a = c.args in (number_no a.block.now c.if-block-eq-BLOCK.false, reading_no a.block.now c.if-block-eq-BLOCK.false a.count)
