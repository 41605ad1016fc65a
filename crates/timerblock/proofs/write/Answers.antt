use mathlib.Core.Path.{sym, ap, ◌∙◌}
use native.Mathlib.Omega.{arith}
use Rattle.timer.specs.declared.Timer.{Timer}
use Rattle.timer.specs.Registers.{written}
use Rattle.timerblock.specs.Blocks.{timer_bytes}
use Rattle.timerblock.proofs.Blocks.{writing_yes, writing_no, write_done, write_refused}
use Rattle.timerblock.proofs.write.Goals as goal

pub returns-then-block-ne-BLOCK : goal.returns-then-block-ne-BLOCK
returns-then-block-ne-BLOCK c = let a = c.args in let e = writing_no a.block.now c.if-block-ne-BLOCK.true a.address in
    (e, write_refused a.block.now a.address a.x (λ z. omega arith))

pub returns-then-next-ne0 : goal.returns-then-next-ne0
returns-then-next-ne0 c = let a = c.args in
    let e = c.write-next.ensures.0 ∙ writing_yes a.block.now c.if-block-ne-BLOCK.false a.address in
    (e, write_refused a.block.now a.address a.x (λ z. c.if-next-ne0.true (e ∙ z)))

pub returns : goal.returns
returns c = let a = c.args in let r = c.write-next in
    let n = sym c.if-next-ne0.false ∙ r.ensures.0 ∙ writing_yes a.block.now c.if-block-ne-BLOCK.false a.address in
    let t = r.ensures.1 ∙ ap (λ (u : Timer). written u a.address a.x) c.timer_of.ensures in
    (n, c.put_timer.ensures ∙ ap timer_bytes t ∙ write_done a.block.now a.address a.x (sym n))
