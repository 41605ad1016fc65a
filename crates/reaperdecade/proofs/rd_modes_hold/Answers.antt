use mathlib.Core.Path.{ap, ◌∙◌}
use Rattle.plan.specs.Boundary.{answer_number}
use Rattle.modeblock.specs.Blocks.{modes_hold_number}
use Rattle.reaperdecade.proofs.Answers.{hold_small}
use Rattle.reaperdecade.proofs.rd_modes_hold.Goals as goal

pub packed-requires : goal.packed-requires
packed-requires c = let a = c.args in rw c.hold.ensures.value (hold_small a.modes.now a.image.now a.place a.words.now)

pub returns : goal.returns
unfolding modes_hold_number
returns c =
    let e = c.hold.ensures in
    record {
      value = c.packed.ensures ∙ ap answer_number e.value;
      words_after = e.words_after;
      modes_after = e.block_after;
    }
