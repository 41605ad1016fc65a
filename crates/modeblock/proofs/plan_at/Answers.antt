use Rattle.modeblock.proofs.Blocks.{at_place}
use Rattle.modeblock.proofs.plan_at.Goals as goal

pub returns : goal.returns
returns c = rw (c.word-5.ensures, c.word-4.ensures, c.word-3.ensures, c.word-2.ensures, c.word.ensures) (at_place c.args.block.now c.args.place c.requires.1)
