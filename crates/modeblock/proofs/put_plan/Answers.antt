use Prim.Native.Nat.{◌+◌, ◌*◌}
use Rattle.modeblock.proofs.Blocks.{plan_stored}
use Rattle.modeblock.proofs.put_plan.Goals as goal

pub returns : goal.returns
returns c = rw (c.put_word-5.ensures, c.put_word-4.ensures, c.put_word-3.ensures, c.put_word-2.ensures, c.put_word.ensures) (plan_stored c.args.block.now (12 + 20 * c.args.place) c.args.plan)
