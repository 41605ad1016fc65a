use Rattle.writing.proofs.Tables.{two_stored}
use Rattle.modeblock.proofs.put_places.Goals as goal

pub returns : goal.returns
returns c = rw (c.put_word-2.ensures, c.put_word.ensures) (two_stored c.args.block.now 0 c.args.running c.args.wanted)
