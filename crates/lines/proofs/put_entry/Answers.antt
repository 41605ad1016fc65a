use Rattle.texts.specs.Printed.{line, entry_line}
use Rattle.lines.proofs.Storing.{put_more}
use Rattle.lines.proofs.put_entry.Goals as goal

pub returns : goal.returns
unfolding entry_line line
returns c = let a = c.args in put_more a.out.now a.at c.put_number-second.ensures (put_more _ _ c.put_number-third.ensures (put_more _ _ c.put_number-fourth.ensures c.put_number.ensures))
