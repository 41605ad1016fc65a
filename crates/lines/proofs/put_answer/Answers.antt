use Rattle.texts.specs.Printed.{line, answer_line}
use Rattle.lines.proofs.Storing.{put_more}
use Rattle.lines.proofs.put_answer.Goals as goal

pub returns : goal.returns
unfolding answer_line line
returns c = let b = c.args.out.now in put_more b 0 c.put_number-second.ensures (put_more _ _ c.put_number-third.ensures c.put_number.ensures)
