use Rattle.lines.proofs.Storing.{put_more}
use Rattle.printing.proofs.put_told.Goals as goal

pub returns : goal.returns
returns c = put_more c.args.out.now 0 c.put_answer-second.ensures c.put_words.ensures
