use Rattle.texts.specs.Printed.{word_line}
use Rattle.lines.proofs.Storing.{put_one, put_more}
use Rattle.wording.proofs.put_words.Goals as goal

pub returns : goal.returns
unfolding word_line
returns c = let a = c.args in put_more a.out.now a.at c.put_line-end.ensures (put_one _ _ 10 _ c.put.ensures)
