use Rattle.texts.specs.Wording.{wording}
use Rattle.wording.proofs.Worded.{phrase_put, unknown_put}
use Rattle.wording.proofs.put_phrase.Goals as goal

pub returns-then-number-lt-PHRASED : goal.returns-then-number-lt-PHRASED
unfolding wording
returns-then-number-lt-PHRASED c = let a = c.args in phrase_put a.out.now a.at a.number c.if-number-lt-PHRASED.true c.put_line_at.ensures

pub returns : goal.returns
unfolding wording
returns c = let a = c.args in unknown_put a.out.now a.at a.number c.if-number-lt-PHRASED.false c.put_text.ensures
