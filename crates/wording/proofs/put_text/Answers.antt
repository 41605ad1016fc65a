use Rattle.lines.proofs.Storing.{put_next}
use Rattle.wording.proofs.put_text.Goals as goal

pub loop-i-preserved : goal.loop-i-preserved
loop-i-preserved c =
    let a = c.args in let l = c.loop-i in
    put_next a.out.now a.at a.text.now l.i c.loop-i-test.true l.invariant c.put.ensures
