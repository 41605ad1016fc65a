use mathlib.Core.Path.{ap, ◌∙◌}
use native.Mathlib.Omega.{arith}
use lib.ListN.{length-take, take}
use borrow.Rule.Slice.PartMut.{put_mid}
use Rattle.gating.proofs.Copying.{copied}
use Rattle.gating.proofs.copy.Goals as goal

pub returns : goal.returns
returns c =
    let a = c.args in
    ap (put_mid 0 a.many a.words.now) c.copy_from_slice.ensures.after
    ∙ copied a.words.now (take a.many a.list.now) a.many (omega (arith, length-take a.many a.list.now, c.requires.0)) c.requires.1
