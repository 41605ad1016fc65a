use Rattle.texts.specs.Characters.{ascii}
use Rattle.texts.specs.Wording.{place}
use Rattle.lines.proofs.Storing.{put_more}
use Rattle.wording.proofs.put_place.Goals as goal

pub returns : goal.returns
unfolding place ascii
returns c = let a = c.args in put_more a.out.now a.at c.put_kind-end.ensures (put_more _ _ c.put_text-number.ensures c.put_digits.ensures)
