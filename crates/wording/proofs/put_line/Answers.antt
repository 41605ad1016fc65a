use mathlib.Core.Path.{refl}
use Rattle.texts.specs.Characters.{ascii}
use Rattle.texts.specs.Wording.{line_of, ThreeWords}
use Rattle.texts.proofs.Fitting.{line_short}
use Rattle.lines.proofs.Storing.{put_more, put_within}
use Rattle.wording.proofs.put_line.Goals as goal

pub returns : goal.returns
unfolding line_of ascii
returns c =
    let a = c.args in
    let w : ThreeWords (record { number = a.number; table = a.table; row = a.row }) = record { number = c.ranges.number.fits; table = c.ranges.table.fits; row = c.ranges.row.fits } in
    put_within a.out.now a.at refl (line_short _ w)
    (put_more a.out.now a.at c.put_phrase-bracket.ensures
    (put_more _ _ c.put_text-second.ensures
    (put_more _ _ c.put_digits-comma.ensures
    (put_more _ _ c.put_text-third.ensures
    (put_more _ _ c.put_place-end.ensures c.put_text.ensures)))))
