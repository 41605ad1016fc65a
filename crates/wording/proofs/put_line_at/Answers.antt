use native.Mathlib.Omega.{arith}
use lib.ListN.{length-drop}
use Rattle.wording.proofs.Texts.{line_inside, line_part}
use Rattle.lines.proofs.Storing.{put_within}
use Rattle.wording.proofs.put_line_at.Goals as goal

pub slice_bounds-put_text-end : goal.slice_bounds-put_text-end
slice_bounds-put_text-end c = let s = c.line_start-from in let text = c.args.text.now in omega (arith, line_inside text s.result _ s.ensures.0 c.line_end-end.ensures, length-drop s.result text, s.ensures.0)

pub returns : goal.returns
returns c =
    let a = c.args in let s = c.line_start-from in
    let e = line_part a.text.now s.result _ s.ensures.0 c.line_end-end.ensures a.n s.ensures.1 in
    put_within a.out.now a.at e (omega arith) c.put_text.ensures
