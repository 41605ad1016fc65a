use native.Mathlib.Omega.{arith}
use Rattle.texts.specs.Printed.{ended}
use Rattle.lines.proofs.Storing.{put_one, put_more}
use Rattle.lines.proofs.put_number.Goals as goal

pub overflow_add-result : goal.overflow_add-result
overflow_add-result c = let a = c.args in record { fits = omega (arith, c.put_digits-place.ensures.few, c.requires) }

pub returns : goal.returns
unfolding ended
returns c = let a = c.args in let d = c.put_digits-place.ensures in put_more a.out.now a.at d (put_one _ _ a.end _ c.put.ensures)
