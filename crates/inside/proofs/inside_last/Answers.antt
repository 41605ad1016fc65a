use mathlib.Core.Path.{◌∙◌}
use Rattle.inside.proofs.Holding.{none_named, one_named}
use Rattle.inside.proofs.inside_last.Goals as goal

pub returns-in-Some : goal.returns-in-Some
returns-in-Some c = let a = c.args in let e = c.in-Some.ensures in c.lies_inside.ensures ∙ one_named a.image.now a.piece a.last c.in-Some.window e.0 e.1

pub returns-in-None : goal.returns-in-None
returns-in-None c = let a = c.args in none_named a.image.now a.piece a.last c.in-None.ensures
