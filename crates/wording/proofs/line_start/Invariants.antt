use mathlib.Core.Path.{◌≡◌}
use lib.ListN.{drop}
use Rattle.texts.specs.Characters.{lines_from}
use Rattle.wording.proofs.line_start.Given as goal

abbrev pub invariant-loop-at : goal.invariant-loop-at
invariant-loop-at l = lines_from l.left (drop l.at l.text) ≡ lines_from l.n l.text
