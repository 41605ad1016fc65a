use mathlib.Core.Path.{◌≡◌}
use lib.ListN.{drop}
use Rattle.plan.specs.Image.{tables}
use Rattle.plan.specs.Questions.{laid}
use Rattle.layout.proofs.tables_fit.Given as goal

abbrev pub invariant-loop-i : goal.invariant-loop-i
invariant-loop-i l = laid l.image 0 tables ≡ laid l.image l.from (drop l.i tables)
