use mathlib.Core.Path.{◌≡◌}
use Rattle.plan.specs.declared.Table.TheVariants.{Frames}
use Rattle.plan.specs.Image.{rows}
use Rattle.opening.specs.Listings.{Walked}
use Rattle.opening.proofs.send_all.Given as goal

abbrev pub invariant-loop-frame : goal.invariant-loop-frame
invariant-loop-frame l = (l.frames ≡ rows l.image Frames) × Walked l.image l.link l.initial.list l.frame l.list l.at
