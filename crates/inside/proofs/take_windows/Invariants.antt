use Rattle.plan.specs.Image.{most_vcpus}
use Rattle.tallies.specs.Tallies.{Kept}
use Rattle.inside.specs.Holders.{holders, Starting}
use Rattle.inside.proofs.take_windows.Given as goal

abbrev pub invariant-loop-window : goal.invariant-loop-window
invariant-loop-window l = Kept l.last 0 most_vcpus (holders l.image l.window) × Starting l.image l.tick l.window
