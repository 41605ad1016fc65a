use Rattle.plan.specs.Image.{most_vcpus}
use Rattle.tallies.specs.Tallies.{Kept}
use Rattle.charges.specs.Charges.{ends_before, ChargedTo}
use Rattle.charges.proofs.gather_after.Given as goal

abbrev pub invariant-loop-window : goal.invariant-loop-window
invariant-loop-window l = ChargedTo l.image l.charges l.window × Kept l.ends 0 most_vcpus (ends_before l.image l.window)
