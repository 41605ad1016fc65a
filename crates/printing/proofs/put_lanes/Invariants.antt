use Rattle.printing.proofs.Written.{Below}
use Rattle.printing.proofs.put_lanes.Given as goal

abbrev pub invariant-loop-lane : goal.invariant-loop-lane
invariant-loop-lane l = Below l.image l.initial.out l.at l.lane l.out l.place
