use Rattle.frames.specs.Index.{Taken}
use Rattle.frames.proofs.take_all.Given as goal

abbrev pub invariant-loop-frame : goal.invariant-loop-frame
invariant-loop-frame l = Taken l.image l.index l.frame
