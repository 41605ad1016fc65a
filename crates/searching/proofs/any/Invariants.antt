use Rattle.std.proofs.Common.{false}
use Rattle.searching.specs.Searching.{Reached}
use Rattle.searching.proofs.any.Given as goal

abbrev pub invariant-loop-row : goal.invariant-loop-row
invariant-loop-row g l = Reached (goal.F-post g l.test) false l.row
