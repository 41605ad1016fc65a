use Rattle.std.proofs.Common.{true}
use Rattle.searching.specs.Searching.{Reached}
use Rattle.searching.proofs.first_no.Given as goal

abbrev pub invariant-loop-row : goal.invariant-loop-row
invariant-loop-row g l = Reached (goal.F-post g l.ok) true l.row
