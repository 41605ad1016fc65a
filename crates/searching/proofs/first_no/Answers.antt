use Rattle.std.proofs.Common.{rules, arith}
use Rattle.searching.proofs.Told.{found, none_found}
use Rattle.searching.proofs.first_no.Goals as goal

pub returns-then-not-ok : goal.returns-then-not-ok
returns-then-not-ok g c = λ p t. found _ _ p t c.loop-row.row (omega arith) c.loop-row.invariant (search rules)

pub returns : goal.returns
returns g c = λ p t. none_found _ _ p t c.loop-row.row (omega arith) c.loop-row.invariant
