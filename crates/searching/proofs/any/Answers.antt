use Rattle.std.proofs.Common.{rules, arith}
use Rattle.searching.proofs.Told.{some_told, none_told}
use Rattle.searching.proofs.any.Goals as goal

pub returns-then-test : goal.returns-then-test
returns-then-test g c = λ p t. some_told _ _ p t c.loop-row.row (omega arith) c.loop-row.invariant (search rules)

pub returns : goal.returns
returns g c = λ p t. none_told _ _ p t c.loop-row.row (omega arith) c.loop-row.invariant
