use Rattle.std.proofs.Common.{rules, arith}
use Rattle.searching.proofs.Told.{not_all, all_told}
use Rattle.searching.proofs.all.Goals as goal

pub returns-then-not-ok : goal.returns-then-not-ok
returns-then-not-ok g c = λ p t. not_all _ _ p t c.loop-row.row (omega arith) c.loop-row.invariant (search rules)

pub returns : goal.returns
returns g c = λ p t. all_told _ _ p t c.loop-row.row (omega arith) c.loop-row.invariant
