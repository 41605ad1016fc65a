use Rattle.std.proofs.Common.{rules}
use Rattle.joins.specs.Joins.{agree_to}
use Rattle.agreeing.proofs.rows_agree.Goals as goal

pub returns : goal.returns
unfolding agree_to
returns c = search rules
