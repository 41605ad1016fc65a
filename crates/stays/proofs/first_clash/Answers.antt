use mathlib.Core.Path.{refl}
use Rattle.plan.specs.Search.{first_no}
use Rattle.tallies.proofs.Tallying.{kept_fresh}
use Rattle.stays.specs.Queues.{most_queues}
use Rattle.stays.proofs.first_clash.Goals as goal

-- src/lib.rt:60:9
pub returns-then-rows_of-eq0 : goal.returns-then-rows_of-eq0
unfolding first_no
returns-then-rows_of-eq0 c = rw (← c.rows_of.ensures, c.if-rows_of-eq0.true) refl

-- src/lib.rt:63:5
pub clash_after-requires : goal.clash_after-requires
clash_after-requires c = (c.requires, kept_fresh most_queues 0)
