use Rattle.std.proofs.Common.{rules, arith, ◌<◌}
use Rattle.drafts.proofs.Heads.{r_head}
use Rattle.totals.proofs.tasks_in_range.Goals as goal

-- a draft has at most 256 tasks
pub all-requires : goal.all-requires
all-requires c = λ i l r.
    let few = ((r_head c.args.words.now).0 c.requires.1).4 in
    let a_task : i < 256 = omega arith in
    search rules
