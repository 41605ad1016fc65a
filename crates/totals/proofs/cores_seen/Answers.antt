use Rattle.std.proofs.Common.{rules, arith, ◌<◌}
use Rattle.draftwords.proofs.Headed.{head_parts}
use Rattle.totals.proofs.cores_seen.Goals as goal

-- a draft has at most 32 cores
pub all-requires : goal.all-requires
all-requires c = λ i l r.
    let few = (head_parts c.args.words.now c.requires.0).3 in
    let a_core : i < 32 = omega arith in
    search rules
