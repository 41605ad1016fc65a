use mathlib.Core.Path.{sym, ◌∙◌}
use Rattle.arrivals.proofs.Answers.{refused}
use Rattle.arriving.proofs.arrivals.Goals as goal

pub ticks_of-requires : goal.ticks_of-requires
ticks_of-requires c = c.in-Ok.ensures

pub returns-in-Err : goal.returns-in-Err
returns-in-Err c = let q = c.in-Err.ensures in c.refused.ensures ∙ sym (refused c.args.image.now c.args.frame c.in-Err.no q.0 q.1)
