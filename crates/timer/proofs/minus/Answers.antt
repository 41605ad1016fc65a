use Rattle.std.proofs.Common.{arith}
use Rattle.timer.proofs.Counts.{is_minus}
use Rattle.timer.proofs.minus.Goals as goal

pub returns : goal.returns
returns c = is_minus c.wrapping_sub_u32.result c.args.a c.args.b (omega arith) (omega arith) c.wrapping_sub_u32.ensures.value
