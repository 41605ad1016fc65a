use Rattle.std.proofs.Common.{rules}
use Rattle.plan.specs.declared.Table.TheVariants.{Streams}
use Rattle.plan.specs.Questions.{each_job}
use Rattle.frames.proofs.each_framed.Goals as goal

pub jobs_of-jobs-requires : goal.jobs_of-jobs-requires
jobs_of-jobs-requires c = let a = c.args in let p = c.requires in (p.sound.0, rw c.stream_at.ensures (p.sound.0.names Streams a.stream p.stream_bound).0)

pub returns : goal.returns
unfolding each_job
returns c = search rules
