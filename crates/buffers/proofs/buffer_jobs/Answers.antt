use Rattle.plan.specs.declared.Table.TheVariants.{Buffers}
use Rattle.buffers.proofs.buffer_jobs.Goals as goal

pub jobs_of-requires : goal.jobs_of-requires
jobs_of-requires c = let p = c.requires in (p.0, rw c.buffer_at.ensures (p.0.names Buffers c.args.row p.1).0)

pub returns : goal.returns
returns c = rw (← c.buffer_at.ensures) c.jobs_of.ensures
