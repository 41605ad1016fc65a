use Rattle.plan.specs.declared.Table.TheVariants.{Streams}
use Rattle.streams.proofs.stream_jobs.Goals as goal

pub jobs_of-requires : goal.jobs_of-requires
jobs_of-requires c = (c.requires.0, rw c.stream_at.ensures (c.requires.0.names Streams c.args.stream c.requires.1).0)
