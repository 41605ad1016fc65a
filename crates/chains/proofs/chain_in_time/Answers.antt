use Rattle.paths.proofs.Leading.{tasks_of, passed_one}
use Rattle.chains.proofs.chain_in_time.Goals as goal

pub jobs_of-jobs-requires : goal.jobs_of-jobs-requires
jobs_of-jobs-requires c = let a = c.args in let p = c.requires in (p.before_chains.0.sound, rw c.chain_at.ensures (tasks_of a.image.now (passed_one a.image.now p.chain_bound.1) a.chain p.chain_bound.0).0)
