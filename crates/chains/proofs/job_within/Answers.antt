use mathlib.Core.Path.{refl}
use Rattle.paths.proofs.Leading.{tasks_of, passed_one, last_job}
use Rattle.paths.specs.Walks.{job_within}
use Rattle.chains.proofs.job_within.Goals as goal

pub last_end-requires : goal.last_end-requires
last_end-requires c = let a = c.args in let s = a.image.now in let p = c.requires in rw c.chain_at-c.ensures (p.before_chains.1, ((tasks_of s (passed_one s p.chain_bound.1.0) a.chain p.chain_bound.0).1, last_job s p.before_chains.0 p.chain_bound.1.0 a.chain a.job p.chain_bound.0 p.chain_bound.1.1))

pub first_start-start-requires : goal.first_start-start-requires
first_start-start-requires c = let a = c.args in let s = a.image.now in let p = c.requires in rw c.chain_at-c.ensures (p.before_chains.1, ((tasks_of s (passed_one s p.chain_bound.1.0) a.chain p.chain_bound.0).0, p.chain_bound.1.1))

pub chain_limit-requires : goal.chain_limit-requires
chain_limit-requires c = let a = c.args in let p = c.requires in (p.before_chains.0.sound, (p.chain_bound.0, passed_one a.image.now p.chain_bound.1.0))

pub returns : goal.returns
unfolding job_within
returns c = rw (c.chain_limit.ensures, c.first_start-start.ensures, c.precision_ticks.ensures, c.last_end.ensures, c.chain_at-c.ensures) refl
