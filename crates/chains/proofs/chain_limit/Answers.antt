use mathlib.Core.Path.{refl}
use Rattle.paths.proofs.Leading.{tasks_of}
use Rattle.plan.specs.Questions.{chain_limit}
use Rattle.chains.proofs.chain_limit.Goals as goal

pub or_deadline-requires : goal.or_deadline-requires
or_deadline-requires c = let a = c.args in let p = c.requires in (p.0, rw c.chain_at-c.ensures (tasks_of a.image.now p.1.1 a.chain p.1.0).1)

pub returns : goal.returns
unfolding chain_limit
returns c = rw (c.or_deadline.ensures, c.chain_at-c.ensures) refl
