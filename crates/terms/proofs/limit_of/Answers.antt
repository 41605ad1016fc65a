use mathlib.Core.Path.{refl}
use Rattle.plan.specs.declared.Table.TheVariants.{Streams}
use Rattle.plan.specs.Questions.{limit}
use Rattle.terms.proofs.limit_of.Goals as goal

-- src/lib.rt:178:5
pub or_deadline-requires : goal.or_deadline-requires
or_deadline-requires c = let a = c.args in let p = c.requires in (p.0, rw c.stream_at-m.ensures (p.0.names Streams a.stream p.1).1)

-- src/lib.rt:173:1
pub returns : goal.returns
unfolding limit
returns c = rw (c.or_deadline.ensures, c.stream_at-m.ensures) refl
