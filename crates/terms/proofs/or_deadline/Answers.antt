use mathlib.Core.Path.{refl}
use borrow.Author.Tests.{eq-eqb, ne_eqb}
use Rattle.plan.specs.Questions.{or_deadline}
use Rattle.terms.proofs.or_deadline.Goals as goal

-- src/lib.rt:161:1
pub returns-then-word-eq0 : goal.returns-then-word-eq0
unfolding or_deadline
returns-then-word-eq0 c = rw (eq-eqb _ 0 c.if-word-eq0.true, c.task_at.ensures) refl

-- src/lib.rt:161:1
pub returns-else-word-eq0 : goal.returns-else-word-eq0
unfolding or_deadline
returns-else-word-eq0 c = rw (ne_eqb _ 0 c.if-word-eq0.false) refl
