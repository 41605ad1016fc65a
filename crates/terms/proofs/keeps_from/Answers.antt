use mathlib.Core.Path.{refl}
use Rattle.plan.specs.Questions.{keeps_from}
use Rattle.terms.proofs.keeps_from.Goals as goal

-- src/lib.rt:92:1
pub returns : goal.returns
unfolding keeps_from
returns c = rw (c.window_end.ensures, c.window_at-u.ensures, c.window_at-w.ensures) refl
