use mathlib.Core.Path.{refl}
use Rattle.plan.specs.Boundary.{state_of}
use Rattle.states.proofs.state_of.Goals as goal

pub returns : goal.returns
unfolding state_of
returns c = rw (c.word-5.ensures, c.word-4.ensures, c.word-3.ensures, c.word-2.ensures, c.word.ensures, c.word-high.ensures, c.word-low.ensures) refl
