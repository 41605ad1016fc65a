use mathlib.Core.Path.{ap, ◌∙◌}
use native.Mathlib.Nat.{add-zero}
use Rattle.plan.specs.Image.{word_at, trailer_at}
use native.Mathlib.Omega.{arith}
use Rattle.plan.specs.Image.{image}
use Rattle.tables.proofs.cycle_ticks.Goals as goal

-- src/lib.rt:242:5
pub trailer_word-requires : goal.trailer_word-requires
unfolding image
trailer_word-requires c = (omega arith, c.requires)

-- src/lib.rt:238:1
pub returns : goal.returns
unfolding image
returns c = let s = c.args.image.now in c.trailer_word.ensures ∙ ap (word_at s) (add-zero (trailer_at s))
