use Prim.Native.Nat.{◌+◌, ◌*◌}
use mathlib.Core.Path.{ap, ◌∙◌}
use native.Mathlib.Omega.{arith}
use Rattle.plan.specs.declared.Shape.{Shape}
use Rattle.plan.specs.Image.{word_at, trailer_at, trailer_bytes, tables, offset}
use Rattle.tables.proofs.Shapes.{number_most}
use Rattle.tables.proofs.offset_of.Goals as goal

-- src/lib.rt:258:5
pub trailer_word-requires : goal.trailer_word-requires
unfolding trailer_bytes tables
trailer_word-requires c = (omega (arith, number_most c.args.table, ap (λ (x : Shape). x.number) c.shape_of-number.ensures), c.requires)

-- src/lib.rt:253:1
pub returns : goal.returns
unfolding offset
returns c = let s = c.args.image.now in c.trailer_word.ensures ∙ ap (λ (x : Shape). word_at s (trailer_at s + 8 * x.number)) c.shape_of-number.ensures
