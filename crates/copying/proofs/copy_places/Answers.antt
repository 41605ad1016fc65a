use Prim.Native.Nat.{ℕ}
use mathlib.Core.Path.{refl, ap, ◌∙◌}
use native.Mathlib.Omega.{arith}
use Rattle.drafts.specs.Drafts.{places, place_at}
use Rattle.drafts.specs.Edits.{store_rows, piece_words, made_piece}
use Rattle.drafts.proofs.Storing.{length_rows, rows_turn}
use Rattle.copying.proofs.copy_places.Goals as goal

pub loop-place-init : goal.loop-place-init
unfolding store_rows
loop-place-init c = refl

pub copy_place-requires : goal.copy_place-requires
unfolding places
copy_place-requires c = let a = c.args in let p = c.requires in let l = c.loop-place in ((p.0, rw (l.invariant, length_rows place_at (λ x. piece_words (made_piece a.image.now x)) l.place a.words.now) p.1), c.loop-place-test.true)

pub loop-place-preserved : goal.loop-place-preserved
loop-place-preserved c = let a = c.args in let l = c.loop-place in rows_turn place_at (λ x. piece_words (made_piece a.image.now x)) l.place a.words.now l.words _ l.invariant c.copy_place.ensures

pub returns : goal.returns
unfolding places
returns c = let a = c.args in let l = c.loop-place in l.invariant ∙ ap (λ (n : ℕ). store_rows place_at (λ x. piece_words (made_piece a.image.now x)) n a.words.now) (omega (arith, c.loop-place-test.false))
