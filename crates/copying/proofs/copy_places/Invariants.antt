use mathlib.Core.Path.{◌≡◌}
use Rattle.drafts.specs.Drafts.{place_at}
use Rattle.drafts.specs.Edits.{store_rows, piece_words, made_piece}
use Rattle.copying.proofs.copy_places.Given as goal

abbrev pub invariant-loop-place : goal.invariant-loop-place
invariant-loop-place l = l.words ≡ store_rows place_at (λ x. piece_words (made_piece l.image x)) l.place l.initial.words
