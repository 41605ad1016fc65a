use mathlib.Core.Path.{sym, ap, ◌∙◌}
use native.Mathlib.Omega.{arith}
use Rattle.plan.specs.declared.Piece.{Piece}
use Rattle.drafts.specs.Drafts.{draft_words, places, place_at, fits_job}
use Rattle.drafts.specs.Edits.{moved_to}
use Rattle.readings.proofs.Readings.{headed_of, held_place}
use Rattle.edits.proofs.Moving.{move_33, move_10, move_0, move_held}
use Rattle.edits.proofs.move_piece.Goals as goal

pub returns-then-not-holds_piece : goal.returns-then-not-holds_piece
returns-then-not-holds_piece c = let a = c.args in move_33 a.words.now a.place a.start (sym c.holds_piece.ensures ∙ c.if-not-holds_piece.true)

pub piece_at-piece-requires : goal.piece_at-piece-requires
piece_at-piece-requires c = let a = c.args in held_place a.words.now a.place (sym c.holds_piece.ensures ∙ c.if-not-holds_piece.false)

pub fits_job-requires : goal.fits_job-requires
fits_job-requires c = let a = c.args in let m = move_held a.words.now a.place (sym c.holds_piece.ensures ∙ c.if-not-holds_piece.false) in (headed_of a.words.now m.0, rw c.piece_at-piece.ensures m.2)

pub returns-then-not-fits_job : goal.returns-then-not-fits_job
unfolding moved_to
returns-then-not-fits_job c = let a = c.args in move_10 a.words.now a.place a.start (sym c.holds_piece.ensures ∙ c.if-not-holds_piece.false) (sym (ap (fits_job a.words.now) (ap (λ (x : Piece). moved_to x a.start) c.piece_at-piece.ensures)) ∙ sym c.fits_job.ensures ∙ c.if-not-fits_job.true)

pub bounds-words-place : goal.bounds-words-place
unfolding draft_words places
bounds-words-place c = let a = c.args in let m = held_place a.words.now a.place (sym c.holds_piece.ensures ∙ c.if-not-holds_piece.false) in omega (arith, m.0, m.1)

pub returns : goal.returns
unfolding moved_to place_at
returns c =
    let a = c.args in let e = sym c.holds_piece.ensures ∙ c.if-not-holds_piece.false in let m = move_held a.words.now a.place e in
    move_0 a.words.now a.place a.start e (sym (ap (fits_job a.words.now) (ap (λ (x : Piece). moved_to x a.start) c.piece_at-piece.ensures)) ∙ sym c.fits_job.ensures ∙ c.if-not-fits_job.false) m.0 m.1
