use borrow.Author.Tests.{ltb-true}
use mathlib.Core.Path.{refl, sym, ◌∙◌}
use Rattle.draftwords.specs.Heads.{place_fits}
use Rattle.drafts.specs.Drafts.{has_task}
use Rattle.totals.proofs.place_fits.Goals as goal

pub returns-then-is_free : goal.returns-then-is_free
unfolding place_fits
returns-then-is_free c = rw (sym c.is_free.ensures ∙ c.if-is_free.true) refl

pub returns-then-not-has_task : goal.returns-then-not-has_task
unfolding place_fits
returns-then-not-has_task c =
    let w = c.args.words.now in let x = c.piece_at-piece.ensures in
    let t = sym c.has_task.ensures ∙ c.if-not-has_task.true in
    rw (sym c.is_free.ensures ∙ c.if-is_free.false, ← x, t) refl

pub fits_job-requires : goal.fits_job-requires
unfolding has_task
fits_job-requires c = let p = c.requires in (p.0, ltb-true _ _ (sym c.has_task.ensures ∙ c.if-not-has_task.false))

pub returns : goal.returns
unfolding place_fits
returns c =
    let x = c.piece_at-piece.ensures in
    let t = sym c.has_task.ensures ∙ c.if-not-has_task.false in
    rw (sym c.is_free.ensures ∙ c.if-is_free.false, ← x, t) c.fits_job.ensures
