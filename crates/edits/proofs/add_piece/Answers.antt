use mathlib.Core.Path.{sym, ◌∙◌}
use Rattle.readings.proofs.Readings.{headed_of}
use Rattle.edits.proofs.Asked.{draft_room, task_there, add_33, add_5, add_10, add_34, add_asked, add_0}
use Rattle.edits.proofs.add_piece.Goals as goal

pub returns-then-not-is_draft : goal.returns-then-not-is_draft
returns-then-not-is_draft c = let a = c.args in let w = a.words.now in let p = a.place in let x = a.piece in add_33 w p x (sym c.is_draft.ensures ∙ c.if-not-is_draft.true)

pub has_task-requires : goal.has_task-requires
has_task-requires c = draft_room c.args.words.now (sym c.is_draft.ensures ∙ c.if-not-is_draft.false)

pub returns-then-not-has_task : goal.returns-then-not-has_task
returns-then-not-has_task c = let a = c.args in let w = a.words.now in let p = a.place in let x = a.piece in add_5 w p x (sym c.is_draft.ensures ∙ c.if-not-is_draft.false) (sym c.has_task.ensures ∙ c.if-not-has_task.true)

pub fits_job-requires : goal.fits_job-requires
fits_job-requires c = let a = c.args in let w = a.words.now in let p = a.place in let x = a.piece in (headed_of w (sym c.is_draft.ensures ∙ c.if-not-is_draft.false), task_there w x (sym c.has_task.ensures ∙ c.if-not-has_task.false))

pub returns-then-not-fits_job : goal.returns-then-not-fits_job
returns-then-not-fits_job c = let a = c.args in let w = a.words.now in let p = a.place in let x = a.piece in add_10 w p x (sym c.is_draft.ensures ∙ c.if-not-is_draft.false) (sym c.has_task.ensures ∙ c.if-not-has_task.false) (sym c.fits_job.ensures ∙ c.if-not-fits_job.true)

pub is_open-requires : goal.is_open-requires
is_open-requires c = draft_room c.args.words.now (sym c.is_draft.ensures ∙ c.if-not-is_draft.false)

pub returns-then-not-is_open : goal.returns-then-not-is_open
returns-then-not-is_open c = let a = c.args in let w = a.words.now in let p = a.place in let x = a.piece in add_34 w p x (sym c.is_draft.ensures ∙ c.if-not-is_draft.false) (sym c.has_task.ensures ∙ c.if-not-has_task.false) (sym c.fits_job.ensures ∙ c.if-not-fits_job.false) (sym c.is_open.ensures ∙ c.if-not-is_open.true)

pub put_piece-requires : goal.put_piece-requires
put_piece-requires c = let a = c.args in let w = a.words.now in let p = a.place in let x = a.piece in add_asked w p x (sym c.is_draft.ensures ∙ c.if-not-is_draft.false) (sym c.has_task.ensures ∙ c.if-not-has_task.false) (sym c.fits_job.ensures ∙ c.if-not-fits_job.false) (sym c.is_open.ensures ∙ c.if-not-is_open.false)

pub returns : goal.returns
returns c = let a = c.args in let w = a.words.now in let p = a.place in let x = a.piece in add_0 w p x (sym c.is_draft.ensures ∙ c.if-not-is_draft.false) (sym c.has_task.ensures ∙ c.if-not-has_task.false) (sym c.fits_job.ensures ∙ c.if-not-fits_job.false) _ (sym c.is_open.ensures ∙ c.if-not-is_open.false) c.put_piece.ensures
