use mathlib.Core.Path.{sym, ◌∙◌}
use Rattle.plan.specs.Boundary.{words_of}
use Rattle.records.proofs.Entries.{no_entry, decided_27, decided_28, decided_0, number_said}
use Rattle.records.proofs.number_for.Goals as goal

pub returns-then-not-has_entry : goal.returns-then-not-has_entry
returns-then-not-has_entry c = let w = words_of c.args.words.now in let st = c.args.state in sym (no_entry w st (sym c.has_entry.ensures ∙ c.if-not-has_entry.true))

pub look_up-table-requires : goal.look_up-table-requires
look_up-table-requires c = sym c.has_entry.ensures ∙ c.if-not-has_entry.false

pub returns-then-not-fits_table : goal.returns-then-not-fits_table
returns-then-not-fits_table c = let w = words_of c.args.words.now in let st = c.args.state in let l = c.look_up-table in decided_27 l.result st (sym c.fits_table.ensures ∙ c.if-not-fits_table.true) ∙ number_said w st l.result l.ensures

pub returns-then-ends_calendar : goal.returns-then-ends_calendar
returns-then-ends_calendar c = let w = words_of c.args.words.now in let st = c.args.state in let l = c.look_up-table in decided_28 l.result st (sym c.fits_table.ensures ∙ c.if-not-fits_table.false) (sym c.ends_calendar.ensures ∙ c.if-ends_calendar.true) ∙ number_said w st l.result l.ensures

pub returns : goal.returns
returns c = let w = words_of c.args.words.now in let st = c.args.state in let l = c.look_up-table in decided_0 l.result st (sym c.fits_table.ensures ∙ c.if-not-fits_table.false) (sym c.ends_calendar.ensures ∙ c.if-ends_calendar.false) ∙ number_said w st l.result l.ensures
