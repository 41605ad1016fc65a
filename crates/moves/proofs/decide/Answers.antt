use mathlib.Core.Path.{refl, sym, ◌∙◌, ap}
use Rattle.plan.specs.declared.LaneState.{LaneState}
use Rattle.plan.specs.declared.Stepped.{Stepped}
use Rattle.moves.specs.Lookups.{decided}
use Rattle.moves.proofs.Deciding.{fitting}
use Rattle.moves.proofs.decide.Goals as goal

pub returns-then-not-fits_table : goal.returns-then-not-fits_table
unfolding decided
returns-then-not-fits_table c = rw (← c.fits_table.ensures, c.if-not-fits_table.true) refl

pub returns-then-ends_calendar : goal.returns-then-ends_calendar
unfolding decided
returns-then-ends_calendar c = rw (← c.fits_table.ensures, c.if-not-fits_table.false, ← c.ends_calendar.ensures, c.if-ends_calendar.true) refl

pub state_after-next-requires : goal.state_after-next-requires
state_after-next-requires c = (fitting c.args.table c.args.state (sym c.fits_table.ensures ∙ c.if-not-fits_table.false), sym c.ends_calendar.ensures ∙ c.if-ends_calendar.false)

pub returns : goal.returns
unfolding decided
returns c =
    let moved : LaneState → Stepped = λ st. record { number = 0; state = st } in
    rw (← c.fits_table.ensures, c.if-not-fits_table.false, ← c.ends_calendar.ensures, c.if-ends_calendar.false)
    (ap moved c.state_after-next.ensures)
