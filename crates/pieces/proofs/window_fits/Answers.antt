use mathlib.Core.Path.{refl}
use Rattle.plan.specs.Questions.{window_fits}
use Rattle.pieces.proofs.window_fits.Goals as goal

-- src/lib.rt:55:1
pub returns : goal.returns
unfolding window_fits
returns c = rw (c.cycle_ticks.ensures, c.window_end.ensures, c.window_at.ensures, c.charge_at.ensures) refl
