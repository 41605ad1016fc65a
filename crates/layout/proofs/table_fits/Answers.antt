use mathlib.Core.Path.{refl}
use Rattle.layout.specs.Tests.{table_fits}
use Rattle.layout.proofs.table_fits.Goals as goal

pub returns : goal.returns
unfolding table_fits
returns c = rw (c.rows_of.ensures, c.shape_of.ensures, c.offset_of.ensures) refl
