use mathlib.Core.Path.{refl}
use Rattle.moves.specs.Lookups.{fits_table}
use Rattle.moves.proofs.fits_table.Goals as goal

pub returns : goal.returns
unfolding fits_table
returns c = refl
