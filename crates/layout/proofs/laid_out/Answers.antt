use mathlib.Core.Path.{refl}
use Rattle.layout.specs.Tests.{laid_out}
use Rattle.layout.proofs.laid_out.Goals as goal

pub returns : goal.returns
unfolding laid_out
returns c = rw (c.rows_of.ensures, c.tables_fit.ensures) refl
