-- What this crate's own functions give, in the words of the definitions.
use Rattle.std.specs.Prelude.{ℕ, Bool, ◌&&◌, List, length, eqb, leb}
use Rattle.plan.specs.declared.Table.{Table}
use Rattle.plan.specs.declared.Table.TheVariants.{Cores}
use Rattle.plan.specs.Image.{tables, shape, offset, rows, trailer_bytes, most_bytes, cycle_ticks, precision}
use Rattle.plan.specs.Questions.{laid}

-- 1, 3, 4, as image_questions asks them
unfoldable pub length_fits : List ℕ → Bool
length_fits s = leb trailer_bytes (length s) && leb (length s) (most_bytes tables)

unfoldable pub table_fits : List ℕ → Table → ℕ → Bool
table_fits s t from = leb (rows s t) (shape t).most && eqb (offset s t) from

unfoldable pub laid_out : List ℕ → Bool
laid_out s = leb 1 (rows s Cores) && laid s 0 tables

unfoldable pub ticks_fit : List ℕ → Bool
ticks_fit s = leb 1 (cycle_ticks s) && leb (cycle_ticks s) 1000000 && leb (precision s) 10000
