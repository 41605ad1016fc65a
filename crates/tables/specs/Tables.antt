-- The tables by their place.
use Rattle.std.specs.Prelude.{ℕ, get_or}
use Rattle.plan.specs.declared.Table.{Table}
use Rattle.plan.specs.declared.Table.TheVariants.{Cores}
use Rattle.plan.specs.Image.{tables}

abbrev pub table_count : ℕ
table_count = 10

-- the i-th table
unfoldable pub table_at : ℕ → Table
table_at i = get_or tables i Cores
