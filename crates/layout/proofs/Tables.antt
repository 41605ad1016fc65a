-- 3: the ten tables one after another.
use Prim.Native.Nat.{ℕ, ◌+◌, ◌<◌}
use mathlib.Core.Path.{◌≡◌, refl, ◌∙◌}
use mathlib.Core.Bool.{true, false}
use mathlib.Core.List.{List, ◌∷◌}
use native.Mathlib.Numerals.{add-one}
use lib.Dec.{eqb}
use lib.ListN.{length, drop}
use lib.Seq.{drop-cons}
use Rattle.plan.specs.declared.Table.TheVariants.{Cores}
use Rattle.plan.specs.Image.{tables, table_end, trailer_at}
use Rattle.plan.specs.Questions.{laid}
use Rattle.tables.specs.Tables.{table_at, table_count}
use Rattle.layout.specs.Tests.{table_fits}

many : length tables ≡ table_count
unfolding tables
many = refl

tables_from : (i : ℕ) → i < table_count → drop i tables ≡ table_at i ∷ drop (i + 1) tables
unfolding table_at
tables_from i l = drop-cons tables i Cores (rw many l) ∙ (rw add-one refl)

module _ (s : List ℕ) (from i : ℕ) (l : i < table_count) where
  -- 3, at table i
  pub laid_on : table_fits s (table_at i) from ≡ true → laid s from (drop i tables) ≡ laid s (table_end s (table_at i)) (drop (i + 1) tables)
  unfolding laid table_fits
  laid_on h = rw (tables_from i l, laid, h) refl

  pub laid_no : table_fits s (table_at i) from ≡ false → laid s from (drop i tables) ≡ false
  unfolding laid table_fits
  laid_no h = rw (tables_from i l, laid, h) refl

pub laid_end : (s : List ℕ) (from i : ℕ) → i ≡ table_count → laid s from (drop i tables) ≡ eqb from (trailer_at s)
unfolding laid tables
laid_end s from i e = rw e refl
