-- Words written into lent bytes one after another, row counts, and what is written.
use Rattle.std.specs.Prelude.{ℕ, ◌+◌, ◌*◌, ◌≡◌, true, false, Option, Some, None, cond, length, drop}
use mathlib.Core.List.{List, ◌++◌, flat_map}
use Rattle.std.proofs.lemmas.List.Edits.{sets}
use Rattle.plan.specs.declared.Table.{Table}
use Rattle.plan.specs.Image.{tables, trailer_bytes}
use Rattle.plan.specs.Boundary.{bytes_of}
use Rattle.joins.specs.Joins.{table_words, layout_from, rows_fit, joined_image, join_fits}
use Rattle.tables.specs.Tables.{table_count, table_at}
use Rattle.tallies.specs.Tallies.{Kept}

-- the words ws written from byte `at` on; `next` is the byte after them
pub record Wrote (before : List ℕ) (at : ℕ) (ws : List ℕ) (next : ℕ) (after : List ℕ) : Type 0 where
  pub reached : next ≡ at + 4 * length ws
  pub holds : after ≡ sets before at (flat_map (bytes_of 4) ws)

module _ (rs : Table → List (List ℕ)) where
  -- the words hold the row count of each table
  abbrev pub Tallied : List ℕ → Type 0
  Tallied counts = Kept counts 0 table_count (λ i. length (rs (table_at i)))

  -- counted: the image's length, or none where a table has too many rows
  pub record Counted (counts : List ℕ) (n : Option ℕ) : Type 0 where
    pub fits : rows_fit rs tables ≡ true → (n ≡ Some (trailer_bytes + 4 * length (table_words rs tables))) × Tallied counts
    pub exceeds : rows_fit rs tables ≡ false → n ≡ None

-- the layout of any tables that have these row counts, written
abbrev pub WroteLayout : List ℕ → List ℕ → ℕ → ℕ → List ℕ → Type 0
WroteLayout counts before at next after = (rs : Table → List (List ℕ)) → Tallied rs counts → Wrote before at (layout_from rs 0 tables) next after

-- written where 37 says yes: the length, or none, and the lent bytes afterwards
pub record Written (a b : List ℕ) (s : ℕ) (lent : List ℕ) (n : Option ℕ) (after : List ℕ) : Type 0 where
  pub size : n ≡ cond (join_fits a b s (length lent)) (Some (length (joined_image a b s))) None
  pub bytes : after ≡ cond (join_fits a b s (length lent)) (joined_image a b s ++ drop (length (joined_image a b s)) lent) lent
