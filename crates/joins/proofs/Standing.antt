-- Every row of the first plan, and every renumbered row of the second, stands in the joined tables.
use Prim.Native.Nat.{ℕ, ◌<◌}
use mathlib.Core.Path.{◌≡◌, sym}
use mathlib.Core.Bool.{true, true≢false}
use mathlib.Core.List.{List}
use lib.ListN.{drop}
use Rattle.plan.specs.declared.Table.{Table}
use Rattle.plan.specs.declared.Table.TheVariants.{Cores, Vcpus, Tasks, Windows, Pieces, Links, Streams, Frames, Buffers, Chains}
use Rattle.plan.specs.Image.{rows, shape}
use Rattle.joins.specs.Joins.{row_by, row_words, rows_of, new_rows, renumber, second_rows, appended, joined_rows}
use Rattle.joins.specs.Claim.{StandsIn, adds, JoinsStand}
use Rattle.joins.proofs.Lists.{rows_by_long, rows_by_at, rows_long, rows_at, Has, has_left, joined_has}
use Rattle.joins.proofs.Sorting.{sorted_has}

module _ (a b : List ℕ) (s : ℕ) where
  -- its own rows, and those with the second's appended
  own : (t : Table) (r : ℕ) → r < rows a t → Has (rows_of a t) (row_words a t r)
  own t r l = record { row = r; exists = rw (rows_long a t) l; words = rows_at a t r l }

  first_appended : (t : Table) (r : ℕ) → r < rows a t → Has (appended a b s t) (row_words a t r)
  unfolding appended
  first_appended t r l = has_left (new_rows (rows_of a t) (second_rows a b s t)) (own t r l)

  pub first_stands : (t : Table) (r : ℕ) → r < rows a t → Has (joined_rows a b s t) (row_words a t r)
  unfolding joined_rows
  first_stands Cores r l = own Cores r l
  first_stands Vcpus r l = own Vcpus r l
  first_stands Tasks r l = has_left (drop s (rows_of b Tasks)) (own Tasks r l)
  first_stands Windows r l = own Windows r l
  first_stands Pieces r l = sorted_has Pieces _ _ (first_appended Pieces r l)
  first_stands Links r l = own Links r l
  first_stands Streams r l = first_appended Streams r l
  first_stands Frames r l = sorted_has Frames _ _ (first_appended Frames r l)
  first_stands Buffers r l = first_appended Buffers r l
  first_stands Chains r l = first_appended Chains r l

  -- the second's, of tables 5 and 7 to 10
  second_appended : (t : Table) (r : ℕ) → r < rows b t → Has (appended a b s t) (row_by b t (renumber a b s t) r)
  unfolding appended second_rows
  second_appended t r l =
      let mine : Has (second_rows a b s t) (row_by b t (renumber a b s t) r) =
      record { row = r; exists = rw (rows_by_long b t (renumber a b s t)) l; words = rows_by_at b t (renumber a b s t) r l } in
      joined_has (rows_of a t) (second_rows a b s t) _ mine

  pub second_stands : (t : Table) (r : ℕ) → adds t ≡ true → r < rows b t → Has (joined_rows a b s t) (row_by b t (renumber a b s t) r)
  unfolding joined_rows adds shape
  second_stands Cores r e l = absurd (true≢false (sym e))
  second_stands Vcpus r e l = absurd (true≢false (sym e))
  second_stands Tasks r e l = absurd (true≢false (sym e))
  second_stands Windows r e l = absurd (true≢false (sym e))
  second_stands Pieces r e l = sorted_has Pieces _ _ (second_appended Pieces r l)
  second_stands Links r e l = absurd (true≢false (sym e))
  second_stands Streams r e l = second_appended Streams r l
  second_stands Frames r e l = sorted_has Frames _ _ (second_appended Frames r l)
  second_stands Buffers r e l = second_appended Buffers r l
  second_stands Chains r e l = second_appended Chains r l

standing : {xs : List (List ℕ)} {x : List ℕ} → Has xs x → StandsIn xs x
standing h = (h.row, h.exists, h.words)

pub joins_stand : JoinsStand
joins_stand a b s = record { first = λ t r l. standing (first_stands a b s t r l); second = λ t r e l. standing (second_stands a b s t r e l) }
