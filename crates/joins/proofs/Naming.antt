-- The new numbers of the second's tasks and streams name its own rows in the joined tables.
use Prim.Native.Nat.{ℕ, zero, suc, ◌+◌, ◌-◌, ◌≤◌, ◌<◌}
use mathlib.Core.Path.{◌≡◌, refl, sym, ap, ◌∙◌}
use mathlib.Core.Bool.{Bool, true, false, cond}
use mathlib.Core.List.{List, ◌∷◌, ◌++◌, []}
use native.Mathlib.Nat.{not-suc-le-zero, le_of_suc-le-suc}
use native.Mathlib.Omega.{arith}
use native.Mathlib.Decide.{dec_lt}
use lib.ListN.{length, get_or, drop, length-append, length-drop, get_or-append}
use lib.Seq.{get_or-append-add, get_or-drop}
use borrow.Author.Tests.{lt-ltb, le-ltb}
use Rattle.plan.specs.declared.Table.TheVariants.{Tasks, Streams}
use Rattle.std.specs.Prelude.{Option}
use Rattle.std.specs.Prelude.{Some, None}
use Rattle.plan.specs.Image.{rows}
use Rattle.plan.specs.Search.{count}
use Rattle.plan.proofs.Searching.{first_at}
use Rattle.plan.proofs.Counting.{count_next}
use Rattle.plan.proofs.Tests.{no_count}
use Rattle.joins.specs.Joins
use Rattle.joins.specs.Joins.{rows_by, row_words, rows_of, same_words, lowest, is_new, new_rows, row_at, names_stream}
use Rattle.joins.specs.Claim.{JoinsName}
use Rattle.joins.proofs.Lists.{rows_by_long, rows_long, rows_at, same_words_holds, is_new_holds}
use Rattle.joins.proofs.Asked.{Leading, leading_says, asked}

-- ---- where a row is once new rows are appended

-- one more row at the front
count_front : (f : ℕ → Bool) (n : ℕ) → count (suc n) f ≡ cond (f 0) 1 0 + count n (λ q. f (suc q))
count_front f zero = count_next f 0 ∙ rw (no_count f, no_count (λ q. f (suc q))) (omega arith)
count_front f (suc n) = count_next f (suc n) ∙ rw (count_front f n, count_next (λ q. f (suc q)) n) (omega arith)

-- the new row r is after as many rows as are new before it
new_at : (rs xs : List (List ℕ)) (r : ℕ) → r < length xs → is_new rs (get_or xs r []) ≡ true
    → (count r (λ q. is_new rs (get_or xs q [])) < length (new_rows rs xs)) × (get_or (new_rows rs xs) (count r (λ q. is_new rs (get_or xs q []))) [] ≡ get_or xs r [])
unfolding new_rows
new_at rs [] r l e = absurd (not-suc-le-zero l)
new_at rs (x ∷ xs) zero l e = rw (no_count (λ q. is_new rs (get_or (x ∷ xs) q [])), e) (omega arith, refl)
new_at rs (x ∷ xs) (suc r) l e =
    rw (count_front (λ q. is_new rs (get_or (x ∷ xs) q [])) r) (go (is_new rs x) (new_at rs xs r (le_of_suc-le-suc l) e))
  where
    go : (c : Bool) → (count r (λ q. is_new rs (get_or xs q [])) < length (new_rows rs xs)) × (get_or (new_rows rs xs) (count r (λ q. is_new rs (get_or xs q []))) [] ≡ get_or xs r [])
        → (cond c 1 0 + count r (λ q. is_new rs (get_or xs q [])) < length (cond c (x ∷ []) [] ++ new_rows rs xs))
        × (get_or (cond c (x ∷ []) [] ++ new_rows rs xs) (cond c 1 0 + count r (λ q. is_new rs (get_or xs q []))) [] ≡ get_or xs r [])
    go true h = let e : 1 + count r (λ q. is_new rs (get_or xs q [])) ≡ suc (count r (λ q. is_new rs (get_or xs q []))) = omega arith in rw e (omega (arith, h.0), h.1)
    go false h = let e : 0 + count r (λ q. is_new rs (get_or xs q [])) ≡ count r (λ q. is_new rs (get_or xs q [])) = omega arith in rw e h

pub row_at_is : (rs xs : List (List ℕ)) (r : ℕ) → r < length xs
    → (row_at rs xs r < length (rs ++ new_rows rs xs)) × (get_or (rs ++ new_rows rs xs) (row_at rs xs r) [] ≡ get_or xs r [])
unfolding row_at
row_at_is rs xs r l = go (lowest rs (get_or xs r [])) refl
  where
    go : (d : Option ℕ) → lowest rs (get_or xs r []) ≡ d → (row_at rs xs r < length (rs ++ new_rows rs xs)) × (get_or (rs ++ new_rows rs xs) (row_at rs xs r) [] ≡ get_or xs r [])
    go (Some i) e =
        let h : (i < length rs) × (same_words (get_or rs i []) (get_or xs r []) ≡ true) = unfold lowest in (first_at (λ i. same_words (get_or rs i []) (get_or xs r [])) (length rs) i e) in
        rw (e, row_at) (rw (length-append rs (new_rows rs xs)) (omega (arith, h.0)), get_or-append rs (new_rows rs xs) [] i h.0 ∙ same_words_holds (get_or rs i []) (get_or xs r []) h.1)
    go None e =
        let h = new_at rs xs r l (is_new_holds rs (get_or xs r []) e) in
        rw (e, row_at) (rw (length-append rs (new_rows rs xs)) (omega (arith, h.0)), get_or-append-add rs (new_rows rs xs) (count r (λ q. is_new rs (get_or xs q []))) [] ∙ h.1)

-- ---- tasks and streams

module _ (a b : List ℕ) (s : ℕ) where
  -- how many tasks there are
  pub tasks_long : length (Joins.joined_rows a b s Tasks) ≡ rows a Tasks + (rows b Tasks - s)
  unfolding Joins.joined_rows
  tasks_long = length-append (rows_of a Tasks) (drop s (rows_of b Tasks)) ∙ rw (length-drop s (rows_of b Tasks), rows_long a Tasks, rows_long b Tasks) refl

  pub first_task : (r : ℕ) → r < rows a Tasks → (r < length (Joins.joined_rows a b s Tasks)) × (get_or (Joins.joined_rows a b s Tasks) r [] ≡ row_words a Tasks r)
  unfolding Joins.joined_rows
  first_task r l = (
    omega (arith, tasks_long),
    get_or-append (rows_of a Tasks) (drop s (rows_of b Tasks)) [] r (omega (arith, rows_long a Tasks)) ∙ rows_at a Tasks r l,
  )

  pub low_task : (r : ℕ) → r < s → Joins.task_at a b s r ≡ r
  unfolding Joins.task_at
  low_task r l = rw (lt-ltb r s l) refl

  pub high_task : (r : ℕ) → s ≤ r → Joins.task_at a b s r ≡ rows a Tasks + (r - s)
  unfolding Joins.task_at
  high_task r l = rw (le-ltb r s l) refl

  later_task : (r : ℕ) → s ≤ r → r < rows b Tasks
      → (rows a Tasks + (r - s) < length (Joins.joined_rows a b s Tasks)) × (get_or (Joins.joined_rows a b s Tasks) (rows a Tasks + (r - s)) [] ≡ row_words b Tasks r)
  unfolding Joins.joined_rows
  later_task r g l =
      let e : s + (r - s) ≡ r = omega arith in (
        omega (arith, tasks_long),
        ap (λ (k : ℕ). get_or (rows_of a Tasks ++ drop s (rows_of b Tasks)) (k + (r - s)) []) (sym (rows_long a Tasks))
            ∙ get_or-append-add (rows_of a Tasks) (drop s (rows_of b Tasks)) (r - s) [] ∙ get_or-drop s (rows_of b Tasks) (r - s) []
            ∙ ap (λ (k : ℕ). get_or (rows_of b Tasks) k []) e ∙ rows_at b Tasks r l,
      )

  pub second_task : Leading a b s → (r : ℕ) → r < rows b Tasks
      → (Joins.task_at a b s r < length (Joins.joined_rows a b s Tasks)) × (get_or (Joins.joined_rows a b s Tasks) (Joins.task_at a b s r) [] ≡ row_words b Tasks r)
  second_task h r l = go (dec_lt r s)
    where
      go : Dec (r < s) → (Joins.task_at a b s r < length (Joins.joined_rows a b s Tasks)) × (get_or (Joins.joined_rows a b s Tasks) (Joins.task_at a b s r) [] ≡ row_words b Tasks r)
      go (yes k) = let o = first_task r (omega (arith, h.first)) in rw (low_task r k) (o.0, o.1 ∙ h.equal r k)
      go (no k) = rw (high_task r (omega arith)) (later_task r (omega arith) l)

  -- no word of a stream names a stream
  pub second_streams : rows_by b Streams (Joins.with_tasks a b s Streams) ≡ Joins.second_rows a b s Streams
  unfolding Joins.second_rows Joins.renumber names_stream
  second_streams = refl

  pub second_stream : (m : ℕ) → m < rows b Streams
      → (Joins.stream_at a b s m < length (Joins.joined_rows a b s Streams)) × (get_or (Joins.joined_rows a b s Streams) (Joins.stream_at a b s m) [] ≡ get_or (Joins.second_rows a b s Streams) m [])
  unfolding Joins.joined_rows Joins.appended Joins.stream_at
  second_stream m l = rw second_streams (row_at_is (rows_of a Streams) (Joins.second_rows a b s Streams) m (unfold Joins.second_rows in (rw (rows_by_long b Streams (Joins.renumber a b s Streams)) l)))

pub joins_name : JoinsName
joins_name a b s lent e =
    record { tasks = second_task a b s (leading_says a b s (asked a b s lent e).leading); streams = second_stream a b s }
