-- 5, 32 and 6 over the ten tables: what the loop over them needs.
use Rattle.std.proofs.Common.{ℕ, suc, ◌<◌, Result}
use mathlib.Core.Path.{◌≡◌, refl, ap, sym, ◌∙◌}
use mathlib.Core.Bool.{Bool}
use mathlib.Core.List.{List}
use native.Mathlib.Omega.{arith}
use lib.ListN.{length}
use Rattle.plan.specs.declared.Table.{Table}
use Rattle.plan.specs.declared.Answer.{Answer}
use Rattle.plan.specs.Image.{tables, rows}
use Rattle.plan.specs.Search.{first_no}
use Rattle.plan.specs.Held.{Passed, refusing}
use Rattle.asking.specs.Asking.{told}
use Rattle.asking.proofs.Verdicts.{AskedTo, asks}
use Rattle.plan.specs.Questions.{Question, question_at, each, each_table}
use Rattle.plan.proofs.Asking.{between}
use Rattle.tables.specs.Tables.{table_at, table_count}

-- question i of the list is the one over table i
pub asked_table : (s : List ℕ) (n : ℕ) (ok : Table → ℕ → Bool) (i : ℕ) → i < table_count
    → question_at (each_table s n tables ok) i ≡ each s n (table_at i) (ok (table_at i))
unfolding question_at each_table tables table_at
asked_table s n ok i l =
    between (λ j. question_at (each_table s n tables ok) j ≡ each s n (table_at j) (ok (table_at j))) 0 table_count
    (refl, (refl, (refl, (refl, (refl, (refl, (refl, (refl, (refl, (refl, tt))))))))))
    i
    (omega arith)
    (omega arith)

pub all_asked : (s : List ℕ) (n : ℕ) (ok : Table → ℕ → Bool) → length (each_table s n tables ok) ≡ table_count
unfolding each_table tables
all_asked s n ok = refl

-- it is asked where those over the tables before it are passed
pub asks_table : (s : List ℕ) (n : ℕ) (ok : Table → ℕ → Bool) (i : ℕ) → i < table_count → (t : Table) → t ≡ table_at i → (r : Result (Unit {0}) Answer)
    → Passed (each_table s n tables ok) i → r ≡ told (record { number = n; table = t }) (first_no (rows s t) (ok t))
    → AskedTo (each_table s n tables ok) (suc i) r
unfolding each
asks_table s n ok i l t z r h e =
    let here : question_at (each_table s n tables ok) i ≡ each s n t (ok t) = rw z (asked_table s n ok i l) in
    asks (each_table s n tables ok) i (record { number = n; table = t }) r
    (record { number = ap (λ (q : Question). q.asked) here; table = ap (λ (q : Question). q.table) here })
    (rw all_asked l) h (e ∙ ap (told (record { number = n; table = t })) (sym (ap refusing here)))
