use Rattle.std.proofs.Common.{◌≡◌, ◌<◌, ℕ, Bool}
use Rattle.plan.specs.declared.Table.{Table}
use Rattle.plan.specs.Image.{tables, rows}
use Rattle.plan.specs.Questions.{each_table}
use Rattle.plan.specs.Held.{Passed}
use Rattle.rows.proofs.each_table.Given as goal

abbrev pub invariant-loop-i : goal.invariant-loop-i
invariant-loop-i g l =
    (p : Table → ℕ → Bool) → ((t : Table) (r : ℕ) (b : Bool) → r < rows l.image t → goal.F-post g l.ok t r b → b ≡ p t r)
    → Passed (each_table l.image l.number tables p) l.i
