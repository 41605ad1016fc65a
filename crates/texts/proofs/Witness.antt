-- That texts which compare equal mean equal answers and tables says something: of these plans, case A and changes to it and case B, the texts differ in
-- what is compared, by the answer, by how many lanes there are, and by the entries alone.
use Prim.Native.Nat.{ℕ}
use mathlib.Core.Path.{◌≡◌, refl, ap}
use mathlib.Core.List.{List}
use native.Mathlib.Omega.{arith}
use lib.ListN.{get_or, set}
use Rattle.plan.specs.declared.Answer.{Answer}
use Rattle.plan.specs.Questions.{asking}
use Rattle.plan.specs.Dispatch.{dispatch}
use Rattle.plan.specs.Cases.{bytes, case_a, case_b}
use Rattle.texts.specs.Printed.{printed, compared}
use Rattle.texts.proofs.ReadBack.{same_text}

by_answer : ¬ (compared (printed (bytes case_a)) ≡ compared (printed (bytes (set case_a 8 5))))
unfolding asking dispatch bytes case_a
by_answer e = let n : ◌≡◌ {A = ℕ} 0 10 = ap (λ (a : Answer). a.number) (same_text (bytes case_a) (bytes (set case_a 8 5)) e).answer in omega (arith, n)

by_lanes : ¬ (compared (printed (bytes case_a)) ≡ compared (printed (bytes case_b)))
unfolding asking dispatch bytes case_a case_b
by_lanes e = let n : ◌≡◌ {A = ℕ} 1 3 = (same_text (bytes case_a) (bytes case_b) e).count refl in omega (arith, n)

-- the piece starts a tick later
by_entries : ¬ (compared (printed (bytes case_a)) ≡ compared (printed (bytes (set case_a 14 3))))
unfolding asking dispatch bytes case_a
by_entries e =
    let n : ◌≡◌ {A = ℕ} 3 2 = ap (λ (l : List ℕ). get_or l 4 0) ((same_text (bytes case_a) (bytes (set case_a 14 3)) e).table refl 0 (omega arith)) in
    omega (arith, n)
