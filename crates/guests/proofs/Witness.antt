-- The premises can be met, and the changed VCPU may show something else: two plans (specs/Cases.antt) of which the second has a task more and other pieces.
use Prim.Native.Nat.{ℕ, zero, suc}
use mathlib.Core.Path.{◌≡◌, refl, sym, ap}
use mathlib.Core.Logic.{◌≢◌}
use mathlib.Core.List.{List}
use native.Mathlib.Omega.{arith}
use Rattle.plan.specs.declared.Table.{Table}
use Rattle.plan.specs.declared.Table.TheVariants.{Cores, Vcpus, Tasks, Windows, Pieces, Links, Buffers, Chains}
use Rattle.plan.specs.Image.{rows, core, vcpu, task, window, piece}
use Rattle.plan.specs.Dispatch.{show, shown_at}
use Rattle.plan.specs.Cases.{bytes}
use Rattle.guests.specs.Guests.{Sight, nothing, in_window, in_job, taken, sight, of_guest, seeing}
use Rattle.guests.specs.Claim.{Carries, Alike, EqualRows, OthersFree, NotEmpty}
use Rattle.guests.specs.Cases.{before, changed, cases}

-- ---- of any plans

carried : (s t : List ℕ) (v : ℕ) → EqualRows s t Cores core → EqualRows s t Vcpus vcpu → EqualRows s t Tasks task → EqualRows s t Windows window
    → EqualRows s t Pieces piece → Carries s t v
carried s t v c u k w p =
    record {
      cores = λ r l. (omega (arith, c.0), c.1 r l);
      vcpus = λ r l. (omega (arith, u.0), u.1 r l);
      windows = λ r l. (r, omega (arith, w.0), w.1 r l);
      tasks = λ r l _. (omega (arith, k.0), k.1 r l);
      pieces = λ r l _. (r, omega (arith, p.0), p.1 r l);
    }

back_rows : {Row : Type 0} (s t : List ℕ) (table : Table) (row : List ℕ → ℕ → Row) → EqualRows s t table row → EqualRows t s table row
back_rows s t table row e = (sym e.0, λ r l. sym (e.1 r (omega (arith, e.0))))

pub others_free : OthersFree
others_free s t v a b h p c u k w i =
    record {
      plan = a;
      changed = b;
      cycle = h;
      precisions = p;
      there = carried s t v c u k w i;
      back = carried t s v (back_rows s t Cores core c) (back_rows s t Vcpus vcpu u) (back_rows s t Tasks task k) (back_rows s t Windows window w) (back_rows s t Pieces piece i);
    }

-- ---- of two plans

there : Carries (bytes before) (bytes changed) 1
unfolding cases
there =
    record {
      cores = elim [ zero ↦ λ h. (omega arith, refl) | suc zero ↦ λ h. (omega arith, refl) | suc (suc r) ↦ λ h. absurd (omega arith) ];
      vcpus = elim [ zero ↦ λ h. (omega arith, refl) | suc zero ↦ λ h. (omega arith, refl) | suc (suc r) ↦ λ h. absurd (omega arith) ];
      windows = elim [
        | zero ↦ λ h. (0, omega arith, refl)
        | suc zero ↦ λ h. (1, omega arith, refl)
        | suc (suc zero) ↦ λ h. (2, omega arith, refl)
        | suc (suc (suc zero)) ↦ λ h. (3, omega arith, refl)
        | suc (suc (suc (suc r))) ↦ λ h. absurd (omega arith)
      ];
      tasks = elim [ zero ↦ λ h n. (omega arith, refl) | suc zero ↦ λ h n. absurd (n refl) | suc (suc r) ↦ λ h n. absurd (omega arith) ];
      pieces = elim [
        | zero ↦ λ h n. (0, omega arith, refl)
        | suc zero ↦ λ h n. absurd (n refl)
        | suc (suc zero) ↦ λ h n. (3, omega arith, refl)
        | suc (suc (suc r)) ↦ λ h n. absurd (omega arith)
      ];
    }

back : Carries (bytes changed) (bytes before) 1
unfolding cases
back =
    record {
      cores = elim [ zero ↦ λ h. (omega arith, refl) | suc zero ↦ λ h. (omega arith, refl) | suc (suc r) ↦ λ h. absurd (omega arith) ];
      vcpus = elim [ zero ↦ λ h. (omega arith, refl) | suc zero ↦ λ h. (omega arith, refl) | suc (suc r) ↦ λ h. absurd (omega arith) ];
      windows = elim [
        | zero ↦ λ h. (0, omega arith, refl)
        | suc zero ↦ λ h. (1, omega arith, refl)
        | suc (suc zero) ↦ λ h. (2, omega arith, refl)
        | suc (suc (suc zero)) ↦ λ h. (3, omega arith, refl)
        | suc (suc (suc (suc r))) ↦ λ h. absurd (omega arith)
      ];
      tasks = elim [
        | zero ↦ λ h n. (omega arith, refl)
        | suc zero ↦ λ h n. absurd (n refl)
        | suc (suc zero) ↦ λ h n. absurd (n refl)
        | suc (suc (suc r)) ↦ λ h n. absurd (omega arith)
      ];
      pieces = elim [
        | zero ↦ λ h n. (0, omega arith, refl)
        | suc zero ↦ λ h n. absurd (n refl)
        | suc (suc zero) ↦ λ h n. absurd (n refl)
        | suc (suc (suc zero)) ↦ λ h n. (2, omega arith, refl)
        | suc (suc (suc (suc r))) ↦ λ h n. absurd (omega arith)
      ];
    }

pub alike : Alike (bytes before) (bytes changed) 1
unfolding cases
alike = record { plan = refl; changed = refl; cycle = refl; precisions = refl; there = there; back = back }

-- a sight's task
task_of : Sight → ℕ
task_of nothing = 0
task_of (in_window k v w) = 0
task_of (in_job k v t j) = t
task_of (taken v) = 0

-- VCPU 1 works at tick 9 in both plans, on another task
noticed_there : of_guest 1 (sight (bytes before) 0 9) ≢ of_guest 1 (sight (bytes changed) 0 9)
unfolding cases seeing task_of
noticed_there e = let q : ◌≡◌ {A = ℕ} 1 2 = ap task_of e in absurd (omega arith)

pub not_empty : NotEmpty
not_empty = (bytes before, bytes changed, 1, alike, 0, 9, noticed_there)

-- VCPU 0 works at tick 17 in both, by another row of the pieces
row_moved : (shown_at (bytes before) 0 17 ≡ show 4 2) × (shown_at (bytes changed) 0 17 ≡ show 4 3)
unfolding cases
row_moved = (refl, refl)

-- a task and a piece more, and rows that the premises do not ask about
rows_more : (rows (bytes before) Tasks ≡ 2) × (rows (bytes changed) Tasks ≡ 3) × (rows (bytes before) Pieces ≡ 3) × (rows (bytes changed) Pieces ≡ 4)
    × (rows (bytes changed) Links ≡ 1) × (rows (bytes changed) Buffers ≡ 1) × (rows (bytes changed) Chains ≡ 1)
unfolding cases
rows_more = (refl, refl, refl, refl, refl, refl, refl)
