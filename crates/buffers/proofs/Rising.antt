-- A writer's jobs start in their own periods, so a row's holds rise with their jobs; and writer and reader have as many jobs.
use Prim.Native.Nat.{ℕ, ◌+◌, ◌*◌, ◌≤◌, ◌<◌}
use mathlib.Core.Path.{◌≡◌, refl, ap, subst}
use mathlib.Core.Logic.{◌⊎◌, inl, inr}
use mathlib.Core.Bool.{cond}
use mathlib.Core.List.{List}
use native.Mathlib.Nat.{mul-le-mul_right, eq-or-lt_of_le, suc-mul}
use native.Mathlib.Omega.{arith}
use lib.Dec.{eqb}
use Rattle.plan.specs.declared.Table.TheVariants.{Tasks, Pieces, Buffers}
use Rattle.plan.specs.Image.{rows, cycle_ticks, piece, task, buffer}
use Rattle.plan.specs.Questions.{piece_questions, buffer_questions, each, question_at, buffer_ends, node_of, jobs, release, due, of_job, first_start, hold, piece_end}
use Rattle.plan.specs.Held.{Sound, Passed}
use Rattle.plan.proofs.Searching.{and_true}
use Rattle.plan.proofs.Asking.{passed_row}
use Rattle.plan.proofs.Jobs.{of_job_holds}
use Rattle.plan.proofs.Spans.{smallest_le, first_released}
use Rattle.jobs.proofs.Held.{piece_fits_holds, has_piece}
use borrow.Author.Tests.{eqb-true}

-- 22: writer and reader have one period, so as many jobs
pub same_jobs : (s : List ℕ) → Passed (buffer_questions s) 1 → (b : ℕ) → b < rows s Buffers → jobs s (buffer s b).reader ≡ jobs s (buffer s b).writer
unfolding question_at buffer_questions each buffer_ends jobs
same_jobs s h b l =
    let w = (buffer s b).writer in let r = (buffer s b).reader in
    let t = passed_row (buffer_questions s) 1 h 0 (omega arith) b l in
    let e : (task s w).period ≡ (task s r).period = eqb-true _ _ (and_true (eqb (task s w).period (task s r).period) (eqb (node_of s w) (node_of s r)) t).0 in
    rw e refl

module _ (s : List ℕ) (h : Sound s) (p : Passed (piece_questions s) 7) (t : ℕ) (lt : t < rows s Tasks) where
  abbrev T : ℕ
  T = (task s t).period

  abbrev starts : ℕ → ℕ → ℕ
  starts k i = cond (of_job s t k i) (piece s i).start (cycle_ticks s)

  -- a job starts in its own ticks
  first_high : (k : ℕ) → k < jobs s t → first_start s t k < (k + 1) * T
  unfolding first_start due piece_end
  first_high k l =
      let w = has_piece s h 7 p (omega arith) t k lt l in
      let e = of_job_holds s t k w.0 w.2 in
      let f = piece_fits_holds s h 7 p (omega arith) w.0 w.1 in
      let low = smallest_le (cycle_ticks s) (starts k) (rows s Pieces) w.0 w.1 in
      let here : starts k w.0 ≡ (piece s w.0).start = rw w.2 refl in
      let d : (piece s w.0).start + (piece s w.0).length ≤ k * T + (task s t).deadline = rw (e.0, e.1) at f.3 in
      omega (arith, (h.ranges Tasks t lt).4, suc-mul k T, f.1)

  first_low : (k : ℕ) → k < jobs s t → k * T ≤ first_start s t k
  unfolding release
  first_low k l = first_released s (piece_fits_holds s h 7 p (omega arith)) t k l

  pub starts_rise : (x y : ℕ) → x ≤ y → y < jobs s t → first_start s t x ≤ first_start s t y
  starts_rise x y l m = go (eq-or-lt_of_le l)
    where
      go : (x ≡ y) ⊎ (x < y) → first_start s t x ≤ first_start s t y
      go (inl e) = let q = ap (first_start s t) e in omega arith
      go (inr q) =
          let a = first_high x (omega arith) in let b = first_low y m in
          let c : x + 1 ≤ y = omega arith in
          omega (arith, mul-le-mul_right T c)

-- a row's holds rise with their jobs, n of which the code counted
pub holds_rise : (s : List ℕ) → Sound s → Passed (piece_questions s) 7 → (b n : ℕ) → b < rows s Buffers → n ≡ jobs s (buffer s b).writer
    → (x y : ℕ) → x ≤ y → y < n → (hold s b x).from ≤ (hold s b y).from
unfolding hold
holds_rise s h p b n l e x y k m = starts_rise s h p (buffer s b).writer (h.names Buffers b l).0 x y k (subst (λ (z : ℕ). y < z) e m)
