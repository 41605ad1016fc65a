-- 13 by the work gathered: a job's pieces sum to C + n × d exactly if their work sums to C.
use Prim.Native.Nat.{ℕ, zero, suc, ◌+◌, ◌*◌, ◌≤◌, ◌<◌}
use mathlib.Core.Path.{◌≡◌, refl, sym, ap, ◌∙◌, subst}
use mathlib.Core.Bool.{Bool, true, false, cond}
use mathlib.Core.List.{List}
use native.Mathlib.Nat.{add-mul, one-mul, zero-mul}
use native.Mathlib.Omega.{arith}
use lib.Dec.{eqb}
use lib.ListN.{get_or}
use borrow.Author.Tests.{eq-eqb, eqb-true, eqb-false, ne_eqb}
use Rattle.plan.specs.declared.Table.TheVariants.{Tasks, Pieces}
use Rattle.plan.specs.Image.{rows, piece, task, most_pieces}
use Rattle.plan.specs.Search.{sum, count}
use Rattle.plan.specs.Questions.{piece_questions, jobs, of_job, job_budget, switch_ticks}
use Rattle.plan.specs.Held.{Sound, Passed}
use Rattle.plan.proofs.Jobs.{of_job_holds}
use Rattle.jobs.specs.Times.{place, work_of, AllGathered, JobsBefore, works_at}
use Rattle.jobs.proofs.Held.{piece_fits_holds, past_places}
use Rattle.jobs.proofs.Gathering.{place_of_task, work_read}

-- equal sums less the same
eqb_less : (a b k : ℕ) → eqb (a + k) (b + k) ≡ eqb a b
eqb_less a b k = go (eqb a b) refl
  where
    go : (c : Bool) → eqb a b ≡ c → eqb (a + k) (b + k) ≡ c
    go true e = eq-eqb (a + k) (b + k) (omega (arith, eqb-true a b e))
    go false e = ne_eqb (a + k) (b + k) (λ z. eqb-false a b e (omega arith))

module _ (s : List ℕ) (h : Sound s) (m : ℕ) (p : Passed (piece_questions s) m) (l : 4 ≤ m) (t k : ℕ) where
  work_sum : (n : ℕ) → n ≤ rows s Pieces
      → sum n (λ i. cond (of_job s t k i) (piece s i).length 0)
      ≡ sum n (λ i. cond (of_job s t k i) (work_of s i) 0) + count n (of_job s t k) * switch_ticks s t
  unfolding sum count work_of
  work_sum zero y = omega arith
  work_sum (suc n) y = go (of_job s t k n) refl (work_sum n (omega arith))
    where
      go : (b : Bool) → of_job s t k n ≡ b
          → sum n (λ i. cond (of_job s t k i) (piece s i).length 0)
          ≡ sum n (λ i. cond (of_job s t k i) (work_of s i) 0) + count n (of_job s t k) * switch_ticks s t
          → sum (suc n) (λ i. cond (of_job s t k i) (piece s i).length 0)
          ≡ sum (suc n) (λ i. cond (of_job s t k i) (work_of s i) 0) + count (suc n) (of_job s t k) * switch_ticks s t
      go true e q =
          let f = piece_fits_holds s h m p l n (omega arith) in let d = of_job_holds s t k n e in
          let w : switch_ticks s (piece s n).task ≡ switch_ticks s t = ap (switch_ticks s) d.0 in
          rw (e, q) (omega (arith, f.1, w, add-mul (count n (of_job s t k)) 1 (switch_ticks s t), one-mul (switch_ticks s t)))
      go false e q = rw (e, q) (omega (arith, add-mul (count n (of_job s t k)) 0 (switch_ticks s t), zero-mul (switch_ticks s t)))

  pub budget_is : job_budget s t k ≡ eqb (sum (rows s Pieces) (λ i. cond (of_job s t k i) (work_of s i) 0)) (task s t).budget
  unfolding job_budget
  budget_is = rw (work_sum (rows s Pieces) (omega arith)) (eqb_less (sum (rows s Pieces) (λ i. cond (of_job s t k i) (work_of s i) 0)) (task s t).budget (count (rows s Pieces) (of_job s t k) * switch_ticks s t))

-- 13 of a job, as it is asked: past the places, and by its work
module _ (s times : List ℕ) (h : Sound s) (p : Passed (piece_questions s) 6) (g : AllGathered s times) (t k : ℕ) (l : t < rows s Tasks) (y : k < jobs s t) where
  pub no_place_left : JobsBefore s t k → most_pieces ≤ get_or times t 0 + k → false ≡ job_budget s t k
  unfolding place
  no_place_left b d = sym (past_places s h t k l y b ((place_of_task s times g.placed t k l).1 d))

  pub by_work : get_or times t 0 + k < most_pieces → eqb (get_or times (works_at + (get_or times t 0 + k)) 0) (task s t).budget ≡ job_budget s t k
  by_work d =
      let e = (place_of_task s times g.placed t k l).0 d in
      ap (λ (x : ℕ). eqb x (task s t).budget)
      (ap (λ (x : ℕ). get_or times (works_at + x) 0) e ∙ work_read s times h 6 p (omega arith) g t k l y (subst (λ (x : ℕ). x < most_pieces) e d))
      ∙ sym (budget_is s h 6 p (omega arith) t k)
