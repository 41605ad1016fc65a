-- A plan embedded in another, its tasks renumbered: where both are accepted, each of its tasks works in the same ticks in both.
use Prim.Native.Nat.{ℕ, zero, suc, ◌+◌, ◌≤◌, ◌<◌}
use mathlib.Core.Path.{◌≡◌, refl, sym, ap, ◌∙◌, subst}
use mathlib.Core.Logic.{◌⊎◌, inl, inr}
use mathlib.Core.Bool.{Bool, true, false, cond, true≢false}
use mathlib.Core.List.{List}
use native.Mathlib.Nat.{not-suc-le-zero, eq-or-lt_of_le, le_of_suc-le-suc}
use native.Mathlib.Omega.{arith}
use native.Mathlib.Decide.{dec_lt}
use borrow.Author.Tests.{eq-eqb}
use Rattle.plan.specs.declared.Table.TheVariants.{Tasks, Pieces}
use Rattle.plan.specs.Image.{rows, cycle_ticks, piece, task}
use Rattle.plan.specs.Search.{count}
use Rattle.plan.specs.Questions.{core_of, piece_end, switch_ticks, of_job, jobs}
use Rattle.plan.specs.Dispatch.{lanes, shown_at}
use Rattle.joins.specs.Claim.{works_at}
use Rattle.plan.proofs.Facts.{Facts}
use Rattle.plan.proofs.Counting.{count_next}
use Rattle.plan.proofs.Tests.{no_count, any_row}
use Rattle.plan.proofs.Shows.{bool_eq}
use Rattle.plan.proofs.Jobs.{InJob, WorksOn, of_job_holds, in_job, job_in, work_in, work_runs, run_lane, works_tick, job_works}

-- ---- tests of which one implies the other, and that as many pass

module _ (f g : ℕ → Bool) where
  count_le : (n : ℕ) → ((i : ℕ) → i < n → f i ≡ true → g i ≡ true) → count n f ≤ count n g
  count_le zero h = omega (arith, no_count f)
  count_le (suc n) h = rw (count_next f n, count_next g n) (go (f n) refl (count_le n (λ i l. h i (omega arith))))
    where
      one : (b : Bool) → cond b 1 0 ≤ 1
      one true = omega arith
      one false = omega arith

      go : (b : Bool) → f n ≡ b → count n f ≤ count n g → count n f + cond (f n) 1 0 ≤ count n g + cond (g n) 1 0
      go true e k = rw (e, h n (omega arith) e) (omega arith)
      go false e k = rw e (omega arith)

  pub count_all : (n : ℕ) → ((i : ℕ) → i < n → f i ≡ true → g i ≡ true) → count n f ≡ count n g → (i : ℕ) → i < n → g i ≡ true → f i ≡ true
  count_all zero h e i l q = absurd (not-suc-le-zero l)
  count_all (suc n) h e i l q = go (f n) (g n) refl refl (rw (count_next f n, count_next g n) at e) (count_le n (λ i l. h i (omega arith))) (λ d. count_all n (λ i l. h i (omega arith)) d)
    where
      at_n : (y : i ≡ n) → f n ≡ true → f i ≡ true
      at_n y z = ap f y ∙ z

      go : (a b : Bool) → f n ≡ a → g n ≡ b → count n f + cond (f n) 1 0 ≡ count n g + cond (g n) 1 0 → count n f ≤ count n g
          → (count n f ≡ count n g → (i : ℕ) → i < n → g i ≡ true → f i ≡ true) → f i ≡ true
      go true b p r d k ih = choose (eq-or-lt_of_le (le_of_suc-le-suc l))
        where
          choose : (i ≡ n) ⊎ (i < n) → f i ≡ true
          choose (inl y) = at_n y p
          choose (inr y) = ih (let z = rw (p, h n (omega arith) p) at d in omega arith) i y q
      go false true p r d k ih = absurd (let z = rw (p, r) at d in omega arith)
      go false false p r d k ih = choose (eq-or-lt_of_le (le_of_suc-le-suc l))
        where
          choose : (i ≡ n) ⊎ (i < n) → f i ≡ true
          choose (inl y) = absurd (true≢false (sym q ∙ ap g y ∙ r))
          choose (inr y) = ih (let z = rw (p, r) at d in omega arith) i y q

-- ---- embedding

-- plan s lies in plan j, with task f t for task t
pub record Embeds (s j : List ℕ) (f : ℕ → ℕ) : Type 0 where
  pub ticks : cycle_ticks s ≡ cycle_ticks j
  pub tasks : (t : ℕ) → t < rows s Tasks → f t < rows j Tasks
  pub core : (t : ℕ) → t < rows s Tasks → core_of s t ≡ core_of j (f t)
  pub switch : (t : ℕ) → t < rows s Tasks → switch_ticks s t ≡ switch_ticks j (f t)
  pub period : (t : ℕ) → t < rows s Tasks → (task s t).period ≡ (task j (f t)).period
  pub budget : (t : ℕ) → t < rows s Tasks → (task s t).budget ≡ (task j (f t)).budget
  pub pieces : (p : ℕ) → p < rows s Pieces → (q : ℕ) × (q < rows j Pieces) × ((piece j q).task ≡ f (piece s p).task)
      × ((piece j q).job ≡ (piece s p).job) × ((piece j q).start ≡ (piece s p).start) × ((piece j q).length ≡ (piece s p).length)

module _ (s j : List ℕ) (fs : Facts s) (fj : Facts j) (f : ℕ → ℕ) (em : Embeds s j f) (t k : ℕ) (ht : t < rows s Tasks) where
  -- the job's ticks of work in its own plan, and in the other
  abbrev Own : ℕ → Bool
  Own x = InJob s fs t k (switch_ticks s t) x

  abbrev There : ℕ → Bool
  There x = InJob j fj (f t) k (switch_ticks j (f t)) x

  own_there : (x : ℕ) → Own x ≡ true → There x ≡ true
  unfolding of_job piece_end
  own_there x e =
      let w = in_job s fs t k (switch_ticks s t) x e in
      let p = w.0 in let own = of_job_holds s t k p w.2.mine in
      let r = em.pieces p w.1 in let q = r.0 in
      let a : (piece j q).task ≡ f t = r.2 ∙ ap f own.0 in
      let b : (piece j q).job ≡ k = r.3 ∙ own.1 in
      job_in j fj (f t) k (switch_ticks j (f t)) x q r.1
      (record {
        mine = rw (eq-eqb (piece j q).task (f t) a, eq-eqb (piece j q).job k b) refl;
        low = omega (arith, w.2.low, r.4, em.switch t ht);
        high = omega (arith, w.2.high, r.4, r.5);
      })

  same_jobs : jobs s t ≡ jobs j (f t)
  unfolding jobs
  same_jobs = rw (em.ticks, em.period t ht) refl

  as_many : k < jobs s t → count (cycle_ticks s) Own ≡ count (cycle_ticks s) There
  as_many h =
      job_works s fs t k ht h ∙ em.budget t ht
      ∙ sym (ap (λ (n : ℕ). count n There) em.ticks ∙ job_works j fj (f t) k (em.tasks t ht) (subst (λ (n : ℕ). k < n) same_jobs h))

  there_own : (x : ℕ) → x < cycle_ticks s → There x ≡ true → Own x ≡ true
  there_own x l e = go (dec_lt k (jobs s t))
    where
      go : Dec (k < jobs s t) → Own x ≡ true
      go (yes h) = count_all Own There (cycle_ticks s) (λ i _. own_there i) (as_many h) x l e
      go (no h) =
          let w = in_job j fj (f t) k (switch_ticks j (f t)) x e in
          let q = w.0 in let of = of_job_holds j (f t) k q w.2.mine in
          let a : (piece j q).job < jobs j (piece j q).task = (fj.piece_fits q w.1).0 in
          let b : jobs j (piece j q).task ≡ jobs s t = ap (jobs j) of.0 ∙ sym same_jobs in
          absurd (h (subst (λ (n : ℕ). n < jobs s t) of.1 (subst (λ (n : ℕ). (piece j q).job < n) b a)))

  -- so the job's core shows the same work in both
  pub same_work : (l x : ℕ) → x < cycle_ticks s → works_at j l x (f t) k ≡ works_at s l x t k
  unfolding works_at
  same_work l x h = bool_eq (WorksOn j fj (f t) k x l) (WorksOn s fs t k x l) to back
    where
      lane : (i : List ℕ) (fi : Facts i) (u : ℕ) → WorksOn i fi u k x l ≡ true → l ≡ core_of i u
      lane i fi u e = run_lane i fi u k x l (work_runs i fi u k x l e)

      in_ticks : (i : List ℕ) (fi : Facts i) (u : ℕ) → WorksOn i fi u k x l ≡ true → InJob i fi u k (switch_ticks i u) x ≡ true
      in_ticks i fi u e = let r = work_in i fi u k x l e in job_in i fi u k (switch_ticks i u) x (shown_at i l x).row r.0 r.1

      shows : (i : List ℕ) (fi : Facts i) (u : ℕ) → InJob i fi u k (switch_ticks i u) x ≡ true → l ≡ core_of i u → WorksOn i fi u k x l ≡ true
      shows i fi u e q =
          let w = any_row (WorksOn i fi u k x) (lanes i) (works_tick i fi u k x ∙ e) in
          let z = run_lane i fi u k x w.0 (work_runs i fi u k x w.0 w.2) in
          subst (λ (y : ℕ). WorksOn i fi u k x y ≡ true) (z ∙ sym q) w.2

      to : WorksOn j fj (f t) k x l ≡ true → WorksOn s fs t k x l ≡ true
      to e = shows s fs t (there_own x h (in_ticks j fj (f t) e)) (lane j fj (f t) e ∙ sym (em.core t ht))

      back : WorksOn s fs t k x l ≡ true → WorksOn j fj (f t) k x l ≡ true
      back e = shows j fj (f t) (own_there x (in_ticks s fs t e)) (lane s fs t e ∙ em.core t ht)
