-- What questions 7 to 13 give, of pieces and jobs.
use Prim.Native.Nat.{ℕ, zero, suc, ◌+◌, ◌-◌, ◌*◌, ◌≤◌, ◌<◌}
use mathlib.Core.Path.{◌≡◌, refl, sym, ap, ◌∙◌, subst}
use mathlib.Core.Bool.{Bool, true, false, cond, true≢false}
use mathlib.Core.List.{List}
use native.Mathlib.Decide.{dec_lt}
use native.Mathlib.Omega.{arith}
use borrow.Author.Tests.{eq-eqb, eqb-true}
use Rattle.plan.specs.declared.Table.TheVariants.{Tasks, Pieces}
use Rattle.plan.specs.Image.{rows, piece, task, shape, most_pieces}
use Rattle.plan.specs.Search.{any, sum, count}
use Rattle.plan.specs.Questions.{piece_questions, jobs, of_job, job_budget, task_budget, switch_ticks}
use Rattle.plan.specs.Reading.{PieceFits}
use Rattle.plan.specs.Held.{Sound, Passed}
use Rattle.plan.proofs.Searching.{none_iff, all_yes}
use Rattle.plan.proofs.Tests.{any_row}
use Rattle.plan.proofs.Passing.{pieces_fit, tasks_budget}
use Rattle.plan.proofs.Jobs.{of_job_holds}
use Rattle.jobs.specs.Times.{JobsBefore}
use Rattle.tallies.proofs.Places.{covered, place_of}

-- is a piece one of a job's
pub job_of : (s : List ℕ) (t k p : ℕ) → (piece s p).task ≡ t → (piece s p).job ≡ k → of_job s t k p ≡ true
unfolding of_job
job_of s t k p a b = rw (eq-eqb _ t a, eq-eqb _ k b) refl

no_sum : (test : ℕ → Bool) (f : ℕ → ℕ) (n : ℕ) → any n test ≡ false → sum n (λ i. cond (test i) (f i) 0) ≡ 0
unfolding sum any
no_sum test f zero h = refl
no_sum test f (suc n) h = go (any n test) (test n) refl refl (λ q. no_sum test f n q) h
  where
    go : (a b : Bool) → any n test ≡ a → test n ≡ b → (any n test ≡ false → sum n (λ i. cond (test i) (f i) 0) ≡ 0)
        → any (suc n) test ≡ false → sum n (λ i. cond (test i) (f i) 0) + cond (test n) (f n) 0 ≡ 0
    go true b p q k e = absurd (true≢false (sym (rw p refl) ∙ e))
    go false true p q k e = absurd (true≢false (sym (rw (p, q) refl) ∙ e))
    go false false p q k e = rw (k p, q) refl

abbrev pub HasPiece : List ℕ → ℕ → ℕ → Type 0
HasPiece s t k = (i : ℕ) × (i < rows s Pieces) × (of_job s t k i ≡ true)

module _ (s : List ℕ) (h : Sound s) where
  -- a job with its budget has a piece
  pub budget_piece : (t k : ℕ) → t < rows s Tasks → job_budget s t k ≡ true → HasPiece s t k
  unfolding job_budget
  budget_piece t k l e = go (any (rows s Pieces) (of_job s t k)) refl (eqb-true _ _ e)
    where
      go : (b : Bool) → any (rows s Pieces) (of_job s t k) ≡ b
          → sum (rows s Pieces) (λ i. cond (of_job s t k i) (piece s i).length 0) ≡ (task s t).budget + count (rows s Pieces) (of_job s t k) * switch_ticks s t
          → HasPiece s t k
      go true d q = any_row (of_job s t k) (rows s Pieces) d
      go false d q = absurd (omega (arith, no_sum (of_job s t k) (λ i. (piece s i).length) (rows s Pieces) d, (h.ranges Tasks t l).2))

  -- where the jobs of the tasks before t and the first k of t have pieces, there are as many pieces
  pub pieces_suffice : (t k : ℕ) → k ≤ jobs s t → ((u j : ℕ) → u < t → j < jobs s u → HasPiece s u j) → ((j : ℕ) → j < k → HasPiece s t j)
      → sum t (jobs s) + k ≤ rows s Pieces
  pieces_suffice t k m before here =
      covered (λ i. sum (piece s i).task (jobs s) + (piece s i).job) (rows s Pieces) (sum t (jobs s) + k) (λ v l. pick v l (dec_lt v (sum t (jobs s))))
    where
      at : (v u j : ℕ) → sum u (jobs s) + j ≡ v → HasPiece s u j → (i : ℕ) × (i < rows s Pieces) × (sum (piece s i).task (jobs s) + (piece s i).job ≡ v)
      at v u j e q = let d = of_job_holds s u j q.0 q.2 in (q.0, q.1, omega (arith, ap (λ (x : ℕ). sum x (jobs s)) d.0, d.1, e))

      pick : (v : ℕ) → v < sum t (jobs s) + k → Dec (v < sum t (jobs s))
          → (i : ℕ) × (i < rows s Pieces) × (sum (piece s i).task (jobs s) + (piece s i).job ≡ v)
      pick v l (yes d) = let w = place_of (jobs s) t v d in at v w.0 w.1 w.4 (before w.0 w.1 w.2 w.3)
      pick v l (no d) = at v t (v - sum t (jobs s)) (omega arith) (here (v - sum t (jobs s)) (omega arith))

  -- so a job past the places has not its budget, where all before it have
  pub past_places : (t k : ℕ) → t < rows s Tasks → k < jobs s t → JobsBefore s t k → most_pieces ≤ sum t (jobs s) + k → job_budget s t k ≡ false
  unfolding shape task_budget
  past_places t k l m b d = go (job_budget s t k) refl
    where
      before : (u j : ℕ) → u < t → j < jobs s u → HasPiece s u j
      before u j x y = budget_piece u j (omega arith) (all_yes (job_budget s u) (jobs s u) ((none_iff (task_budget s) t).0 b.0 u x) j y)

      go : (a : Bool) → job_budget s t k ≡ a → a ≡ false
      go true e =
          let here : (j : ℕ) → j < k + 1 → HasPiece s t j =
          λ j y. budget_piece t j l (pick_job j y (dec_lt j k) e) in
          let n = pieces_suffice t (k + 1) (omega arith) before here in
          absurd (omega (arith, h.inside.counts Pieces))
        where
          pick_job : (j : ℕ) → j < k + 1 → Dec (j < k) → job_budget s t k ≡ true → job_budget s t j ≡ true
          pick_job j y (yes x) e = all_yes (job_budget s t) k b.1 j x
          pick_job j y (no x) e = subst (λ (z : ℕ). job_budget s t z ≡ true) (let q : k ≡ j = omega arith in q) e
      go false e = refl

  module _ (n : ℕ) (p : Passed (piece_questions s) n) where
    pub piece_fits_holds : 4 ≤ n → (i : ℕ) → i < rows s Pieces → PieceFits s i
    piece_fits_holds l = pieces_fit s n p l

    -- 13 is passed: every job has a piece, so there is a place for each
    pub has_piece : 7 ≤ n → (t k : ℕ) → t < rows s Tasks → k < jobs s t → HasPiece s t k
    unfolding job_budget
    has_piece l t k m y = budget_piece t k m (eq-eqb _ _ (tasks_budget s n p l t m k y))

    pub all_placed : 7 ≤ n → sum (rows s Tasks) (jobs s) ≤ most_pieces
    unfolding shape
    all_placed l =
        let q = pieces_suffice (rows s Tasks) 0 (omega arith) (λ u j x y. has_piece l u j x y) (λ j y. absurd (omega arith)) in
        omega (arith, h.inside.counts Pieces)
