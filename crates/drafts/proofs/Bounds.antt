-- A piece is no longer than the cycle, so every total fits a word: `TotalsFit` (specs/Claim.antt).
use Prim.Native.Nat.{ℕ, zero, suc, ◌*◌, ◌/◌, ◌%◌, ◌<◌, ◌≤◌}
use mathlib.Core.Path.{◌≡◌}
use mathlib.Core.Logic.{◌⊎◌, inl, inr}
use mathlib.Core.Bool.{Bool, true, false, cond}
use mathlib.Core.List.{List}
use native.Mathlib.Nat.{mul-suc, le-div_iff_mul-le}
use native.Mathlib.Omega.{arith}
use lib.Dec.{eqb}
use Rattle.plan.specs.declared.Piece.{Piece}
use Rattle.plan.specs.Search.{sum}
use Rattle.plan.proofs.Tests.{r_lt, r_le, r_eq, r_and₅}
use Rattle.drafts.specs.Drafts.{places, is_of, draft_cycle, draft_cores, draft_tasks, task_core, task_period, task_deadline, task_jobs, piece_at, is_free, fits_job, head_in_range, task_in_range, job_sum, core_sum}
use Rattle.drafts.specs.Claim.{TotalsFit}
use Rattle.drafts.proofs.Heads.{Formed, Fits, r_head, r_fits, formed_of, task_exists, free_length}

module _ (w : List ℕ) (head : head_in_range w ≡ true) (tasks : (t : ℕ) → t < draft_tasks w → task_in_range w t ≡ true) where
  task_range : (t : ℕ) → t < draft_tasks w
      → (task_core w t < draft_cores w) × (1 ≤ task_period w t) × (draft_cycle w % task_period w t ≡ 0) × (1 ≤ task_deadline w t) × (task_deadline w t ≤ task_period w t)
  unfolding task_in_range
  task_range t l = (r_and₅ (r_lt _ _) (r_le _ _) (r_eq _ _) (r_le _ _) (r_le _ _)).0 (tasks t l)

  pub in_cycle_holds : (x : Piece) → x.task < draft_tasks w → fits_job w x ≡ true → x.length ≤ 1000000
  unfolding task_jobs
  in_cycle_holds x l e =
      let f = (r_fits w x).0 e in let t = task_range x.task l in
      let b : 1 * task_period w x.task ≤ draft_cycle w = (le-div_iff_mul-le t.1).0 (some_jobs x.task f.0) in
      omega (arith, f.2, f.3, t.4, ((r_head w).0 head).1)
    where
      some_jobs : (t : ℕ) → x.job < task_jobs w t → 1 ≤ draft_cycle w / task_period w t
      some_jobs t k = omega arith

sum_most : (f : ℕ → ℕ) (b n : ℕ) → ((i : ℕ) → i < n → f i ≤ b) → sum n f ≤ b * n
unfolding sum
sum_most f b zero h = omega arith
sum_most f b (suc n) h = omega (arith, sum_most f b n (λ i l. h i (omega arith)), h n (omega arith), mul-suc b n)

module _ (w : List ℕ) (f : Formed w) where
  pub short_piece : (p : ℕ) → p < places → (piece_at w p).length ≤ 1000000
  short_piece p l = go (f.pieces p l)
    where
      go : (is_free w p ≡ true) ⊎ Fits w p → (piece_at w p).length ≤ 1000000
      go (inl e) = omega (arith, free_length w p e)
      go (inr e) = in_cycle_holds w f.head f.tasks (piece_at w p) (task_exists w p e) e.1

  part : (b : Bool) (n : ℕ) → n ≤ 1000000 → cond b n 0 ≤ 1000000
  part true n l = l
  part false n l = omega arith

  pub job_fits : (t k : ℕ) → job_sum w t k ≤ 2048000000
  unfolding job_sum places
  job_fits t k = sum_most (λ p. cond (is_of t k (piece_at w p)) (piece_at w p).length 0) 1000000 2048 (λ p l. part (is_of t k (piece_at w p)) _ (short_piece p l))

  pub core_fits : (c : ℕ) → core_sum w c ≤ 2048000000
  unfolding core_sum places
  core_fits c = sum_most (λ p. cond (eqb (task_core w (piece_at w p).task) c) (piece_at w p).length 0) 1000000 2048 (λ p l. part (eqb (task_core w (piece_at w p).task) c) _ (short_piece p l))

pub totals_fit : TotalsFit
totals_fit w d = let f = formed_of w d in (λ t k. omega (arith, job_fits w f t k), λ c. omega (arith, core_fits w f c))
