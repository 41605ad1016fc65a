-- Question 33 in one pass over the places, by the ranks that stand with the pieces (OnePass.antt).
use Prim.Native.Nat.{ℕ, ◌+◌, ◌*◌, ◌/◌, ◌^◌, ◌<◌}
use mathlib.Core.Path.{◌≡◌, refl, sym, ap, ◌∙◌}
use mathlib.Core.Logic.{◌↔◌, ◌⊎◌, inl, inr}
use mathlib.Core.Bool.{Bool, true, false, not, ◌&&◌, cond, true≢false}
use mathlib.Core.List.{List}
use native.Mathlib.Nat.{div-le_self}
use native.Mathlib.Decide.{dec_lt}
use native.Mathlib.Omega.{arith}
use lib.Dec.{ltb, eqb}
use borrow.Author.Tests.{not-true}
use Rattle.plan.specs.declared.Piece.{Piece}
use Rattle.plan.proofs.Tests.{Reads, r_lt, r_eq, r_and, r_or}
use Rattle.plan.proofs.Counting.{count_cong}
use Rattle.drafts.specs.Drafts.{places, is_of, is_below, draft_cycle, task_period, task_jobs, piece_at, rank_at, total_at, is_free, fits_job, job_sum, rank, head_in_range}
use Rattle.totals.specs.Gathers.{job_key}
use Rattle.drafts.proofs.Heads.{Fits, r_head, r_fits, free_length, sum_same, cond_none}
use Rattle.totals.proofs.OnePass.{Seen, TrueRanks, lower, of_rank, of_key, seen_rank, seen_total, true_seen}

same_test : (a b : Bool) {A B : Type 0} → Reads a A → Reads b B → (A → B) → (B → A) → a ≡ b
same_test true true f g h k = refl
same_test true false f g h k = absurd (true≢false (sym (g.1 (h (f.0 refl)))))
same_test false true f g h k = absurd (true≢false (sym (f.1 (k (g.0 refl)))))
same_test false false f g h k = refl

-- jobs of two pieces compared by their numbers
module _ (x y : Piece) (l : x.job < 2 ^ 32) (m : y.job < 2 ^ 32) where
  key_below : is_below y.task y.job x ≡ ltb (job_key x) (job_key y)
  unfolding is_below job_key
  key_below = same_test _ _ (r_or (r_lt _ _) (r_and (r_eq _ _) (r_lt _ _))) (r_lt _ _) there back
    where
      there : (x.task < y.task) ⊎ ((x.task ≡ y.task) × (x.job < y.job)) → 2 ^ 32 * x.task + x.job < 2 ^ 32 * y.task + y.job
      there (inl a) = omega arith
      there (inr a) = omega (arith, a.0, a.1)

      back : 2 ^ 32 * x.task + x.job < 2 ^ 32 * y.task + y.job → (x.task < y.task) ⊎ ((x.task ≡ y.task) × (x.job < y.job))
      back a = pick (dec_lt x.task y.task)
        where
          pick : Dec (x.task < y.task) → (x.task < y.task) ⊎ ((x.task ≡ y.task) × (x.job < y.job))
          pick (yes d) = inl d
          pick (no d) = inr (omega arith)

  pub key_same : is_of y.task y.job x ≡ eqb (job_key x) (job_key y)
  unfolding is_of job_key
  key_same = same_test _ _ (r_and (r_eq _ _) (r_eq _ _)) (r_eq _ _) there back
    where
      there : (x.task ≡ y.task) × (x.job ≡ y.job) → 2 ^ 32 * x.task + x.job ≡ 2 ^ 32 * y.task + y.job
      there a = omega (arith, a.0, a.1)

      back : 2 ^ 32 * x.task + x.job ≡ 2 ^ 32 * y.task + y.job → (x.task ≡ y.task) × (x.job ≡ y.job)
      back a = omega arith

module _ (w : List ℕ) (head : head_in_range w ≡ true) (pieces : (p : ℕ) → p < places → (is_free w p ≡ true) ⊎ Fits w p) where
  abbrev pub held : ℕ → Bool
  held p = not (is_free w p)

  abbrev pub key_at : ℕ → ℕ
  key_at p = job_key (piece_at w p)

  abbrev pub long_at : ℕ → ℕ
  long_at p = (piece_at w p).length

  -- a piece's job number is a word, since it is below H
  below_jobs : (x : Piece) → fits_job w x ≡ true → x.job < draft_cycle w / task_period w x.task
  unfolding task_jobs
  below_jobs x e = ((r_fits w x).0 e).0

  pub small_job : (p : ℕ) → p < places → held p ≡ true → (piece_at w p).job < 2 ^ 32
  small_job p l e = go (pieces p l)
    where
      go : (is_free w p ≡ true) ⊎ Fits w p → (piece_at w p).job < 2 ^ 32
      go (inl d) = absurd (true≢false (sym d ∙ not-true (is_free w p) e))
      go (inr d) =
          omega (arith, below_jobs (piece_at w p) d.1, div-le_self (draft_cycle w) (task_period w (piece_at w p).task), ((r_head w).0 head).1)

  pub rank_is : (p : ℕ) → p < places → held p ≡ true → rank w (piece_at w p).task (piece_at w p).job ≡ lower places held (rank_at w) key_at long_at (key_at p)
  unfolding rank
  rank_is p l e = count_cong _ _ places (λ q m. go q m (held q) refl)
    where
      go : (q : ℕ) → q < places → (b : Bool) → held q ≡ b → held q && is_below (piece_at w p).task (piece_at w p).job (piece_at w q) ≡ held q && ltb (key_at q) (key_at p)
      go q m false d = rw d refl
      go q m true d = rw (key_below (piece_at w q) (piece_at w p) (small_job q m d) (small_job p l e)) refl

  pub total_is : (p : ℕ) → p < places → held p ≡ true → job_sum w (piece_at w p).task (piece_at w p).job ≡ of_key places held (rank_at w) key_at long_at (key_at p)
  unfolding job_sum
  total_is p l e = sum_same _ _ places (λ q m. go q m (is_free w q) refl)
    where
      go : (q : ℕ) → q < places → (b : Bool) → is_free w q ≡ b
          → cond (is_of (piece_at w p).task (piece_at w p).job (piece_at w q)) (long_at q) 0 ≡ cond (held q && eqb (key_at q) (key_at p)) (long_at q) 0
      go q m true d = cond_none (is_of (piece_at w p).task (piece_at w p).job (piece_at w q)) _ (free_length w q d) ∙ sym (cond_none (held q && eqb (key_at q) (key_at p)) _ (free_length w q d))
      go q m false d =
          rw (d, key_same (piece_at w q) (piece_at w p) (small_job q m (ap not d)) (small_job p l e)) refl

  -- Ranks and totals are true exactly if the pass sees it: rank by rank, and each piece's total is the sum gathered for its rank.
  abbrev pub TruePlaces : Type 0
  TruePlaces = (p : ℕ) → (p < places) × (held p ≡ true)
      → (rank_at w p ≡ rank w (piece_at w p).task (piece_at w p).job) × (total_at w p ≡ job_sum w (piece_at w p).task (piece_at w p).job)

  abbrev pub SeenPlaces : Type 0
  SeenPlaces =
      Seen places held (rank_at w) key_at long_at
      × ((p : ℕ) → (p < places) × (held p ≡ true) → total_at w p ≡ of_rank places held (rank_at w) key_at long_at (rank_at w p))

  pub ranks_of : TruePlaces → TrueRanks places held (rank_at w) key_at long_at
  ranks_of t p a = (t p a).0 ∙ rank_is p a.0 a.1

  pub one_pass : SeenPlaces ↔ TruePlaces
  one_pass = (there, back)
    where
      there : SeenPlaces → TruePlaces
      there s p a = (
        seen_rank places held (rank_at w) key_at long_at s.0 p a ∙ sym (rank_is p a.0 a.1),
        s.1 p a ∙ seen_total places held (rank_at w) key_at long_at s.0 p a ∙ sym (total_is p a.0 a.1),
      )

      back : TruePlaces → SeenPlaces
      back t =
          let s = true_seen places held (rank_at w) key_at long_at (ranks_of t) in
          (s, λ p a. (t p a).1 ∙ total_is p a.0 a.1 ∙ sym (seen_total places held (rank_at w) key_at long_at s p a))
