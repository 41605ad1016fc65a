-- The total stored with a job's first piece is the sum over its pieces.
use Prim.Native.Nat.{ℕ, zero, suc, ◌<◌}
use mathlib.Core.Path.{◌≡◌, refl, sym, ◌∙◌}
use mathlib.Core.Bool.{Bool, true, false, not, ◌&&◌, cond, true≢false}
use mathlib.Core.List.{List}
use native.Mathlib.Omega.{arith}
use lib.Dec.{eqb}
use borrow.Author.Tests.{eqb-true, not-true, not-false}
use Rattle.plan.specs.declared.Piece.{Piece}
use Rattle.std.specs.Prelude.{Option}
use Rattle.std.specs.Prelude.{Some, None}
use Rattle.plan.specs.Search.{sum, first}
use Rattle.plan.proofs.Searching.{and_true, none_iff, at_iff}
use Rattle.drafts.specs.Drafts.{places, is_of, piece_at, total_at, is_free, job_sum, is_draft}
use Rattle.drafts.specs.Edits.{stored_total}
use Rattle.drafts.proofs.Heads.{free_length, true_place, cond_none}

sum_zero : (g : ℕ → ℕ) (n : ℕ) → ((i : ℕ) → i < n → g i ≡ 0) → sum n g ≡ 0
unfolding sum
sum_zero g zero h = refl
sum_zero g (suc n) h = rw (sum_zero g n (λ i l. h i (omega arith)), h n (omega arith)) refl

-- the first piece of a job
module _ (w : List ℕ) where
  abbrev pub test : ℕ → ℕ → ℕ → Bool
  test t j p = not (is_free w p) && is_of t j (piece_at w p)

  pub stored_at : (t j p : ℕ) → first places (test t j) ≡ Some p → stored_total w t j ≡ total_at w p
  unfolding stored_total
  stored_at t j p e = rw (e, stored_total) refl

  pub stored_none : (t j : ℕ) → first places (test t j) ≡ None → stored_total w t j ≡ 0
  unfolding stored_total
  stored_none t j e = rw (e, stored_total) refl

module _ (w : List ℕ) (d : is_draft w ≡ true) where
  of_job_holds : (t j : ℕ) (x : Piece) → is_of t j x ≡ true → (x.task ≡ t) × (x.job ≡ j)
  unfolding is_of
  of_job_holds t j x e = let a = and_true (eqb x.task t) (eqb x.job j) e in (eqb-true _ _ a.0, eqb-true _ _ a.1)

  no_piece : (t j : ℕ) → ((p : ℕ) → p < places → test w t j p ≡ false) → job_sum w t j ≡ 0
  unfolding job_sum
  no_piece t j h = sum_zero _ places (λ p l. go p (is_free w p) refl (is_of t j (piece_at w p)) refl (h p l))
    where
      go : (p : ℕ) (a : Bool) → is_free w p ≡ a → (b : Bool) → is_of t j (piece_at w p) ≡ b → test w t j p ≡ false → cond (is_of t j (piece_at w p)) (piece_at w p).length 0 ≡ 0
      go p true e b q z = cond_none (is_of t j (piece_at w p)) _ (free_length w p e)
      go p false e true q z = absurd (true≢false (sym (rw (e, q) refl) ∙ z))
      go p false e false q z = rw q refl

  pub stored_sum : (t j : ℕ) → stored_total w t j ≡ job_sum w t j
  unfolding first
  stored_sum t j = go (first places (test w t j)) refl
    where
      at_place : (p : ℕ) → p < places → test w t j p ≡ true → total_at w p ≡ job_sum w t j
      at_place p l e =
          let a = and_true (not (is_free w p)) (is_of t j (piece_at w p)) e in let b = of_job_holds t j (piece_at w p) a.1 in
          (true_place w d p l (not-true (is_free w p) a.0)).3 ∙ (rw (b.0, b.1) refl)

      go : (r : Option ℕ) → first places (test w t j) ≡ r → stored_total w t j ≡ job_sum w t j
      go (Some p) e = let a = (at_iff (λ i. not (test w t j i)) places p).0 e in stored_at w t j p e ∙ at_place p a.below (not-false _ a.says_no)
      go None e = stored_none w t j e ∙ sym (no_piece t j (λ p l. not-true _ ((none_iff (λ i. not (test w t j i)) places).0 e p l)))
