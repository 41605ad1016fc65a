-- What one piece gives to ranks and totals, as the loop of an edit counts it.
use Prim.Native.Nat.{ℕ, ◌+◌, ◌-◌, ◌≤◌, ◌<◌}
use mathlib.Core.Path.{◌≡◌, refl, sym, ap, ◌∙◌}
use mathlib.Core.Bool.{Bool, true, false, cond}
use mathlib.Core.List.{List}
use native.Mathlib.Omega.{arith}
use lib.ListN.{length, get_or}
use borrow.Author.Tests.{le-ltb, eq-eqb}
use Rattle.plan.specs.declared.Piece.{Piece}
use Rattle.plan.proofs.Searching.{count_most}
use Rattle.drafts.specs.Drafts.{draft_words, places, place_at, is_of, is_below, piece_at, rank_at, total_at, is_free, job_sum, rank}
use Rattle.drafts.proofs.Changing.{OneMore, more_job, more_rank}
use Rattle.counting.specs.Counting.{with_part, rank_part, total_part}
use Rattle.counting.proofs.Counting.{counted_to, counted_two, counted_words}

pub small_rank : (w : List ℕ) (t k : ℕ) → rank w t k ≤ 2048
unfolding rank places
small_rank w t k = count_most _ 2048

part_most : (b : Bool) (n : ℕ) → cond b n 0 ≤ n
part_most true n = omega arith
part_most false n = omega arith

pub small_part : (x y : Piece) → rank_part x y ≤ 1
unfolding rank_part
small_part x y = part_most (is_below y.task y.job x) 1

pub short_part : (x y : Piece) → total_part x y ≤ x.length
unfolding total_part
short_part x y = part_most (is_of y.task y.job x) x.length

-- the same sums, with what x gives named as the loop names it
module _ (small big : List ℕ) (p : ℕ) (x : Piece) (m : OneMore small big p x) where
  pub rank_with : (y : Piece) → rank big y.task y.job ≡ rank small y.task y.job + rank_part x y
  unfolding rank_part
  rank_with y = more_rank small big p x m y.task y.job

  pub total_with : (y : Piece) → job_sum big y.task y.job ≡ job_sum small y.task y.job + total_part x y
  unfolding total_part
  total_with y = more_job small big p x m y.task y.job

pub own_part : (x : Piece) → (rank_part x x ≡ 0) × (total_part x x ≡ x.length)
unfolding rank_part total_part is_below is_of
own_part x = (
  rw (le-ltb x.task x.task (omega arith), eq-eqb x.task x.task refl, le-ltb x.job x.job (omega arith)) refl,
  rw (eq-eqb x.task x.task refl, eq-eqb x.job x.job refl) refl,
)

pub with_more : (n part : ℕ) → with_part true n part ≡ n + part
unfolding with_part
with_more n part = refl

pub with_less : (n part : ℕ) → with_part false n part ≡ n - part
unfolding with_part
with_less n part = refl

-- a rank or total after the loop
module _ (more : Bool) (x : Piece) (w : List ℕ) (room : draft_words ≤ length w) (q : ℕ) (l : q < places) (e : is_free w q ≡ false) where
  pub loop_rank : get_or (counted_to more x w places) (place_at q + 4) 0 ≡ with_part more (rank_at w q) (rank_part x (piece_at w q))
  loop_rank =
      let z : place_at q + 4 + 0 ≡ place_at q + 4 = omega arith in let c = counted_two more x w q e in
      ap (λ (j : ℕ). get_or (counted_to more x w places) j 0) (sym z) ∙ counted_words more x w room q 0 l (rw c (omega arith)) ∙ (rw c refl)

  pub loop_total : get_or (counted_to more x w places) (place_at q + 5) 0 ≡ with_part more (total_at w q) (total_part x (piece_at w q))
  loop_total =
      let z : place_at q + 4 + 1 ≡ place_at q + 5 = omega arith in let c = counted_two more x w q e in
      ap (λ (j : ℕ). get_or (counted_to more x w places) j 0) (sym z) ∙ counted_words more x w room q 1 l (rw c (omega arith)) ∙ (rw c refl)
