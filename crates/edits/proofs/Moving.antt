-- A move changes one word: every rank and total stays true.
use Prim.Native.Nat.{ℕ, suc, ◌+◌, ◌<◌}
use mathlib.Core.Path.{◌≡◌, refl, sym, ap, ◌∙◌, subst}
use mathlib.Core.Logic.{◌≢◌, ◌⊎◌, inl, inr}
use mathlib.Core.Bool.{true, false, ◌&&◌, cond, true≢false}
use mathlib.Core.List.{List, []}
use native.Mathlib.Omega.{arith}
use lib.ListN.{length, get_or, set, length-set}
use lib.Seq.{sets, set-get_or, get_or-set_other}
use lib.Dec.{eqb}
use Rattle.plan.specs.declared.Piece.{Piece}
use Rattle.plan.proofs.Counting.{count_cong}
use Rattle.drafts.specs.Drafts.{places, core_at, place_at, is_of, is_below, draft_cores, draft_tasks, task_core, core_total, piece_at, rank_at, total_at, is_free, fits_job, job_sum, core_sum, rank, is_draft, holds_piece}
use Rattle.drafts.specs.Edits.{summed, piece_words, put_at, moved_to, move_number, move_words}
use Rattle.drafts.proofs.Heads.{Formed, Fits, TruePlace, r_draft, formed_of, few_cores, few_tasks, task_exists, free_length, SameHead, same_length, same_head, sum_same, cond_none, held_fits}
use Rattle.drafts.proofs.Asking.{asked_none, asked_yes, asked_no, leaves_new, leaves_old, not_zero}
use Rattle.drafts.proofs.Keeping.{held}
use Rattle.drafts.proofs.Summing.{is_summed}

-- words with the same head, and pieces that differ in their starts only, have the same sums
pub record Alike (x y : Piece) : Type 0 where
  pub task : x.task ≡ y.task
  pub job : x.job ≡ y.job
  pub long : x.length ≡ y.length

module _ (w v : List ℕ) (h : SameHead w v) (f : Formed w) (a : (q : ℕ) → q < places → Alike (piece_at v q) (piece_at w q)) where
  alike_free : (q : ℕ) → q < places → is_free v q ≡ is_free w q
  unfolding is_free
  alike_free q l = ap (λ (n : ℕ). eqb n 0) (a q l).long

  alike_job : (t k : ℕ) → job_sum v t k ≡ job_sum w t k
  unfolding job_sum is_of
  alike_job t k = sum_same _ _ places (λ q l. rw ((a q l).task, (a q l).job, (a q l).long) refl)

  alike_rank : (t k : ℕ) → rank v t k ≡ rank w t k
  unfolding rank is_below
  alike_rank t k = count_cong _ _ places (λ q l. rw (alike_free q l, (a q l).task, (a q l).job) refl)

  alike_core : (c : ℕ) → core_sum v c ≡ core_sum w c
  unfolding core_sum
  alike_core c = sum_same _ _ places (λ q l. go q l (f.pieces q l))
    where
      go : (q : ℕ) → q < places → (is_free w q ≡ true) ⊎ Fits w q → cond (eqb (task_core v (piece_at v q).task) c) (piece_at v q).length 0 ≡ cond (eqb (task_core w (piece_at w q).task) c) (piece_at w q).length 0
      go q l (inl e) = cond_none (eqb (task_core v (piece_at v q).task) c) _ ((a q l).long ∙ free_length w q e) ∙ sym (cond_none (eqb (task_core w (piece_at w q).task) c) _ (free_length w q e))
      go q l (inr e) =
          let t = task_exists w q e in let b = few_tasks w f in
          rw ((a q l).task, (a q l).long, h.core (piece_at w q).task (omega arith)) refl

-- ---- a move

module _ (w : List ℕ) (p start : ℕ) (d : is_draft w ≡ true) (l : p < places) where
  abbrev after : List ℕ
  after = set w (place_at p + 2) start

  -- every word but the start
  other : (j : ℕ) → j ≢ place_at p + 2 → get_or after j 0 ≡ get_or w j 0
  other j e = get_or-set_other w (place_at p + 2) j start 0 e

  after_head : SameHead w after
  unfolding place_at
  after_head = same_head w after (same_length w after (length-set w (place_at p + 2) start)) (λ j k h. other j (λ e. omega arith))

  after_piece : (q : ℕ) → Alike (piece_at after q) (piece_at w q)
  unfolding piece_at place_at
  after_piece q =
      record { task = other (place_at q) (λ e. omega arith); job = other (place_at q + 1) (λ e. omega arith); long = other (place_at q + 3) (λ e. omega arith) }

  after_core : (c : ℕ) → c < 32 → core_total after c ≡ core_total w c
  unfolding core_total core_at place_at
  after_core c k = other (core_at c + 1) (λ e. omega arith)

  after_rank : (q : ℕ) → rank_at after q ≡ rank_at w q
  unfolding rank_at place_at
  after_rank q = other (place_at q + 4) (λ e. omega arith)

  after_total : (q : ℕ) → total_at after q ≡ total_at w q
  unfolding total_at place_at
  after_total q = other (place_at q + 5) (λ e. omega arith)

  f : Formed w
  f = formed_of w d

  after_summed : summed after ≡ after
  after_summed =
      sym (is_summed after after (after_head.room.0 f.room) (omega (arith, few_cores w f, after_head.cores)) refl cores at_places (λ j a b. refl))
    where
      like : (q : ℕ) → q < places → Alike (piece_at after q) (piece_at w q)
      like q m = after_piece q

      cores : (c : ℕ) → c < draft_cores after → core_total after c ≡ core_sum after c
      cores c k =
          let m : c < draft_cores w = subst (λ (n : ℕ). c < n) after_head.cores k in let b = few_cores w f in
          after_core c (omega arith) ∙ (((r_draft w).0 d).3 c m).1 ∙ sym (alike_core w after after_head f like c)

      at_places : (q : ℕ) → q < places → is_free after q ≡ false
          → (rank_at after q ≡ rank after (piece_at after q).task (piece_at after q).job) × (total_at after q ≡ job_sum after (piece_at after q).task (piece_at after q).job)
      at_places q m e = go (((r_draft w).0 d).4 q m)
        where
          go : (is_free w q ≡ true) ⊎ TruePlace w q
              → (rank_at after q ≡ rank after (piece_at after q).task (piece_at after q).job) × (total_at after q ≡ job_sum after (piece_at after q).task (piece_at after q).job)
          go (inl z) = absurd (true≢false (sym z ∙ sym (alike_free w after after_head f like q m) ∙ e))
          go (inr z) =
              rw ((after_piece q).task, (after_piece q).job) (
                after_rank q ∙ z.2 ∙ sym (alike_rank w after after_head f like (piece_at w q).task (piece_at w q).job),
                after_total q ∙ z.3 ∙ sym (alike_job w after after_head f like (piece_at w q).task (piece_at w q).job),
              )

  -- the piece's other three words are stored as they are
  stored_once : sets w (place_at p) (piece_words (moved_to (piece_at w p) start)) ≡ after
  unfolding piece_words moved_to piece_at
  stored_once =
      let i = place_at p in
      let one : i + 1 ≡ suc i = omega arith in let two : i + 2 ≡ suc (suc i) = omega arith in let three : i + 3 ≡ suc (suc (suc i)) = omega arith in
      let a : set w i (get_or w i 0) ≡ w = set-get_or w i 0 in
      let b : set w (suc i) (get_or w (i + 1) 0) ≡ w = ap (λ (j : ℕ). set w j (get_or w (i + 1) 0)) (sym one) ∙ set-get_or w (i + 1) 0 in
      let c : set w (suc (suc i)) start ≡ after = ap (λ (j : ℕ). set w j start) (sym two) in
      let e : set after (suc (suc (suc i))) (get_or w (i + 3) 0) ≡ after =
      ap (λ (j : ℕ). set after j (get_or w (i + 3) 0)) (sym three) ∙ ap (λ (x : ℕ). set after (i + 3) x) (sym (other (i + 3) (λ z. omega arith))) ∙ set-get_or after (i + 3) 0 in
      rw (a, b, c) e

  pub moved_words : put_at w p (moved_to (piece_at w p) start) ≡ after
  unfolding put_at
  moved_words = ap summed stored_once ∙ after_summed

-- what a move answers and leaves
module _ (w : List ℕ) (p start : ℕ) where
  pub move_33 : is_draft w && holds_piece w p ≡ false → (33 ≡ move_number w p start) × (w ≡ move_words w p start)
  unfolding move_number move_words
  move_33 e = let n = asked_no 33 _ _ e in (sym n, sym (leaves_old _ _ w (not_zero n)))

  module _ (e : is_draft w && holds_piece w p ≡ true) where
    pub move_10 : fits_job w (moved_to (piece_at w p) start) ≡ false → (10 ≡ move_number w p start) × (w ≡ move_words w p start)
    unfolding move_number move_words
    move_10 d = let n = asked_yes 33 _ _ e ∙ asked_no 10 _ [] d in (sym n, sym (leaves_old _ _ w (not_zero n)))

    pub move_0 : fits_job w (moved_to (piece_at w p) start) ≡ true → is_draft w ≡ true → p < places
        → (0 ≡ move_number w p start) × (set w (place_at p + 2) start ≡ move_words w p start)
    unfolding move_number move_words
    move_0 d g l = let n = asked_yes 33 _ _ e ∙ asked_yes 10 _ [] d ∙ asked_none in (sym n, sym (moved_words w p start g l) ∙ sym (leaves_new _ _ w n))

-- the piece to move is there
pub move_held : (w : List ℕ) (p : ℕ) → is_draft w && holds_piece w p ≡ true → (is_draft w ≡ true) × (p < places) × ((piece_at w p).task < draft_tasks w)
move_held w p e = let a = held w p e in (a.0, a.1, task_exists w p (held_fits w (formed_of w a.0) p a.1 a.2))
