-- What one piece gives: with one more, a rank, a job's total and a core's total grow by it. So an edit needs one pass over the places, and no
-- sum is taken anew.
use Prim.Native.Nat.{ℕ, zero, suc, ◌+◌, ◌≤◌, ◌<◌}
use mathlib.Core.Path.{◌≡◌, refl, sym, ap, ◌∙◌, subst}
use mathlib.Core.Logic.{◌≢◌, ◌⊎◌, inl, inr}
use mathlib.Core.Bool.{true, not, ◌&&◌, cond}
use mathlib.Core.List.{List}
use lib.ListN.{set}
use lib.Seq.{sets}
use native.Mathlib.Nat.{not-suc-le-zero, eq-or-lt_of_le, le_of_suc-le-suc}
use native.Mathlib.Omega.{arith}
use lib.Dec.{ltb, eqb}
use borrow.Author.Tests.{ltb-true, eqb-false, eq-eqb, ne_eqb}
use Rattle.plan.specs.declared.Piece.{Piece}
use Rattle.plan.specs.Search.{sum, count}
use Rattle.plan.proofs.Searching.{and_true}
use Rattle.drafts.specs.Drafts.{draft_tasks, places, place_at, is_of, is_below, task_core, piece_at, is_free, has_task, job_sum, core_sum, rank}
use Rattle.drafts.specs.Edits.{piece_words, add_number, remove_number}
use Rattle.drafts.proofs.Heads.{Formed, Fits, r_fits, formed_of, few_tasks, task_exists, free_length, true_place, SameHead, sum_same, cond_none}
use Rattle.drafts.proofs.Editing.{sym_head, stored_head, stored_here, stored_there, emptied_head, emptied_here, emptied_there, emptied_formed}
use Rattle.drafts.proofs.Asking.{asked_zero}
use Rattle.drafts.proofs.Keeping.{added, removed}

-- a sum in which one row differs
pub sum_change : (f g : ℕ → ℕ) (n p : ℕ) → p < n → ((q : ℕ) → q < n → q ≢ p → f q ≡ g q) → sum n g + f p ≡ sum n f + g p
unfolding sum
sum_change f g zero p l h = absurd (not-suc-le-zero l)
sum_change f g (suc n) p l h =
    go (eq-or-lt_of_le (le_of_suc-le-suc l)) (λ k. sum_change f g n p k (λ q m d. h q (omega arith) d))
  where
    go : (p ≡ n) ⊎ (p < n) → (p < n → sum n g + f p ≡ sum n f + g p) → sum n g + g n + f p ≡ sum n f + f n + g p
    go (inl e) k =
        let s = sum_same f g n (λ q m. h q (omega arith) (λ z. omega arith)) in
        rw e (omega (arith, s))
    go (inr m) k = omega (arith, k m, h n (omega arith) (λ z. omega arith))

-- Words v have one piece more than words w: x at place p, which is free in w; all other pieces and the head are the same.
pub record OneMore (w v : List ℕ) (p : ℕ) (x : Piece) : Type 0 where
  pub formed : Formed w
  pub place : p < places
  pub head : SameHead w v
  pub free : is_free w p ≡ true
  pub long : 0 < x.length
  pub task : x.task < draft_tasks w
  pub here : piece_at v p ≡ x
  pub there : (q : ℕ) → q ≢ p → piece_at v q ≡ piece_at w q

module _ (w v : List ℕ) (p : ℕ) (x : Piece) (m : OneMore w v p x) where
  -- of a sum over the places that takes 0 for a free one
  grows : (f g : ℕ → ℕ) → ((q : ℕ) → q < places → q ≢ p → f q ≡ g q) → f p ≡ 0 → sum places g ≡ sum places f + g p
  grows f g h z = let s = sum_change f g places p m.place h in omega arith

  pub more_job : (t k : ℕ) → job_sum v t k ≡ job_sum w t k + cond (is_of t k x) x.length 0
  unfolding job_sum
  more_job t k =
      grows (λ q. cond (is_of t k (piece_at w q)) (piece_at w q).length 0) (λ q. cond (is_of t k (piece_at v q)) (piece_at v q).length 0)
      (λ q l d. rw (m.there q d) refl) (cond_none (is_of t k (piece_at w p)) _ (free_length w p m.free))
      ∙ ap (λ (y : Piece). sum places (λ q. cond (is_of t k (piece_at w q)) (piece_at w q).length 0) + cond (is_of t k y) y.length 0) m.here

  pub more_rank : (t k : ℕ) → rank v t k ≡ rank w t k + cond (is_below t k x) 1 0
  unfolding rank count is_free
  more_rank t k =
      grows (λ q. cond (not (eqb (piece_at w q).length 0) && is_below t k (piece_at w q)) 1 0)
      (λ q. cond (not (eqb (piece_at v q).length 0) && is_below t k (piece_at v q)) 1 0)
      (λ q l d. rw (m.there q d) refl) (rw m.free refl)
      ∙ ap (λ (n : ℕ). sum places (λ q. cond (not (eqb (piece_at w q).length 0) && is_below t k (piece_at w q)) 1 0) + n) own
    where
      own : ◌≡◌ {A = ℕ} (cond (not (eqb (piece_at v p).length 0) && is_below t k (piece_at v p)) 1 0) (cond (is_below t k x) 1 0)
      own = rw (m.here, ne_eqb x.length 0 (λ (e : x.length ≡ 0). omega (arith, m.long))) refl

  pub more_core : (c : ℕ) → core_sum v c ≡ core_sum w c + cond (eqb (task_core w x.task) c) x.length 0
  unfolding core_sum
  more_core c =
      grows (λ q. cond (eqb (task_core w (piece_at w q).task) c) (piece_at w q).length 0) (λ q. cond (eqb (task_core v (piece_at v q).task) c) (piece_at v q).length 0)
      (λ q l d. rw (m.there q d) (same q (m.formed.pieces q l))) (cond_none (eqb (task_core w (piece_at w p).task) c) _ (free_length w p m.free))
      ∙ ap (λ (n : ℕ). sum places (λ q. cond (eqb (task_core w (piece_at w q).task) c) (piece_at w q).length 0) + n) own
    where
      few : draft_tasks w ≤ 256
      few = few_tasks w m.formed

      same : (q : ℕ) → (is_free w q ≡ true) ⊎ Fits w q
          → cond (eqb (task_core w (piece_at w q).task) c) (piece_at w q).length 0 ≡ cond (eqb (task_core v (piece_at w q).task) c) (piece_at w q).length 0
      same q (inl e) = cond_none (eqb (task_core w (piece_at w q).task) c) _ (free_length w q e) ∙ sym (cond_none (eqb (task_core v (piece_at w q).task) c) _ (free_length w q e))
      same q (inr e) = let a = task_exists w q e in rw (m.head.core (piece_at w q).task (omega (arith, few))) refl

      own : cond (eqb (task_core v (piece_at v p).task) c) (piece_at v p).length 0 ≡ cond (eqb (task_core w x.task) c) x.length 0
      own = rw (m.here, m.head.core x.task (omega (arith, few, m.task))) refl

-- a piece added at a free place makes one more, and one removed leaves one less
pub one_stored : (w : List ℕ) (p : ℕ) (x : Piece) → add_number w p x ≡ 0 → OneMore w (sets w (place_at p) (piece_words x)) p x
unfolding add_number has_task
one_stored w p x e =
    let h = added w p x e in let f = formed_of w h.0 in
    let k = (asked_zero 34 _ _ (omega arith) (asked_zero 10 _ _ (omega arith) (asked_zero 5 _ _ (omega arith) (asked_zero 33 _ _ (omega arith) e).1).1).1).0 in
    record {
      formed = f;
      place = h.3;
      head = stored_head w p x;
      free = (and_true (ltb p places) (is_free w p) k).1;
      long = omega (arith, ((r_fits w x).0 h.2).1);
      task = ltb-true _ _ h.1;
      here = stored_here w p x f.room h.3;
      there = stored_there w p x;
    }

pub one_emptied : (w : List ℕ) (p : ℕ) → remove_number w p ≡ 0 → OneMore (set w (place_at p + 3) 0) w p (piece_at w p)
unfolding is_free
one_emptied w p e =
    let h = removed w p e in let f = formed_of w h.0 in let g = emptied_head w p in let t = true_place w h.0 p h.1 h.2 in
    record {
      formed = emptied_formed w p f h.1;
      place = h.1;
      head = sym_head g;
      free = eq-eqb _ 0 (emptied_here w p f.room h.1);
      long = positive (piece_at w p).length (eqb-false _ 0 h.2);
      task = subst (λ (n : ℕ). (piece_at w p).task < n) (sym g.tasks) (task_exists w p (t.0, t.1));
      here = refl;
      there = λ q d. sym (emptied_there w p q d);
    }
  where
    positive : (n : ℕ) → (n ≡ 0 → ⊥) → 0 < n
    positive n h = omega arith
