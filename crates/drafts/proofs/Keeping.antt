-- What edits keep of a draft made from an image: its head is the image's, and each place holds the piece that is meant.
use Prim.Native.Nat.{ℕ, ◌<◌}
use mathlib.Core.Path.{◌≡◌, refl, sym, ap, ◌∙◌, subst}
use mathlib.Core.Logic.{◌≢◌}
use mathlib.Core.Bool.{true, false, not, ◌&&◌, cond}
use mathlib.Core.List.{List}
use native.Mathlib.Decide.{ℕ_discrete}
use native.Mathlib.Omega.{arith}
use lib.Dec.{ltb, eqb}
use borrow.Author.Tests.{ltb-true, eqb-false, eq-eqb, ne_eqb, not-true}
use Rattle.plan.specs.declared.Piece.{Piece}
use Rattle.plan.specs.Held.{Sound}
use Rattle.plan.proofs.Searching.{and_true}
use Rattle.drafts.specs.Drafts.{places, piece_at, is_free, has_task, fits_job, is_draft, holds_piece}
use Rattle.drafts.specs.Edits.{leaves, summed, copied, no_piece, made_piece, make_number, make_words, put_at, freed_at, moved_to, add_number, add_words}
use Rattle.drafts.specs.Edits.{remove_number, remove_words, move_number, move_words}
use Rattle.drafts.specs.Claim.{adds, removes, moves, edited}
use Rattle.drafts.proofs.Heads.{Formed, formed_of, few_cores, few_tasks, SameHead, held_fits}
use Rattle.drafts.proofs.Summing.{summed_head, summed_piece, summed_draft}
use Rattle.drafts.proofs.Editing.{task_moved, put_draft, put_head, put_here, put_there, freed_draft, freed_head, freed_here, freed_there}
use Rattle.drafts.proofs.Asking.{asked_zero, leaves_new, leaves_old}
use Rattle.drafts.proofs.Making.{shown, HeadOf, copied_head, copied_piece, copied_formed}

-- the piece of a place is the one that is meant, or both are of length 0
pub record Agree (x y : Piece) : Type 0 where
  pub long : x.length ≡ y.length
  pub same : 0 < y.length → x ≡ y

agree_same : {x y : Piece} → x ≡ y → Agree x y
agree_same e = record { long = ap (λ (z : Piece). z.length) e; same = λ _. e }

-- what edits keep
pub record Kept (s w : List ℕ) (at : ℕ → Piece) : Type 0 where
  pub sound : Sound s
  pub draft : is_draft w ≡ true
  pub head : HeadOf s w
  pub agree : (p : ℕ) → p < places → Agree (piece_at w p) (at p)

head_on : (s w v : List ℕ) → Formed w → HeadOf s w → SameHead w v → HeadOf s v
head_on s w v f h g =
    let a = few_cores w f in let b = few_tasks w f in
    record {
      cycle = g.cycle ∙ h.cycle;
      cores = g.cores ∙ h.cores;
      tasks = g.tasks ∙ h.tasks;
      switch = λ c l. g.switch c (omega (arith, h.cores)) ∙ h.switch c l;
      core_of_holds = λ t l. g.core t (omega (arith, h.tasks)) ∙ h.core_of_holds t l;
      period = λ t l. g.period t (omega (arith, h.tasks)) ∙ h.period t l;
      deadline = λ t l. g.deadline t (omega (arith, h.tasks)) ∙ h.deadline t l;
    }

-- ---- what a call that gives 0 has been asked

module _ (w : List ℕ) (p : ℕ) where
  pub added : (x : Piece) → add_number w p x ≡ 0 → (is_draft w ≡ true) × (has_task w x ≡ true) × (fits_job w x ≡ true) × (p < places)
  unfolding add_number
  added x e =
      let a = asked_zero 33 _ _ (omega arith) e in let b = asked_zero 5 _ _ (omega arith) a.1 in
      let c = asked_zero 10 _ _ (omega arith) b.1 in let d = asked_zero 34 _ _ (omega arith) c.1 in
      (a.0, b.0, c.0, ltb-true p places (and_true (ltb p places) (is_free w p) d.0).0)

  pub held : is_draft w && holds_piece w p ≡ true → (is_draft w ≡ true) × (p < places) × (is_free w p ≡ false)
  unfolding holds_piece
  held e =
      let a = and_true (is_draft w) (holds_piece w p) e in let b = and_true (ltb p places) (not (is_free w p)) a.1 in
      (a.0, ltb-true p places b.0, not-true (is_free w p) b.1)

  pub removed : remove_number w p ≡ 0 → (is_draft w ≡ true) × (p < places) × (is_free w p ≡ false)
  unfolding remove_number
  removed e = held (asked_zero 33 _ _ (omega arith) e).0

  pub moved : (start : ℕ) → move_number w p start ≡ 0 → ((is_draft w ≡ true) × (p < places) × (is_free w p ≡ false)) × (fits_job w (moved_to (piece_at w p) start) ≡ true)
  unfolding move_number
  moved start e = let a = asked_zero 33 _ _ (omega arith) e in (held a.0, (asked_zero 10 _ _ (omega arith) a.1).0)

-- ---- an edit keeps what is kept

-- at place p the piece y, elsewhere as before; or as before everywhere
choose : (n p q : ℕ) (y x : Piece) → n ≡ 0 → q ≡ p → cond (eqb n 0 && eqb q p) y x ≡ y
choose n p q y x a b = rw (eq-eqb n 0 a, eq-eqb q p b) refl

choose_other : (n p q : ℕ) (y x : Piece) → n ≡ 0 → q ≢ p → cond (eqb n 0 && eqb q p) y x ≡ x
choose_other n p q y x a b = rw (eq-eqb n 0 a, ne_eqb q p b) refl

choose_none : (n p q : ℕ) (y x : Piece) → n ≢ 0 → cond (eqb n 0 && eqb q p) y x ≡ x
choose_none n p q y x a = rw (ne_eqb n 0 a) refl

module _ (s w : List ℕ) (at : ℕ → Piece) (k : Kept s w at) where
  f : Formed w
  f = formed_of w k.draft

  -- after an edit of place p to piece y
  module _ (v : List ℕ) (p : ℕ) (put : ℕ → Piece) (d : is_draft v ≡ true) (h : SameHead w v) (there : (q : ℕ) → q ≢ p → piece_at v q ≡ piece_at w q) where
    kept_after : Agree (piece_at v p) (put p) → ((q : ℕ) → q ≢ p → put q ≡ at q) → Kept s v put
    kept_after here others = record { sound = k.sound; draft = d; head = head_on s w v f k.head h; agree = λ q l. go q l (ℕ_discrete q p) }
      where
        go : (q : ℕ) → q < places → Dec (q ≡ p) → Agree (piece_at v q) (put q)
        go q l (yes e) = subst (λ (r : ℕ). Agree (piece_at v r) (put r)) (sym e) here
        go q l (no e) = rw (there q e, others q e) (k.agree q l)

  -- after a refused edit
  kept_same : (v : List ℕ) (put : ℕ → Piece) → v ≡ w → ((q : ℕ) → put q ≡ at q) → Kept s v put
  kept_same v put e others =
      rw e (record { sound = k.sound; draft = k.draft; head = k.head; agree = λ q l. rw (others q) (k.agree q l) })

  pub kept_add : (p : ℕ) (x : Piece) → Kept s (edited w (adds p x)) (λ q. cond (eqb (add_number w p x) 0 && eqb q p) x (at q))
  unfolding edited add_words
  kept_add p x = go (ℕ_discrete (add_number w p x) 0)
    where
      go : Dec (add_number w p x ≡ 0) → Kept s (leaves (add_number w p x) (put_at w p x) w) (λ q. cond (eqb (add_number w p x) 0 && eqb q p) x (at q))
      go (no e) = kept_same _ _ (leaves_old (add_number w p x) (put_at w p x) w e) (λ q. choose_none (add_number w p x) p q x (at q) e)
      go (yes e) =
          let a = added w p x e in
          rw (leaves_new (add_number w p x) (put_at w p x) w e)
          (kept_after (put_at w p x) p (λ q. cond (eqb (add_number w p x) 0 && eqb q p) x (at q))
          (put_draft w p x f a.3 a.1 a.2) (put_head w p x f a.3 a.1 a.2) (put_there w p x f a.3 a.1 a.2)
          (agree_same (put_here w p x f a.3 a.1 a.2 ∙ sym (choose (add_number w p x) p p x (at p) e refl)))
          (λ q d. choose_other (add_number w p x) p q x (at q) e d))

  pub kept_remove : (p : ℕ) → Kept s (edited w (removes p)) (λ q. cond (eqb (remove_number w p) 0 && eqb q p) no_piece (at q))
  unfolding edited remove_words no_piece
  kept_remove p = go (ℕ_discrete (remove_number w p) 0)
    where
      empty : {x y : Piece} → x.length ≡ 0 → y.length ≡ 0 → Agree x y
      empty a b = record { long = a ∙ sym b; same = λ l. absurd (omega arith) }

      go : Dec (remove_number w p ≡ 0) → Kept s (leaves (remove_number w p) (freed_at w p) w) (λ q. cond (eqb (remove_number w p) 0 && eqb q p) no_piece (at q))
      go (no e) = kept_same _ _ (leaves_old (remove_number w p) (freed_at w p) w e) (λ q. choose_none (remove_number w p) p q no_piece (at q) e)
      go (yes e) =
          let a = removed w p e in
          rw (leaves_new (remove_number w p) (freed_at w p) w e)
          (kept_after (freed_at w p) p (λ q. cond (eqb (remove_number w p) 0 && eqb q p) no_piece (at q))
          (freed_draft w p f a.1) (freed_head w p f a.1) (freed_there w p f a.1)
          (empty (freed_here w p f a.1) (ap (λ (z : Piece). z.length) (choose (remove_number w p) p p no_piece (at p) e refl)))
          (λ q d. choose_other (remove_number w p) p q no_piece (at q) e d))

  -- a piece that is there is the one meant
  pub there_is : (p : ℕ) → p < places → is_free w p ≡ false → piece_at w p ≡ at p
  unfolding is_free
  there_is p l e = let a = k.agree p l in let d = eqb-false _ 0 e in a.same (pos (at p).length (λ z. d (a.long ∙ z)))
    where
      pos : (n : ℕ) → (n ≡ 0 → ⊥) → 0 < n
      pos n h = omega arith

  pub kept_move : (p start : ℕ) → Kept s (edited w (moves p start)) (λ q. cond (eqb (move_number w p start) 0 && eqb q p) (moved_to (at q) start) (at q))
  unfolding edited move_words moved_to
  kept_move p start = go (ℕ_discrete (move_number w p start) 0)
    where
      go : Dec (move_number w p start ≡ 0)
          → Kept s (leaves (move_number w p start) (put_at w p (moved_to (piece_at w p) start)) w) (λ q. cond (eqb (move_number w p start) 0 && eqb q p) (moved_to (at q) start) (at q))
      go (no e) =
          kept_same _ _ (leaves_old (move_number w p start) (put_at w p (moved_to (piece_at w p) start)) w e) (λ q. choose_none (move_number w p start) p q (moved_to (at q) start) (at q) e)
      go (yes e) =
          let a = moved w p start e in let l = a.0.1 in let x = moved_to (piece_at w p) start in
          let t = task_moved w (piece_at w p) start (held_fits w f p l a.0.2).0 in
          rw (leaves_new (move_number w p start) (put_at w p x) w e)
          (kept_after (put_at w p x) p (λ q. cond (eqb (move_number w p start) 0 && eqb q p) (moved_to (at q) start) (at q))
          (put_draft w p x f l t a.1) (put_head w p x f l t a.1) (put_there w p x f l t a.1)
          (agree_same (put_here w p x f l t a.1 ∙ ap (λ (z : Piece). moved_to z start) (there_is p l a.0.2)
          ∙ sym (choose (move_number w p start) p p (moved_to (at p) start) (at p) e refl)))
          (λ q d. choose_other (move_number w p start) p q (moved_to (at q) start) (at q) e d))

-- making keeps it at first
pub kept_made : (s w : List ℕ) → make_number s w ≡ 0 → Kept s (make_words s w) (made_piece s)
unfolding make_words
kept_made s w e =
    let g = shown s w e in let f = copied_formed s w g in let n = few_cores (copied s w) f in
    rw (leaves_new (make_number s w) (summed (copied s w)) w e)
    (record {
      sound = g.sound;
      draft = summed_draft (copied s w) f;
      head = head_on s (copied s w) (summed (copied s w)) f (copied_head s w g) (summed_head (copied s w) n);
      agree = λ p l. agree_same (summed_piece (copied s w) n p ∙ copied_piece s w g p l);
    })
