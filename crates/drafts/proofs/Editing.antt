-- What an edit that gives 0 leaves: a draft with the same head, the piece put or no piece at its place, and all other pieces as they were.
use Prim.Native.Nat.{ℕ, ◌+◌, ◌≤◌, ◌<◌}
use mathlib.Core.Path.{◌≡◌, refl, sym, ap, ◌∙◌, subst}
use mathlib.Core.Logic.{◌≢◌, ◌⊎◌, inl, inr}
use mathlib.Core.Bool.{true}
use mathlib.Core.List.{List}
use native.Mathlib.Decide.{ℕ_discrete}
use native.Mathlib.Omega.{arith}
use lib.ListN.{length, get_or, set, length-set}
use lib.Seq.{sets, length-sets, get_or-set_same, get_or-set_other}
use borrow.Author.Tests.{eq-eqb}
use Rattle.plan.specs.declared.Piece.{Piece}
use Rattle.drafts.specs.Drafts.{draft_words, places, place_at, piece_at, is_free, has_task, fits_job, is_draft}
use Rattle.drafts.specs.Edits.{moved_to, piece_words, put_at, freed_at}
use Rattle.drafts.proofs.Storing.{sets_other, sets_at}
use Rattle.drafts.proofs.Heads.{Formed, Fits, few_cores, SameHead, same_length, same_head, same_task, same_fit, same_range, same_tasks, same_switches, same_piece}
use Rattle.drafts.proofs.Summing.{summed_head, summed_piece, summed_draft}

pub trans_head : {u w v : List ℕ} → SameHead u w → SameHead w v → SameHead u v
trans_head g h =
    record {
      room = (λ l. h.room.0 (g.room.0 l), λ l. g.room.1 (h.room.1 l));
      cycle = h.cycle ∙ g.cycle;
      cores = h.cores ∙ g.cores;
      tasks = h.tasks ∙ g.tasks;
      switch = λ c l. h.switch c l ∙ g.switch c l;
      core = λ t l. h.core t l ∙ g.core t l;
      period = λ t l. h.period t l ∙ g.period t l;
      deadline = λ t l. h.deadline t l ∙ g.deadline t l;
    }

pub sym_head : {w v : List ℕ} → SameHead w v → SameHead v w
sym_head h =
    record {
      room = (h.room.1, h.room.0);
      cycle = sym h.cycle;
      cores = sym h.cores;
      tasks = sym h.tasks;
      switch = λ c l. sym (h.switch c l);
      core = λ t l. sym (h.core t l);
      period = λ t l. sym (h.period t l);
      deadline = λ t l. sym (h.deadline t l);
    }

-- words whose head is the same are formed where their pieces are
pub formed_same : (w v : List ℕ) → SameHead w v → Formed w → ((p : ℕ) → p < places → (is_free v p ≡ true) ⊎ Fits v p) → Formed v
formed_same w v h f g =
    record {
      room = h.room.0 f.room;
      head = same_range w v h f.head;
      tasks = same_tasks w v h f;
      switches = same_switches w v h f;
      pieces = g;
    }

-- the piece of a place is free or fits, seen from words with the same head
fits_still : (w v : List ℕ) → SameHead w v → Formed w → (q : ℕ) → q < places → piece_at v q ≡ piece_at w q → (is_free v q ≡ true) ⊎ Fits v q
unfolding is_free
fits_still w v h f q l e = go (f.pieces q l)
  where
    go : (is_free w q ≡ true) ⊎ Fits w q → (is_free v q ≡ true) ⊎ Fits v q
    go (inl d) = inl (rw e d)
    go (inr d) = inr (rw e (same_task w v h (piece_at w q) ∙ d.0, same_fit w v h f (piece_at w q) d.0 ∙ d.1))

-- a moved piece is of the same task
pub task_moved : (w : List ℕ) (x : Piece) (start : ℕ) → has_task w x ≡ true → has_task w (moved_to x start) ≡ true
unfolding has_task moved_to
task_moved w x start e = e

-- ---- a piece put at a place

module _ (w : List ℕ) (p : ℕ) (x : Piece) where
  abbrev stored : List ℕ
  stored = sets w (place_at p) (piece_words x)

  pub stored_head : SameHead w stored
  unfolding place_at piece_words
  stored_head =
      same_head w stored (same_length w stored (length-sets w (place_at p) (piece_words x))) (λ j l h. sets_other (piece_words x) w (place_at p) j (λ m b e. omega arith))

  stored_word : draft_words ≤ length w → p < places → (m : ℕ) → m < 4 → get_or stored (place_at p + m) 0 ≡ get_or (piece_words x) m 0
  unfolding place_at piece_words draft_words places
  stored_word room l m k = sets_at (piece_words x) w (place_at p) m k (omega arith)

  pub stored_here : draft_words ≤ length w → p < places → piece_at stored p ≡ x
  unfolding piece_at piece_words
  stored_here room l =
      let z : place_at p + 0 ≡ place_at p = omega arith in let at = stored_word room l in
      rw (subst (λ (j : ℕ). get_or stored j 0 ≡ x.task) z (at 0 (omega arith)), at 1 (omega arith), at 2 (omega arith), at 3 (omega arith)) refl

  pub stored_there : (q : ℕ) → q ≢ p → piece_at stored q ≡ piece_at w q
  unfolding place_at piece_words
  stored_there q d =
      same_piece w stored q
      (sets_other (piece_words x) w (place_at p) (place_at q) (λ m b e. omega arith))
      (sets_other (piece_words x) w (place_at p) (place_at q + 1) (λ m b e. omega arith))
      (sets_other (piece_words x) w (place_at p) (place_at q + 2) (λ m b e. omega arith))
      (sets_other (piece_words x) w (place_at p) (place_at q + 3) (λ m b e. omega arith))

  -- the words afterwards
  module _ (f : Formed w) (l : p < places) (t : has_task w x ≡ true) (j : fits_job w x ≡ true) where
    pub stored_formed : Formed stored
    stored_formed = formed_same w stored stored_head f (λ q m. go q m (ℕ_discrete q p))
      where
        here : (is_free stored p ≡ true) ⊎ Fits stored p
        here = rw (stored_here f.room l) (inr (same_task w stored stored_head x ∙ t, same_fit w stored stored_head f x t ∙ j))

        go : (q : ℕ) → q < places → Dec (q ≡ p) → (is_free stored q ≡ true) ⊎ Fits stored q
        go q m (yes e) = subst (λ (r : ℕ). (is_free stored r ≡ true) ⊎ Fits stored r) (sym e) here
        go q m (no d) = fits_still w stored stored_head f q m (stored_there q d)

    pub put_draft : is_draft (put_at w p x) ≡ true
    unfolding put_at
    put_draft = summed_draft stored stored_formed

    pub put_head : SameHead w (put_at w p x)
    unfolding put_at
    put_head = trans_head stored_head (summed_head stored (few_cores stored stored_formed))

    pub put_here : piece_at (put_at w p x) p ≡ x
    unfolding put_at
    put_here = summed_piece stored (few_cores stored stored_formed) p ∙ stored_here f.room l

    pub put_there : (q : ℕ) → q ≢ p → piece_at (put_at w p x) q ≡ piece_at w q
    unfolding put_at
    put_there q d = summed_piece stored (few_cores stored stored_formed) q ∙ stored_there q d

-- ---- the piece of a place removed

module _ (w : List ℕ) (p : ℕ) where
  abbrev emptied : List ℕ
  emptied = set w (place_at p + 3) 0

  pub emptied_head : SameHead w emptied
  unfolding place_at
  emptied_head = same_head w emptied (same_length w emptied (length-set w (place_at p + 3) 0)) (λ j l h. get_or-set_other w (place_at p + 3) j 0 0 (λ e. omega arith))

  pub emptied_here : draft_words ≤ length w → p < places → (piece_at emptied p).length ≡ 0
  unfolding piece_at place_at draft_words places
  emptied_here room l = get_or-set_same w (place_at p + 3) 0 0 (omega arith)

  pub emptied_there : (q : ℕ) → q ≢ p → piece_at emptied q ≡ piece_at w q
  unfolding place_at
  emptied_there q d =
      same_piece w emptied q
      (get_or-set_other w (place_at p + 3) (place_at q) 0 0 (λ e. omega arith))
      (get_or-set_other w (place_at p + 3) (place_at q + 1) 0 0 (λ e. omega arith))
      (get_or-set_other w (place_at p + 3) (place_at q + 2) 0 0 (λ e. omega arith))
      (get_or-set_other w (place_at p + 3) (place_at q + 3) 0 0 (λ e. omega arith))

  module _ (f : Formed w) (l : p < places) where
    pub emptied_formed : Formed emptied
    unfolding is_free
    emptied_formed = formed_same w emptied emptied_head f (λ q m. go q m (ℕ_discrete q p))
      where
        go : (q : ℕ) → q < places → Dec (q ≡ p) → (is_free emptied q ≡ true) ⊎ Fits emptied q
        go q m (yes e) = inl (eq-eqb _ 0 (ap (λ (r : ℕ). (piece_at emptied r).length) e ∙ emptied_here f.room l))
        go q m (no d) = fits_still w emptied emptied_head f q m (emptied_there q d)

    pub freed_draft : is_draft (freed_at w p) ≡ true
    unfolding freed_at
    freed_draft = summed_draft emptied emptied_formed

    pub freed_head : SameHead w (freed_at w p)
    unfolding freed_at
    freed_head = trans_head emptied_head (summed_head emptied (few_cores emptied emptied_formed))

    pub freed_here : (piece_at (freed_at w p) p).length ≡ 0
    unfolding freed_at
    freed_here = rw (summed_piece emptied (few_cores emptied emptied_formed) p) (emptied_here f.room l)

    pub freed_there : (q : ℕ) → q ≢ p → piece_at (freed_at w p) q ≡ piece_at w q
    unfolding freed_at
    freed_there q d = summed_piece emptied (few_cores emptied emptied_formed) q ∙ emptied_there q d
