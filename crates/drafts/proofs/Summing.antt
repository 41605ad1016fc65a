-- The words with every total as the pieces give it: their head and pieces are as before, and they are a draft.
use Prim.Native.Nat.{ℕ, zero, suc, ◌+◌, ◌*◌, ◌≤◌, ◌<◌}
use mathlib.Core.Path.{◌≡◌, refl, sym, ap, ◌∙◌, subst}
use mathlib.Core.Logic.{◌≢◌, ◌⊎◌, inl, inr}
use mathlib.Core.Bool.{Bool, true, false, cond, true≢false}
use mathlib.Core.List.{List, ◌∷◌, []}
use native.Mathlib.Nat.{not-suc-le-zero}
use native.Mathlib.Omega.{arith}
use lib.ListN.{length, get_or}
use Rattle.drafts.specs.Drafts.{draft_words, places, core_at, place_at, draft_cores, core_total, piece_at, rank_at, total_at, is_free, job_sum, core_sum, rank, is_draft}
use Rattle.drafts.specs.Edits.{store_rows, sums_at, summed}
use Rattle.drafts.proofs.Storing.{length_rows, rows_other, rows_at, InRow, InNone, in_rows, rows_ext}
use Rattle.drafts.proofs.Heads.{Formed, Fits, TruePlace, TrueCore, r_draft, few_cores, SameHead, same_length, same_head, same_task, same_fit, same_range, same_tasks, same_switches}
use Rattle.drafts.proofs.Heads.{same_piece, same_free, same_job_sum, same_rank, same_core_sum}

module _ (w : List ℕ) where
  pub sums_short : (p : ℕ) → length (sums_at w p) ≤ 2
  unfolding sums_at
  sums_short p = go (is_free w p)
    where
      go : (b : Bool) → length (cond b [] (rank w (piece_at w p).task (piece_at w p).job ∷ job_sum w (piece_at w p).task (piece_at w p).job ∷ [])) ≤ 2
      go true = omega arith
      go false = omega arith

  sums_there : (p : ℕ) → is_free w p ≡ false → sums_at w p ≡ rank w (piece_at w p).task (piece_at w p).job ∷ job_sum w (piece_at w p).task (piece_at w p).job ∷ []
  unfolding sums_at
  sums_there p e = rw e refl

  abbrev places_summed : List ℕ
  places_summed = store_rows (λ p. place_at p + 4) (sums_at w) places w

  pub length_summed : length (summed w) ≡ length w
  unfolding summed
  length_summed = length_rows (λ c. core_at c + 1) (λ c. core_sum w c ∷ []) (draft_cores w) places_summed ∙ length_rows (λ p. place_at p + 4) (sums_at w) places w

  -- a word that is no total and no rank
  pub kept_word : draft_cores w ≤ 32 → (j : ℕ) → ((c : ℕ) → c < 32 → j ≢ 4 + 2 * c) → ((p m : ℕ) → m < 2 → j ≢ 839 + 6 * p + m) → get_or (summed w) j 0 ≡ get_or w j 0
  unfolding summed core_at place_at
  kept_word n j a b =
      rows_other (λ c. core_at c + 1) (λ c. core_sum w c ∷ []) (draft_cores w) places_summed j (λ c m l k e. a c (omega arith) (omega arith))
      ∙ rows_other (λ p. place_at p + 4) (sums_at w) places w j (λ p m l k e. b p m (omega (arith, sums_short p)) (omega arith))

  -- a word past the draft
  pub summed_later : draft_cores w ≤ 32 → (j : ℕ) → draft_words ≤ j → get_or (summed w) j 0 ≡ get_or w j 0
  unfolding summed core_at place_at draft_words places
  summed_later n j l =
      rows_other (λ c. core_at c + 1) (λ c. core_sum w c ∷ []) (draft_cores w) places_summed j (λ c m k b e. omega arith)
      ∙ rows_other (λ p. place_at p + 4) (sums_at w) places w j (λ p m k b e. omega (arith, sums_short p))

  pub summed_head : draft_cores w ≤ 32 → SameHead w (summed w)
  summed_head n = same_head w (summed w) (same_length w (summed w) length_summed) (λ j l h. kept_word n j h (λ p m k e. omega arith))

  pub summed_piece : draft_cores w ≤ 32 → (q : ℕ) → piece_at (summed w) q ≡ piece_at w q
  unfolding place_at
  summed_piece n q =
      same_piece w (summed w) q
      (kept_word n (place_at q) (λ c l e. omega arith) (λ p m k e. omega arith))
      (kept_word n (place_at q + 1) (λ c l e. omega arith) (λ p m k e. omega arith))
      (kept_word n (place_at q + 2) (λ c l e. omega arith) (λ p m k e. omega arith))
      (kept_word n (place_at q + 3) (λ c l e. omega arith) (λ p m k e. omega arith))

  -- a core's total
  pub summed_core : draft_words ≤ length w → draft_cores w ≤ 32 → (c : ℕ) → c < draft_cores w → core_total (summed w) c ≡ core_sum w c
  unfolding summed core_total core_at draft_words
  summed_core room n c l =
      let z : core_at c + 1 + 0 ≡ core_at c + 1 = omega arith in
      rw (← z)
      (rows_at (λ c. core_at c + 1) (λ c. core_sum w c ∷ []) (draft_cores w) places_summed (λ r q k. omega arith)
      (λ r k. omega (arith, length_rows (λ p. place_at p + 4) (sums_at w) places w)) c 0 l (omega arith))

  -- a place's rank and its job's total
  placed : draft_words ≤ length w → draft_cores w ≤ 32 → (p m : ℕ) → p < places → m < length (sums_at w p) → get_or (summed w) (place_at p + 4 + m) 0 ≡ get_or (sums_at w p) m 0
  unfolding summed place_at core_at draft_words places
  placed room n p m l k =
      rows_other (λ c. core_at c + 1) (λ c. core_sum w c ∷ []) (draft_cores w) places_summed (place_at p + 4 + m) (λ c i d b e. omega arith)
      ∙ rows_at (λ p. place_at p + 4) (sums_at w) places w (λ r q d. omega (arith, sums_short r)) (λ r d. omega (arith, sums_short r)) p m l k

  pub summed_rank : draft_words ≤ length w → draft_cores w ≤ 32 → (p : ℕ) → p < places → is_free w p ≡ false
      → rank_at (summed w) p ≡ rank w (piece_at w p).task (piece_at w p).job
  unfolding rank_at
  summed_rank room n p l e =
      let z : place_at p + 4 + 0 ≡ place_at p + 4 = omega arith in let s = sums_there p e in
      rw (← z) (placed room n p 0 l (rw s (omega arith)) ∙ (rw s refl))

  pub summed_total : draft_words ≤ length w → draft_cores w ≤ 32 → (p : ℕ) → p < places → is_free w p ≡ false
      → total_at (summed w) p ≡ job_sum w (piece_at w p).task (piece_at w p).job
  unfolding total_at
  summed_total room n p l e =
      let z : place_at p + 4 + 1 ≡ place_at p + 5 = omega arith in let s = sums_there p e in
      rw (← z) (placed room n p 1 l (rw s (omega arith)) ∙ (rw s refl))

  -- a draft but for its totals becomes a draft
  pub summed_draft : Formed w → is_draft (summed w) ≡ true
  summed_draft f =
      (r_draft (summed w)).1
      (omega (arith, f.room, length_summed), same_range w (summed w) h f.head, same_tasks w (summed w) h f, cores, λ p l. place p l (is_free w p) refl (f.pieces p l))
    where
      n : draft_cores w ≤ 32
      n = few_cores w f

      h : SameHead w (summed w)
      h = summed_head n

      same : (q : ℕ) → q < places → piece_at (summed w) q ≡ piece_at w q
      same q l = summed_piece n q

      cores : (c : ℕ) → c < draft_cores (summed w) → TrueCore (summed w) c
      cores c l =
          (same_switches w (summed w) h f c l, summed_core f.room n c (subst (λ (x : ℕ). c < x) h.cores l) ∙ sym (same_core_sum w (summed w) same h f c))

      place : (p : ℕ) → p < places → (b : Bool) → is_free w p ≡ b → (is_free w p ≡ true) ⊎ Fits w p → (is_free (summed w) p ≡ true) ⊎ TruePlace (summed w) p
      place p l true e d = inl (same_free w (summed w) same p l ∙ e)
      place p l false e (inl d) = absurd (true≢false (sym d ∙ e))
      place p l false e (inr d) =
          inr
          (rw (summed_piece n p) (
            same_task w (summed w) h (piece_at w p) ∙ d.0,
            same_fit w (summed w) h f (piece_at w p) d.0 ∙ d.1,
            summed_rank f.room n p l e ∙ sym (same_rank w (summed w) same (piece_at w p).task (piece_at w p).job),
            summed_total f.room n p l e ∙ sym (same_job_sum w (summed w) same (piece_at w p).task (piece_at w p).job),
          ))

-- Words u are w with every rank and total as w's pieces give them: so they are, where each rank and each total is and every other word is
-- w's. Whoever keeps totals by adding and subtracting has this to show.
module _ (w u : List ℕ) (room : draft_words ≤ length w) (n : draft_cores w ≤ 32) (same : length u ≡ length w)
    (cores : (c : ℕ) → c < draft_cores w → core_total u c ≡ core_sum w c)
    (held : (p : ℕ) → p < places → is_free w p ≡ false
    → (rank_at u p ≡ rank w (piece_at w p).task (piece_at w p).job) × (total_at u p ≡ job_sum w (piece_at w p).task (piece_at w p).job))
    (others : (j : ℕ) → ((c : ℕ) → c < draft_cores w → j ≢ core_at c + 1)
    → ((p m : ℕ) → p < places → is_free w p ≡ false → m < 2 → j ≢ place_at p + 4 + m) → get_or u j 0 ≡ get_or w j 0) where
  abbrev mid : List ℕ
  mid = store_rows (λ p. place_at p + 4) (sums_at w) places w

  -- a place's rank and total
  two : (p : ℕ) → p < places → is_free w p ≡ false → (m : ℕ) → m < 2
      → get_or u (place_at p + 4 + m) 0 ≡ get_or (rank w (piece_at w p).task (piece_at w p).job ∷ job_sum w (piece_at w p).task (piece_at w p).job ∷ []) m 0
  unfolding rank_at total_at
  two p l e zero b = let z : place_at p + 4 + 0 ≡ place_at p + 4 = omega arith in ap (λ (j : ℕ). get_or u j 0) z ∙ (held p l e).0
  two p l e (suc zero) b = let z : place_at p + 4 + 1 ≡ place_at p + 5 = omega arith in ap (λ (j : ℕ). get_or u j 0) z ∙ (held p l e).1
  two p l e (suc (suc m)) b = absurd (omega arith)

  place_words : (p m : ℕ) → p < places → m < length (sums_at w p) → get_or u (place_at p + 4 + m) 0 ≡ get_or (sums_at w p) m 0
  unfolding sums_at
  place_words p m l b = go (is_free w p) refl b
    where
      go : (t : Bool) → is_free w p ≡ t → m < length (cond (is_free w p) [] (rank w (piece_at w p).task (piece_at w p).job ∷ job_sum w (piece_at w p).task (piece_at w p).job ∷ []))
          → get_or u (place_at p + 4 + m) 0 ≡ get_or (cond (is_free w p) [] (rank w (piece_at w p).task (piece_at w p).job ∷ job_sum w (piece_at w p).task (piece_at w p).job ∷ [])) m 0
      go true e k = absurd (not-suc-le-zero (rw e at k))
      go false e k = rw e (two p l e m (rw e at k))

  -- elsewhere
  mid_word : (j : ℕ) → ((c : ℕ) → c < draft_cores w → j ≢ core_at c + 1) → get_or u j 0 ≡ get_or mid j 0
  unfolding place_at draft_words places
  mid_word j h = go (in_rows (λ p. place_at p + 4) (sums_at w) places j)
    where
      go : InRow (λ p. place_at p + 4) (sums_at w) places j ⊎ InNone (λ p. place_at p + 4) (sums_at w) places j → get_or u j 0 ≡ get_or mid j 0
      go (inl i) =
          rw i.word
          (place_words i.r i.m i.below i.inside
          ∙ sym (rows_at (λ p. place_at p + 4) (sums_at w) places w (λ r q d. omega (arith, sums_short w r)) (λ r d. omega (arith, sums_short w r)) i.r i.m i.below i.inside))
      go (inr k) =
          others j h (λ p m l e b. k p m l (rw (sums_there w p e) b)) ∙ sym (rows_other (λ p. place_at p + 4) (sums_at w) places w j k)

  core_words : (c m : ℕ) → c < draft_cores w → m < 1 → get_or u (core_at c + 1 + m) 0 ≡ get_or (core_sum w c ∷ []) m 0
  unfolding core_total
  core_words c zero l b = let z : core_at c + 1 + 0 ≡ core_at c + 1 = omega arith in ap (λ (j : ℕ). get_or u j 0) z ∙ cores c l
  core_words c (suc m) l b = absurd (omega arith)

  pub is_summed : u ≡ summed w
  unfolding summed core_at draft_words
  is_summed =
      let e = length_rows (λ p. place_at p + 4) (sums_at w) places w in
      rows_ext (λ c. core_at c + 1) (λ c. core_sum w c ∷ []) (draft_cores w) mid u (same ∙ sym e) (λ r q d. omega arith) (λ r d. omega arith)
      core_words (λ j h. mid_word j (λ c l z. h c 0 l (omega arith) (omega arith)))
