-- Words past the first 32,768 say nothing: `FirstWords` (specs/Claim.antt).
use Prim.Native.Nat.{ℕ, ◌+◌, ◌≤◌, ◌<◌}
use mathlib.Core.Path.{◌≡◌, refl, sym, ap, ◌∙◌, subst}
use mathlib.Core.Logic.{◌≢◌, ◌⊎◌, inl, inr}
use mathlib.Core.Bool.{Bool, true, false, not, ◌&&◌, true≢false}
use mathlib.Core.List.{List, ◌∷◌, []}
use native.Mathlib.Decide.{dec_lt, ℕ_discrete}
use native.Mathlib.Omega.{arith}
use lib.ListN.{length, get_or, set, length-set}
use lib.Seq.{sets, length-sets}
use lib.Dec.{ltb, leb}
use borrow.Author.Tests.{ltb-true, le-ltb}
use Rattle.plan.specs.declared.Piece.{Piece}
use Rattle.plan.specs.Questions.{whole}
use Rattle.drafts.specs.Drafts.{draft_words, places, core_at, place_at, draft_cores, draft_tasks, task_jobs, core_total, piece_at, rank_at, total_at, is_free, has_task, fits_job, core_sum, is_draft, holds_piece}
use Rattle.drafts.specs.Edits.{store_rows, sums_at, summed, piece_words, put_at, freed_at, leaves, gives, moved_to, add_number, add_words, remove_number, remove_words, move_number, move_words, place_number, place_leaves, job_number, job_value, core_number, core_value}
use Rattle.drafts.specs.Claim.{Edit, adds, removes, moves, edit_number, edited, Alike, FirstWords}
use Rattle.drafts.proofs.Storing.{length_rows, rows_cong, set_agrees, sets_agree, rows_agree}
use Rattle.drafts.proofs.Heads.{Formed, TruePlace, TrueCore, r_draft, formed_of, few_cores, few_tasks, SameHead, same_head, same_task, same_fit, same_range, same_tasks, same_switches, same_piece, same_free, same_job_sum, same_rank, same_core_sum, held_fits}
use Rattle.drafts.proofs.Summing.{length_summed, sums_short}
use Rattle.drafts.proofs.Asking.{asked_yes, asked_no, leaves_new, leaves_old}
use Rattle.drafts.proofs.Editing.{task_moved, stored_formed, emptied_formed}
use Rattle.drafts.proofs.Stored.{stored_sum}
use Rattle.drafts.proofs.Keeping.{held, added, removed, moved}
use Rattle.drafts.proofs.Answers.{asked_same}
use Rattle.drafts.proofs.Claims.{no_draft, refused_keeps}

sym_alike : (w v : List ℕ) → Alike w v → Alike v w
sym_alike w v a = (a.1, a.0, λ j l. sym (a.2 j l))

module _ (w v : List ℕ) (a : Alike w v) where
  pub alike_head : SameHead w v
  unfolding draft_words
  alike_head = same_head w v (λ l. a.1, λ l. a.0) (λ j l h. a.2 j (omega arith))

  pub alike_piece : (q : ℕ) → q < places → piece_at v q ≡ piece_at w q
  unfolding place_at draft_words places
  alike_piece q l =
      same_piece w v q (a.2 (place_at q) (omega arith)) (a.2 (place_at q + 1) (omega arith)) (a.2 (place_at q + 2) (omega arith)) (a.2 (place_at q + 3) (omega arith))

  alike_rank : (q : ℕ) → q < places → rank_at v q ≡ rank_at w q
  unfolding rank_at place_at draft_words places
  alike_rank q l = a.2 (place_at q + 4) (omega arith)

  pub alike_total : (q : ℕ) → q < places → total_at v q ≡ total_at w q
  unfolding total_at place_at draft_words places
  alike_total q l = a.2 (place_at q + 5) (omega arith)

  pub alike_core : (c : ℕ) → c < 32 → core_total v c ≡ core_total w c
  unfolding core_total core_at draft_words
  alike_core c l = a.2 (core_at c + 1) (omega arith)

  pub draft_on : is_draft w ≡ true → is_draft v ≡ true
  draft_on d = (r_draft v).1 (a.1, same_range w v h f.head, same_tasks w v h f, cores, λ p l. place p l (((r_draft w).0 d).4 p l))
    where
      h : SameHead w v
      h = alike_head

      f : Formed w
      f = formed_of w d

      cores : (c : ℕ) → c < draft_cores v → TrueCore v c
      cores c l =
          let m : c < draft_cores w = subst (λ (n : ℕ). c < n) h.cores l in let n = few_cores w f in
          (same_switches w v h f c l, alike_core c (omega arith) ∙ (((r_draft w).0 d).3 c m).1 ∙ sym (same_core_sum w v alike_piece h f c))

      place : (p : ℕ) → p < places → (is_free w p ≡ true) ⊎ TruePlace w p → (is_free v p ≡ true) ⊎ TruePlace v p
      place p l (inl e) = inl (same_free w v alike_piece p l ∙ e)
      place p l (inr t) =
          inr
          (rw (alike_piece p l) (
            same_task w v h (piece_at w p) ∙ t.0,
            same_fit w v h f (piece_at w p) t.0 ∙ t.1,
            alike_rank p l ∙ t.2 ∙ sym (same_rank w v alike_piece (piece_at w p).task (piece_at w p).job),
            alike_total p l ∙ t.3 ∙ sym (same_job_sum w v alike_piece (piece_at w p).task (piece_at w p).job),
          ))

pub alike_draft : (w v : List ℕ) → Alike w v → is_draft v ≡ is_draft w
alike_draft w v a = go (is_draft w) refl (is_draft v) refl
  where
    go : (b : Bool) → is_draft w ≡ b → (c : Bool) → is_draft v ≡ c → is_draft v ≡ is_draft w
    go true d c e = draft_on w v a d ∙ sym d
    go false d true e = absurd (true≢false (sym (draft_on v w (sym_alike w v a) e) ∙ d))
    go false d false e = e ∙ sym d

same_sums : (w v : List ℕ) → ((q : ℕ) → q < places → piece_at v q ≡ piece_at w q) → (p : ℕ) → p < places → sums_at v p ≡ sums_at w p
unfolding sums_at
same_sums w v h p l =
    rw (same_free w v h p l, h p l, same_rank w v h (piece_at w p).task (piece_at w p).job, same_job_sum w v h (piece_at w p).task (piece_at w p).job) refl

-- every rank and total stored
summed_alike : (w v : List ℕ) → Alike w v → Formed w → Alike (summed w) (summed v)
unfolding summed draft_words place_at core_at places
summed_alike w v a f =
    (rw (length_summed w) a.0, rw (length_summed v) a.1, λ j l. ap (λ (x : List ℕ). get_or x j 0) same_rows ∙ agrees j l)
  where
    h : SameHead w v
    h = alike_head w v a

    few : draft_cores w ≤ 32
    few = few_cores w f

    mid : List ℕ → List ℕ
    mid u = store_rows (λ p. place_at p + 4) (sums_at w) places u

    row : (p : ℕ) → p < places → sums_at v p ≡ sums_at w p
    row p l = same_sums w v (alike_piece w v a) p l

    same_rows : store_rows (λ c. core_at c + 1) (λ c. core_sum v c ∷ []) (draft_cores v) (store_rows (λ p. place_at p + 4) (sums_at v) places v)
        ≡ store_rows (λ c. core_at c + 1) (λ c. core_sum w c ∷ []) (draft_cores w) (mid v)
    same_rows =
        ap (λ (n : ℕ). store_rows (λ c. core_at c + 1) (λ c. core_sum v c ∷ []) n (store_rows (λ p. place_at p + 4) (sums_at v) places v)) h.cores
        ∙ rows_cong (λ c. core_at c + 1) (λ c. core_sum v c ∷ []) (λ c. core_sum w c ∷ []) (draft_cores w) (store_rows (λ p. place_at p + 4) (sums_at v) places v)
        (λ c l. ap (λ (n : ℕ). n ∷ []) (same_core_sum w v (alike_piece w v a) h f c))
        ∙ ap (λ (u : List ℕ). store_rows (λ c. core_at c + 1) (λ c. core_sum w c ∷ []) (draft_cores w) u) (rows_cong (λ p. place_at p + 4) (sums_at v) (sums_at w) places v row)

    agrees : (j : ℕ) → j < 32768
        → get_or (store_rows (λ c. core_at c + 1) (λ c. core_sum w c ∷ []) (draft_cores w) (mid v)) j 0
        ≡ get_or (store_rows (λ c. core_at c + 1) (λ c. core_sum w c ∷ []) (draft_cores w) (mid w)) j 0
    agrees =
        rows_agree 32768 (λ c. core_at c + 1) (λ c. core_sum w c ∷ []) (draft_cores w) (mid w) (mid v)
        (rw (length_rows (λ p. place_at p + 4) (sums_at w) places w) a.0) (rw (length_rows (λ p. place_at p + 4) (sums_at w) places v) a.1)
        (rows_agree 32768 (λ p. place_at p + 4) (sums_at w) places w v a.0 a.1 a.2 (λ r l. omega (arith, sums_short w r))) (λ r l. omega (arith, few))

-- a place that is none
far_place : (w : List ℕ) (p : ℕ) (lent : List ℕ) → places ≤ p → place_number w p lent ≢ 0
unfolding place_number holds_piece
far_place w p lent l z = let n = asked_no 33 _ (whole 34 (leb 4 (length lent)) ∷ []) (none (is_draft w)) in omega (arith, n)
  where
    none : (b : Bool) → b && (ltb p places && not (is_free w p)) ≡ false
    none true = rw (le-ltb p places l) refl
    none false = refl

-- a core that is none
far_core : (w : List ℕ) → is_draft w ≡ true → (c x y : ℕ) → draft_cores w ≤ c → gives (core_number w c) x ≡ gives (core_number w c) y
unfolding core_number gives
far_core w d c x y l =
    let n = asked_yes 33 _ (whole 5 (ltb c (draft_cores w)) ∷ []) d ∙ asked_no 5 _ [] (le-ltb c (draft_cores w) l) in
    rw n refl

some : (n : ℕ) → n ≡ 33 → 0 < n
some n e = omega arith

-- the words of a piece stored, and of a place freed
module _ (w v : List ℕ) (a : Alike w v) (p : ℕ) where
  put_words : (x : Piece) → p < places → Alike (sets w (place_at p) (piece_words x)) (sets v (place_at p) (piece_words x))
  unfolding place_at piece_words draft_words places
  put_words x l =
      (rw (length-sets w (place_at p) (piece_words x)) a.0, rw (length-sets v (place_at p) (piece_words x)) a.1, sets_agree 32768 (piece_words x) w v a.0 a.1 a.2 (place_at p) (omega arith))

  free_words : p < places → Alike (set w (place_at p + 3) 0) (set v (place_at p + 3) 0)
  unfolding place_at draft_words places
  free_words l =
      (rw (length-set w (place_at p + 3) 0) a.0, rw (length-set v (place_at p + 3) 0) a.1, set_agrees 32768 w v a.0 a.1 a.2 (place_at p + 3) 0 (omega arith))

-- ---- every call on a draft

module _ (w v : List ℕ) (a : Alike w v) (d : is_draft w ≡ true) where
  f : Formed w
  f = formed_of w d

  e : is_draft v ≡ true
  e = draft_on w v a d

  h : SameHead w v
  h = alike_head w v a

  held_alike : (p : ℕ) → is_draft v && holds_piece v p ≡ is_draft w && holds_piece w p
  unfolding holds_piece
  held_alike p = rw (d, e) (go (dec_lt p places))
    where
      go : Dec (p < places) → ltb p places && not (is_free v p) ≡ ltb p places && not (is_free w p)
      go (yes l) = rw (same_free w v (alike_piece w v a) p l) refl
      go (no l) = rw (le-ltb p places (omega arith)) refl

  open_alike : (p : ℕ) → ltb p places && is_free v p ≡ ltb p places && is_free w p
  open_alike p = go (dec_lt p places)
    where
      go : Dec (p < places) → ltb p places && is_free v p ≡ ltb p places && is_free w p
      go (yes l) = rw (same_free w v (alike_piece w v a) p l) refl
      go (no l) = rw (le-ltb p places (omega arith)) refl

  add_alike : (p : ℕ) (x : Piece) → add_number v p x ≡ add_number w p x
  unfolding add_number
  add_alike p x =
      asked_same 33 _ _ _ _ (e ∙ sym d)
      (λ _. asked_same 5 _ _ _ _ (same_task w v h x) (λ t. asked_same 10 _ _ _ _ (same_fit w v h f x t) (λ _. asked_same 34 _ _ [] [] (open_alike p) (λ _. refl))))

  move_alike : (p start : ℕ) → move_number v p start ≡ move_number w p start
  unfolding move_number
  move_alike p start =
      asked_same 33 _ _ _ _ (held_alike p)
      (λ z. let b = held w p z in
      asked_same 10 _ _ [] []
      (ap (λ (y : Piece). fits_job v (moved_to y start)) (alike_piece w v a p b.1)
      ∙ same_fit w v h f (moved_to (piece_at w p) start) (task_moved w (piece_at w p) start (held_fits w f p b.1 b.2).0))
      (λ _. refl))

  remove_alike : (p : ℕ) → remove_number v p ≡ remove_number w p
  unfolding remove_number
  remove_alike p = asked_same 33 _ _ [] [] (held_alike p) (λ _. refl)

  place_alike : (p : ℕ) (lent : List ℕ) → place_number v p lent ≡ place_number w p lent
  unfolding place_number
  place_alike p lent = asked_same 33 _ _ _ _ (held_alike p) (λ _. refl)

  place_left_alike : (p : ℕ) (lent : List ℕ) → place_leaves v p lent ≡ place_leaves w p lent
  unfolding place_leaves
  place_left_alike p lent = rw (place_alike p lent) (go (dec_lt p places))
    where
      go : Dec (p < places) → leaves (place_number w p lent) (sets lent 0 (piece_words (piece_at v p))) lent ≡ leaves (place_number w p lent) (sets lent 0 (piece_words (piece_at w p))) lent
      go (yes l) = rw (alike_piece w v a p l) refl
      go (no l) =
          let z : place_number w p lent ≢ 0 = past p lent (omega arith) in
          leaves_old _ _ lent z ∙ sym (leaves_old _ _ lent z)
        where
          past : (p : ℕ) (lent : List ℕ) → places ≤ p → place_number w p lent ≢ 0
          past p lent m = far_place w p lent m

  jobs_alike : (t : ℕ) → t < 256 → task_jobs v t ≡ task_jobs w t
  unfolding task_jobs
  jobs_alike t l = rw (h.cycle, h.period t l) refl

  job_number_holds : (t k : ℕ) → job_number v t k ≡ job_number w t k
  unfolding job_number
  job_number_holds t k =
      asked_same 33 _ _ _ _ (e ∙ sym d)
      (λ _. asked_same 5 _ _ _ _ (ap (ltb t) h.tasks)
      (λ z. let l : t < draft_tasks w = ltb-true t (draft_tasks w) z in let m = few_tasks w f in
      asked_same 10 _ _ [] [] (ap (ltb k) (jobs_alike t (omega arith))) (λ _. refl)))

  job_value_holds : (t k : ℕ) → job_value v t k ≡ job_value w t k
  unfolding job_value
  job_value_holds t k = rw (job_number_holds t k, stored_sum v e t k, stored_sum w d t k, same_job_sum w v (alike_piece w v a) t k) refl

  core_number_holds : (c : ℕ) → core_number v c ≡ core_number w c
  unfolding core_number
  core_number_holds c = asked_same 33 _ _ _ _ (e ∙ sym d) (λ _. asked_same 5 _ _ [] [] (ap (ltb c) h.cores) (λ _. refl))

  core_value_holds : (c : ℕ) → core_value v c ≡ core_value w c
  unfolding core_value
  core_value_holds c = rw (core_number_holds c) (go (dec_lt c (draft_cores w)))
    where
      go : Dec (c < draft_cores w) → gives (core_number w c) (core_total v c) ≡ gives (core_number w c) (core_total w c)
      go (yes l) = let m = few_cores w f in rw (alike_core w v a c (omega arith)) refl
      go (no l) = far_core w d c (core_total v c) (core_total w c) (omega arith)

  -- what an edit leaves
  left_alike : (n : ℕ) (new old : List ℕ) → (n ≡ 0 → Alike new old) → Alike (leaves n new w) (leaves n old v)
  left_alike n new old k = go (ℕ_discrete n 0)
    where
      go : Dec (n ≡ 0) → Alike (leaves n new w) (leaves n old v)
      go (yes z) = rw (leaves_new n new w z, leaves_new n old v z) (k z)
      go (no z) = rw (leaves_old n new w z, leaves_old n old v z) a

  put_alike : (p : ℕ) (x : Piece) → p < places → has_task w x ≡ true → fits_job w x ≡ true → Alike (put_at w p x) (put_at v p x)
  unfolding put_at
  put_alike p x l t j = summed_alike (sets w (place_at p) (piece_words x)) (sets v (place_at p) (piece_words x)) (put_words w v a p x l) (stored_formed w p x f l t j)

  free_alike : (p : ℕ) → p < places → Alike (freed_at w p) (freed_at v p)
  unfolding freed_at
  free_alike p l = summed_alike (set w (place_at p + 3) 0) (set v (place_at p + 3) 0) (free_words w v a p l) (emptied_formed w p f l)

  edited_alike : (x : Edit) → Alike (edited w x) (edited v x)
  unfolding edited add_words remove_words move_words
  edited_alike (adds p x) =
      rw (add_alike p x) (left_alike (add_number w p x) _ _ (λ z. let b = added w p x z in put_alike p x b.3 b.1 b.2))
  edited_alike (removes p) = rw (remove_alike p) (left_alike (remove_number w p) _ _ (λ z. free_alike p (removed w p z).1))
  edited_alike (moves p start) =
      rw (move_alike p start)
      (left_alike (move_number w p start) _ _
      (λ z. let b = moved w p start z in let l = b.0.1 in
      rw (alike_piece w v a p l) (put_alike p (moved_to (piece_at w p) start) l (task_moved w (piece_at w p) start (held_fits w f p l b.0.2).0) b.1)))

  number_alike : (x : Edit) → edit_number v x ≡ edit_number w x
  unfolding edit_number
  number_alike (adds p x) = add_alike p x
  number_alike (removes p) = remove_alike p
  number_alike (moves p start) = move_alike p start

-- and on words that are none
module _ (w v : List ℕ) (a : Alike w v) (d : is_draft w ≡ false) where
  kept_both : (x : Edit) → Alike (edited w x) (edited v x)
  kept_both x =
      let m = (no_draft w d).0 x in let n = (no_draft v (alike_draft w v a ∙ d)).0 x in
      rw ((refused_keeps w).1 x (omega arith), (refused_keeps v).1 x (omega arith)) a

pub first_words : FirstWords
first_words w v a = go (is_draft w) refl
  where
    go : (b : Bool) → is_draft w ≡ b
        → (is_draft v ≡ is_draft w) × ((e : Edit) → (edit_number v e ≡ edit_number w e) × Alike (edited w e) (edited v e))
        × ((p : ℕ) (lent : List ℕ) → (place_number v p lent ≡ place_number w p lent) × (place_leaves v p lent ≡ place_leaves w p lent))
        × ((t k : ℕ) → (job_number v t k ≡ job_number w t k) × (job_value v t k ≡ job_value w t k))
        × ((c : ℕ) → (core_number v c ≡ core_number w c) × (core_value v c ≡ core_value w c))
    go true d = (
      alike_draft w v a,
      λ x. (number_alike w v a d x, edited_alike w v a d x),
      λ p lent. (place_alike w v a d p lent, place_left_alike w v a d p lent),
      λ t k. (job_number_holds w v a d t k, job_value_holds w v a d t k),
      λ c. (core_number_holds w v a d c, core_value_holds w v a d c),
    )
    go false d =
        let n = no_draft w d in let m = no_draft v (alike_draft w v a ∙ d) in let r = refused_keeps w in let q = refused_keeps v in (
          alike_draft w v a,
          λ x. (m.0 x ∙ sym (n.0 x), kept_both w v a d x),
          λ p lent. (m.1 p lent ∙ sym (n.1 p lent), q.2 p lent (some _ (m.1 p lent)) ∙ sym (r.2 p lent (some _ (n.1 p lent)))),
          λ t k. (m.2 t k ∙ sym (n.2 t k), q.3 t k (some _ (m.2 t k)) ∙ sym (r.3 t k (some _ (n.2 t k)))),
          λ c. (m.3 c ∙ sym (n.3 c), q.4 c (some _ (m.3 c)) ∙ sym (r.4 c (some _ (n.3 c)))),
        )
