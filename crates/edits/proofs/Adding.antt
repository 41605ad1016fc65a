-- An addition leaves the words that the definition gives, by adding what one piece gives.
use Prim.Native.Nat.{ℕ, ◌≤◌, ◌+◌, ◌-◌, ◌^◌, ◌<◌}
use mathlib.Core.Path.{◌≡◌, refl, sym, ap, ◌∙◌, subst}
use mathlib.Core.Logic.{◌≢◌}
use mathlib.Core.Bool.{true, false, cond, true≢false}
use mathlib.Core.List.{List, ◌∷◌, []}
use native.Mathlib.Decide.{dec_lt, ℕ_discrete}
use native.Mathlib.Omega.{arith}
use lib.ListN.{length, get_or, set, length-set}
use lib.Seq.{sets, length-sets, get_or-set_same, get_or-set_other}
use lib.Dec.{eqb}
use borrow.Author.Tests.{eq-eqb, ne_eqb}
use Rattle.plan.specs.declared.Piece.{Piece}
use Rattle.drafts.specs.Drafts.{draft_words, places, core_at, place_at, draft_cores, task_core, core_total, piece_at, rank_at, total_at, is_free, job_sum, core_sum, rank, is_draft}
use Rattle.drafts.specs.Edits.{piece_words, put_at, stored_total, add_number}
use Rattle.drafts.proofs.Storing.{sets_other, sets_at}
use Rattle.drafts.proofs.Heads.{Formed, r_draft, formed_of, few_cores, few_tasks, core_exists, true_place}
use Rattle.drafts.proofs.Bounds.{job_fits, core_fits}
use Rattle.drafts.proofs.Stored.{stored_sum}
use Rattle.drafts.proofs.Summing.{is_summed}
use Rattle.drafts.proofs.Editing.{stored_head, stored_there, stored_formed}
use Rattle.drafts.proofs.Keeping.{added}
use Rattle.drafts.proofs.Changing.{OneMore, more_core, one_stored}
use Rattle.counting.specs.Counting.{with_part, rank_part, total_part, AllCountable}
use Rattle.counting.proofs.Counting.{counted_to, length_counted, counted_other}
use Rattle.edits.proofs.Parts.{small_rank, small_part, rank_with, total_with, own_part, with_more, loop_rank, loop_total}

module _ (w : List ℕ) (p : ℕ) (x : Piece) (e : add_number w p x ≡ 0) where
  abbrev stored : List ℕ
  stored = sets w (place_at p) (piece_words x)

  d : is_draft w ≡ true
  d = (added w p x e).0

  f : Formed w
  f = formed_of w d

  here : p < places
  here = (added w p x e).3

  m : OneMore w stored p x
  m = one_stored w p x e

  g : Formed stored
  g = let a = added w p x e in stored_formed w p x f a.3 a.1 a.2

  abbrev core : ℕ
  core = task_core w x.task

  pub core_is : core < draft_cores w
  core_is = core_exists w f x.task m.task

  pub add_countable : AllCountable true x w
  add_countable q l z =
      let t = true_place w d q l z in
      record {
        rank_fits = omega (arith, t.2, small_rank w (piece_at w q).task (piece_at w q).job, small_part x (piece_at w q));
        total_fits = omega (arith, t.3, total_with w stored p x m (piece_at w q), job_fits stored g (piece_at w q).task (piece_at w q).job);
        rank_holds = λ y. absurd (true≢false y);
        total_holds = λ y. absurd (true≢false y);
      }

  -- its own total, and its core's
  pub own_total : stored_total w x.task x.job + x.length ≡ job_sum stored x.task x.job
  own_total = let a = total_with w stored p x m x in omega (arith, stored_sum w d x.task x.job, (own_part x).1)

  pub own_fits : stored_total w x.task x.job + x.length < 2 ^ 32
  own_fits = omega (arith, own_total, job_fits stored g x.task x.job)

  core_with : (c : ℕ) → c < draft_cores w → core_sum stored c ≡ core_total w c + cond (eqb core c) x.length 0
  core_with c l = more_core w stored p x m c ∙ ap (λ (n : ℕ). n + cond (eqb core c) x.length 0) (sym (((r_draft w).0 d).3 c l).1)

  own_core : core_sum stored core ≡ core_total w core + x.length
  own_core = core_with core core_is ∙ (rw (eq-eqb core core refl) refl)

  -- the words as they are stored
  abbrev pub counted_with : List ℕ
  counted_with = counted_to true x w places

  abbrev pub placed : List ℕ
  placed = sets (sets counted_with (place_at p) (piece_words x)) (place_at p + 4) (rank w x.task x.job ∷ (stored_total w x.task x.job + x.length) ∷ [])

  abbrev pub after_adding : List ℕ
  after_adding = set placed (core_at core + 1) (with_part true (core_total placed core) x.length)

  pub length_placed : length placed ≡ length w
  length_placed =
      length-sets (sets counted_with (place_at p) (piece_words x)) (place_at p + 4) (rank w x.task x.job ∷ (stored_total w x.task x.job + x.length) ∷ [])
      ∙ length-sets counted_with (place_at p) (piece_words x) ∙ length_counted true x w places

  -- a word of no core's total and not of place p
  placed_other : (j : ℕ) → ((i : ℕ) → i < 6 → j ≢ place_at p + i) → get_or placed j 0 ≡ get_or counted_with j 0
  unfolding piece_words
  placed_other j h =
      sets_other (rank w x.task x.job ∷ (stored_total w x.task x.job + x.length) ∷ []) (sets counted_with (place_at p) (piece_words x)) (place_at p + 4) j (λ i b z. h (4 + i) (omega arith) (omega arith))
      ∙ sets_other (piece_words x) counted_with (place_at p) j (λ i b z. h i (omega arith) z)

  adding_other : (j : ℕ) → j ≢ core_at core + 1 → get_or after_adding j 0 ≡ get_or placed j 0
  adding_other j h = get_or-set_other placed (core_at core + 1) j _ 0 h

  -- a word before the places
  front : (j : ℕ) → j < 835 → get_or placed j 0 ≡ get_or w j 0
  unfolding place_at
  front j l = placed_other j (λ i b z. omega arith) ∙ counted_other true x w places j (λ q i k y b z. omega arith)

  pub core_kept : core_total placed core ≡ core_total w core
  unfolding core_total core_at
  core_kept = front (core_at core + 1) (omega (arith, core_is, few_cores w f))

  pub core_room : core_total placed core + x.length < 2 ^ 32
  core_room = omega (arith, core_kept, own_core, core_fits stored g core)

  -- each core's total
  adding_cores : (c : ℕ) → c < draft_cores stored → core_total after_adding c ≡ core_sum stored c
  unfolding core_total core_at draft_words
  adding_cores c l = go (ℕ_discrete c core)
    where
      k : c < draft_cores w
      k = subst (λ (n : ℕ). c < n) (stored_head w p x).cores l

      own : get_or after_adding (core_at core + 1) 0 ≡ core_sum stored core
      own =
          get_or-set_same placed (core_at core + 1) _ 0 (omega (arith, length_placed, f.room, core_is, few_cores w f))
          ∙ with_more (core_total placed core) x.length ∙ ap (λ (n : ℕ). n + x.length) core_kept ∙ sym own_core

      go : Dec (c ≡ core) → get_or after_adding (core_at c + 1) 0 ≡ core_sum stored c
      go (yes z) = rw z own
      go (no z) =
          adding_other (core_at c + 1) (λ y. omega arith) ∙ front (core_at c + 1) (omega (arith, k, few_cores w f))
          ∙ sym (core_with c k ∙ (rw (ne_eqb core c (λ (y : core ≡ c). z (sym y))) (omega arith)))

  -- the rank and total of its own place
  own_words : (i : ℕ) → i < 2 → get_or after_adding (place_at p + 4 + i) 0 ≡ get_or (rank w x.task x.job ∷ (stored_total w x.task x.job + x.length) ∷ []) i 0
  unfolding core_at place_at draft_words places
  own_words i b =
      adding_other (place_at p + 4 + i) (λ z. omega (arith, core_is, few_cores w f))
      ∙ sets_at (rank w x.task x.job ∷ (stored_total w x.task x.job + x.length) ∷ []) (sets counted_with (place_at p) (piece_words x)) (place_at p + 4) i b
      (omega (arith, here, f.room, length-sets counted_with (place_at p) (piece_words x), length_counted true x w places))

  -- and of another piece's
  there_words : (q i : ℕ) → q ≢ p → i < 6 → get_or after_adding (place_at q + i) 0 ≡ get_or counted_with (place_at q + i) 0
  unfolding core_at place_at
  there_words q i z b =
      adding_other (place_at q + i) (λ y. omega (arith, core_is, few_cores w f)) ∙ placed_other (place_at q + i) (λ j k y. omega arith)

  adding_held : (q : ℕ) → q < places → is_free stored q ≡ false
      → (rank_at after_adding q ≡ rank stored (piece_at stored q).task (piece_at stored q).job) × (total_at after_adding q ≡ job_sum stored (piece_at stored q).task (piece_at stored q).job)
  unfolding rank_at total_at is_free
  adding_held q l z = go (ℕ_discrete q p)
    where
      own : (get_or after_adding (place_at p + 4) 0 ≡ rank stored x.task x.job) × (get_or after_adding (place_at p + 5) 0 ≡ job_sum stored x.task x.job)
      own =
          let a : place_at p + 4 + 0 ≡ place_at p + 4 = omega arith in let b : place_at p + 4 + 1 ≡ place_at p + 5 = omega arith in (
            ap (λ (j : ℕ). get_or after_adding j 0) (sym a) ∙ own_words 0 (omega arith) ∙ sym (rank_with w stored p x m x ∙ (rw (own_part x).0 (omega arith))),
            ap (λ (j : ℕ). get_or after_adding j 0) (sym b) ∙ own_words 1 (omega arith) ∙ own_total,
          )

      go : Dec (q ≡ p)
          → (get_or after_adding (place_at q + 4) 0 ≡ rank stored (piece_at stored q).task (piece_at stored q).job) × (get_or after_adding (place_at q + 5) 0 ≡ job_sum stored (piece_at stored q).task (piece_at stored q).job)
      go (yes y) = rw (y, m.here) own
      go (no y) =
          let s = stored_there w p x q y in let h : is_free w q ≡ false = subst (λ (v : Piece). eqb v.length 0 ≡ false) s z in let t = true_place w d q l h in
          rw s (
            there_words q 4 y (omega arith) ∙ loop_rank true x w f.room q l h ∙ with_more (rank_at w q) (rank_part x (piece_at w q))
                ∙ ap (λ (n : ℕ). n + rank_part x (piece_at w q)) t.2 ∙ sym (rank_with w stored p x m (piece_at w q)),
            there_words q 5 y (omega arith) ∙ loop_total true x w f.room q l h ∙ with_more (total_at w q) (total_part x (piece_at w q))
                ∙ ap (λ (n : ℕ). n + total_part x (piece_at w q)) t.3 ∙ sym (total_with w stored p x m (piece_at w q)),
          )

  -- every other word is as the piece's four words leave it
  held_still : (q : ℕ) → q ≢ p → is_free w q ≡ false → is_free stored q ≡ false
  unfolding is_free
  held_still q y h = rw (stored_there w p x q y) h

  held_here : is_free stored p ≡ false
  unfolding is_free
  held_here = rw m.here (ne_eqb x.length 0 (λ (z : x.length ≡ 0). omega (arith, m.long)))

  adding_others : (j : ℕ) → ((c : ℕ) → c < draft_cores stored → j ≢ core_at c + 1)
      → ((q i : ℕ) → q < places → is_free stored q ≡ false → i < 2 → j ≢ place_at q + 4 + i) → get_or after_adding j 0 ≡ get_or stored j 0
  unfolding piece_words place_at draft_words places
  adding_others j a b =
      adding_other j (a core (subst (λ (n : ℕ). core < n) (sym (stored_head w p x).cores) core_is))
      ∙ sets_other (rank w x.task x.job ∷ (stored_total w x.task x.job + x.length) ∷ []) (sets counted_with (place_at p) (piece_words x)) (place_at p + 4) j (λ i l z. b p i here held_here l z)
      ∙ go (dec_lt j (place_at p)) (dec_lt j (place_at p + 4))
    where
      elsewhere : ((i : ℕ) → i < 4 → j ≢ place_at p + i) → get_or (sets counted_with (place_at p) (piece_words x)) j 0 ≡ get_or stored j 0
      elsewhere h =
          sets_other (piece_words x) counted_with (place_at p) j h
          ∙ counted_other true x w places j (λ q i l y k z. go2 q i l y k z (ℕ_discrete q p)) ∙ sym (sets_other (piece_words x) w (place_at p) j h)
        where
          go2 : (q i : ℕ) → q < places → is_free w q ≡ false → i < 2 → j ≡ place_at q + 4 + i → Dec (q ≡ p) → ⊥
          go2 q i l y k z (yes v) = b p i here held_here k (rw (← v) z)
          go2 q i l y k z (no v) = b q i l (held_still q v y) k z

      go : Dec (j < place_at p) → Dec (j < place_at p + 4) → get_or (sets counted_with (place_at p) (piece_words x)) j 0 ≡ get_or stored j 0
      go (yes y) z = elsewhere (λ i l k. omega arith)
      go (no y) (no z) = elsewhere (λ i l k. omega arith)
      go (no y) (yes z) =
          let k : j ≡ place_at p + (j - place_at p) = omega arith in
          rw k (sets_at (piece_words x) counted_with (place_at p) (j - place_at p) (omega arith) (omega (arith, here, f.room, length_counted true x w places))
          ∙ sym (sets_at (piece_words x) w (place_at p) (j - place_at p) (omega arith) (omega (arith, here, f.room))))

  length_adding : length after_adding ≡ length stored
  length_adding =
      length-set placed (core_at core + 1) (with_part true (core_total placed core) x.length) ∙ length_placed ∙ sym (length-sets w (place_at p) (piece_words x))

  pub added_words : after_adding ≡ put_at w p x
  unfolding put_at
  added_words =
      is_summed stored after_adding g.room (few_cores stored g) length_adding adding_cores adding_held adding_others

  -- ---- what the code has at each of its stores

  pub add_room : (draft_words ≤ length w) × (p < places) × (x.task < 256)
  add_room = (f.room, here, omega (arith, m.task, few_tasks w f))

  pub counted_room : (u : List ℕ) → u ≡ counted_with → draft_words ≤ length u
  counted_room u z = rw (z, length_counted true x w places) f.room

  pub stored_room : (u : List ℕ) → u ≡ sets counted_with (place_at p) (piece_words x) → draft_words ≤ length u
  stored_room u z = rw (z, length-sets counted_with (place_at p) (piece_words x), length_counted true x w places) f.room

  pub is_placed : (u v : List ℕ) (r t : ℕ) → u ≡ sets counted_with (place_at p) (piece_words x) → r ≡ rank w x.task x.job → t ≡ stored_total w x.task x.job
      → v ≡ sets u (place_at p + 4) (r ∷ (t + x.length) ∷ []) → v ≡ placed
  is_placed u v r t z a b k = k ∙ (rw (z, a, b) refl)

  pub core_ready : (u : List ℕ) (c : ℕ) → u ≡ placed → c ≡ core
      → ((draft_words ≤ length u) × (c < 32)) × ((core_total u c + x.length < 2 ^ 32) × ((true ≡ false) → x.length ≤ core_total u c))
  core_ready u c z y =
      rw (z, y) ((rw length_placed f.room, omega (arith, core_is, few_cores w f)), (core_room, λ k. absurd (true≢false k)))

  pub ends_put : (u v : List ℕ) (c : ℕ) → u ≡ placed → c ≡ core → v ≡ set u (core_at c + 1) (with_part true (core_total u c) x.length) → v ≡ put_at w p x
  ends_put u v c z y k = k ∙ (rw (z, y) added_words)
