-- A removal leaves the words that the definition gives, by taking away what one piece gives.
use Prim.Native.Nat.{ℕ, ◌+◌, ◌-◌, ◌^◌, ◌≤◌, ◌<◌}
use mathlib.Core.Path.{◌≡◌, refl, sym, ap, ◌∙◌, subst}
use mathlib.Core.Logic.{◌≢◌}
use mathlib.Core.Bool.{true, false, cond, true≢false}
use mathlib.Core.List.{List}
use native.Mathlib.Decide.{ℕ_discrete}
use native.Mathlib.Omega.{arith}
use lib.ListN.{length, get_or, set, length-set}
use lib.Seq.{get_or-set_same, get_or-set_other}
use lib.Dec.{eqb}
use borrow.Author.Tests.{eq-eqb, ne_eqb}
use Rattle.plan.specs.declared.Piece.{Piece}
use Rattle.drafts.specs.Drafts.{draft_words, places, core_at, place_at, draft_cores, draft_tasks, task_core, core_total, piece_at, rank_at, total_at, is_free, job_sum, core_sum, rank, is_draft}
use Rattle.drafts.specs.Edits.{freed_at, remove_number}
use Rattle.drafts.proofs.Heads.{Formed, r_draft, formed_of, few_cores, few_tasks, core_exists, true_place}
use Rattle.drafts.proofs.Bounds.{short_piece, job_fits, core_fits}
use Rattle.drafts.proofs.Summing.{is_summed}
use Rattle.drafts.proofs.Editing.{emptied_head, emptied_there, emptied_formed}
use Rattle.drafts.proofs.Keeping.{removed}
use Rattle.drafts.proofs.Changing.{OneMore, more_core, one_emptied}
use Rattle.counting.specs.Counting.{with_part, rank_part, total_part, AllCountable}
use Rattle.counting.proofs.Counting.{counted_to, length_counted, counted_other}
use Rattle.edits.proofs.Parts.{small_rank, small_part, short_part, rank_with, total_with, with_less, loop_rank, loop_total}

-- what is left
less : (a b n : ℕ) → a ≡ b + n → a - n ≡ b
less a b n z = omega arith

module _ (w : List ℕ) (p : ℕ) (e : remove_number w p ≡ 0) where
  abbrev x : Piece
  x = piece_at w p

  abbrev emptied : List ℕ
  emptied = set w (place_at p + 3) 0

  d : is_draft w ≡ true
  d = (removed w p e).0

  f : Formed w
  f = formed_of w d

  pub here : p < places
  here = (removed w p e).1

  m : OneMore emptied w p x
  m = one_emptied w p e

  g : Formed emptied
  g = emptied_formed w p f here

  abbrev core : ℕ
  core = task_core w x.task

  task_is : x.task < draft_tasks w
  task_is = subst (λ (n : ℕ). x.task < n) (emptied_head w p).tasks m.task

  pub core_is : core < draft_cores w
  core_is = core_exists w f x.task task_is

  word_other : (j : ℕ) → j ≢ place_at p + 3 → get_or emptied j 0 ≡ get_or w j 0
  word_other j h = get_or-set_other w (place_at p + 3) j 0 0 h

  -- a piece that stays
  module _ (q : ℕ) (l : q < places) (z : is_free emptied q ≡ false) where
    other : q ≢ p
    other y = true≢false (sym m.free ∙ sym (ap (λ (r : ℕ). is_free emptied r) y) ∙ z)

    held_before : is_free w q ≡ false
    unfolding is_free
    held_before = subst (λ (v : Piece). eqb v.length 0 ≡ false) (emptied_there w p q other) z

    rank_before : rank_at emptied q ≡ rank emptied (piece_at emptied q).task (piece_at emptied q).job + rank_part x (piece_at emptied q)
    unfolding rank_at place_at
    rank_before =
        let s = emptied_there w p q other in
        rw s (word_other (place_at q + 4) (λ y. omega arith) ∙ (true_place w d q l held_before).2 ∙ rank_with emptied w p x m (piece_at w q))

    total_before : total_at emptied q ≡ job_sum emptied (piece_at emptied q).task (piece_at emptied q).job + total_part x (piece_at emptied q)
    unfolding total_at place_at
    total_before =
        let s = emptied_there w p q other in
        rw s (word_other (place_at q + 5) (λ y. omega arith) ∙ (true_place w d q l held_before).3 ∙ total_with emptied w p x m (piece_at w q))

  pub remove_countable : AllCountable false x emptied
  remove_countable q l z =
      let y = piece_at emptied q in let a = rank_before q l z in let b = total_before q l z in
      record {
        rank_fits = omega (arith, small_rank emptied y.task y.job, small_part x y);
        total_fits = omega (arith, job_fits emptied g y.task y.job, short_part x y, short_piece w f p here);
        rank_holds = λ _. omega arith;
        total_holds = λ _. omega arith;
      }

  -- the words as they are stored
  abbrev pub counted_without : List ℕ
  counted_without = counted_to false x emptied places

  abbrev pub after_removing : List ℕ
  after_removing = set counted_without (core_at core + 1) (with_part false (core_total counted_without core) x.length)

  front_word : (j : ℕ) → j < 835 → get_or counted_without j 0 ≡ get_or w j 0
  unfolding place_at
  front_word j l = counted_other false x emptied places j (λ q i k y b z. omega arith) ∙ word_other j (λ z. omega arith)

  pub core_held : core_total counted_without core ≡ core_total w core
  unfolding core_total core_at
  core_held = front_word (core_at core + 1) (omega (arith, core_is, few_cores w f))

  core_before : (c : ℕ) → c < draft_cores w → core_total w c ≡ core_sum emptied c + cond (eqb core c) x.length 0
  core_before c l =
      (((r_draft w).0 d).3 c l).1 ∙ more_core emptied w p x m c
      ∙ ap (λ (n : ℕ). core_sum emptied c + cond (eqb n c) x.length 0) ((emptied_head w p).core x.task (omega (arith, task_is, few_tasks w f)))

  own_before : core_total w core ≡ core_sum emptied core + x.length
  own_before = core_before core core_is ∙ (rw (eq-eqb core core refl) refl)

  pub core_less : (core_total counted_without core + x.length < 2 ^ 32) × (x.length ≤ core_total counted_without core)
  core_less = (omega (arith, core_held, own_before, core_fits emptied g core, short_piece w f p here), omega (arith, core_held, own_before))

  removing_other : (j : ℕ) → j ≢ core_at core + 1 → get_or after_removing j 0 ≡ get_or counted_without j 0
  removing_other j h = get_or-set_other counted_without (core_at core + 1) j _ 0 h

  removing_cores : (c : ℕ) → c < draft_cores emptied → core_total after_removing c ≡ core_sum emptied c
  unfolding core_total core_at draft_words
  removing_cores c l = go (ℕ_discrete c core)
    where
      k : c < draft_cores w
      k = subst (λ (n : ℕ). c < n) (emptied_head w p).cores l

      own : get_or after_removing (core_at core + 1) 0 ≡ core_sum emptied core
      own =
          get_or-set_same counted_without (core_at core + 1) _ 0
          (omega (arith, length_counted false x emptied places, length-set w (place_at p + 3) 0, f.room, core_is, few_cores w f))
          ∙ with_less (core_total counted_without core) x.length ∙ less _ _ x.length (core_held ∙ own_before)

      go : Dec (c ≡ core) → get_or after_removing (core_at c + 1) 0 ≡ core_sum emptied c
      go (yes z) = rw z own
      go (no z) =
          removing_other (core_at c + 1) (λ y. omega arith) ∙ front_word (core_at c + 1) (omega (arith, k, few_cores w f))
          ∙ core_before c k ∙ (rw (ne_eqb core c (λ (y : core ≡ c). z (sym y))) (omega arith))

  removing_held : (q : ℕ) → q < places → is_free emptied q ≡ false
      → (rank_at after_removing q ≡ rank emptied (piece_at emptied q).task (piece_at emptied q).job)
      × (total_at after_removing q ≡ job_sum emptied (piece_at emptied q).task (piece_at emptied q).job)
  unfolding rank_at total_at core_at place_at
  removing_held q l z = (
    removing_other (place_at q + 4) (λ y. omega (arith, core_is, few_cores w f)) ∙ loop_rank false x emptied g.room q l z
        ∙ with_less (rank_at emptied q) (rank_part x (piece_at emptied q)) ∙ less _ _ _ (rank_before q l z),
    removing_other (place_at q + 5) (λ y. omega (arith, core_is, few_cores w f)) ∙ loop_total false x emptied g.room q l z
        ∙ with_less (total_at emptied q) (total_part x (piece_at emptied q)) ∙ less _ _ _ (total_before q l z),
  )

  pub removed_words : after_removing ≡ freed_at w p
  unfolding freed_at
  removed_words =
      is_summed emptied after_removing g.room (few_cores emptied g)
      (length-set counted_without (core_at core + 1) (with_part false (core_total counted_without core) x.length) ∙ length_counted false x emptied places)
      removing_cores removing_held
      (λ j a b. removing_other j (a core (subst (λ (n : ℕ). core < n) (sym (emptied_head w p).cores) core_is)) ∙ counted_other false x emptied places j b)

  -- ---- what the code has at each of its stores; y is the piece that it read

  pub remove_room : (draft_words ≤ length w) × (p < places) × (x.task < 256)
  remove_room = (f.room, here, omega (arith, task_is, few_tasks w f))

  pub emptied_ready : (y : Piece) (u : List ℕ) → y ≡ x → u ≡ emptied → (draft_words ≤ length u) × AllCountable false y u
  emptied_ready y u k z = rw (k, z) (g.room, remove_countable)

  pub is_counted : (y : Piece) (u v : List ℕ) → y ≡ x → u ≡ emptied → v ≡ counted_to false y u places → v ≡ counted_without
  is_counted y u v k z a = a ∙ (rw (k, z) refl)

  pub less_ready : (y : Piece) (u : List ℕ) (c : ℕ) → y ≡ x → u ≡ counted_without → c ≡ task_core w y.task
      → ((draft_words ≤ length u) × (c < 32)) × ((core_total u c + y.length < 2 ^ 32) × ((false ≡ false) → y.length ≤ core_total u c))
  less_ready y u c k z a =
      rw (a, k, z) ((rw (length_counted false x emptied places) g.room, omega (arith, core_is, few_cores w f)), (core_less.0, λ b. core_less.1))

  pub ends_freed : (y : Piece) (u v : List ℕ) (c : ℕ) → y ≡ x → u ≡ counted_without → c ≡ task_core w y.task
      → v ≡ set u (core_at c + 1) (with_part false (core_total u c) y.length) → v ≡ freed_at w p
  ends_freed y u v c k z a b = b ∙ (rw (a, k, z) removed_words)
