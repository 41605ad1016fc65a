-- What a reading answers, question by question.
use Prim.Native.Nat.{ℕ, suc, ◌/◌, ◌≤◌, ◌<◌}
use mathlib.Core.Path.{◌≡◌, refl, sym, ◌∙◌}
use mathlib.Core.Bool.{Bool, true, false, not, ◌&&◌}
use mathlib.Core.List.{List, []}
use lib.ListN.{length}
use lib.Seq.{sets}
use borrow.Author.Tests.{lt-ltb, le-ltb, lt-leb, le-leb}
use Rattle.drafts.specs.Drafts.{draft_words, places, draft_cycle, draft_cores, draft_tasks, task_period, task_jobs, core_total, piece_at, is_free, is_draft, holds_piece}
use Rattle.draftwords.specs.Heads.{Headed}
use Rattle.drafts.specs.Edits.{piece_words, core_number, core_value, job_number, job_value, stored_total, place_number, place_leaves}
use Rattle.drafts.proofs.Heads.{r_draft}
use Rattle.drafts.proofs.Asking.{asked_none, asked_yes, asked_no, leaves_new, leaves_old, gives_value, gives_none, not_zero}
use Rattle.drafts.proofs.Keeping.{held}

module _ (w : List ℕ) where
  pub headed_of : is_draft w ≡ true → Headed w
  headed_of e = let d = (r_draft w).0 e in record { room = d.0; head = d.1; tasks = d.2 }

  -- a core's total
  module _ (c : ℕ) where
    core_by : (n : ℕ) → core_number w c ≡ suc n → (suc n ≡ core_number w c) × (0 ≡ core_value w c)
    unfolding core_value
    core_by n e = (sym e, sym (gives_none _ _ (not_zero e)))

    pub core_33 : is_draft w ≡ false → (33 ≡ core_number w c) × (0 ≡ core_value w c)
    unfolding core_number
    core_33 e = core_by 32 (asked_no 33 _ _ e)

    module _ (d : is_draft w ≡ true) where
      pub core_5 : draft_cores w ≤ c → (5 ≡ core_number w c) × (0 ≡ core_value w c)
      unfolding core_number
      core_5 l = core_by 4 (asked_yes 33 _ _ d ∙ asked_no 5 _ _ (le-ltb c (draft_cores w) l))

      pub core_0 : c < draft_cores w → (0 ≡ core_number w c) × (core_total w c ≡ core_value w c)
      unfolding core_number core_value
      core_0 l = let e = asked_yes 33 _ _ d ∙ asked_yes 5 _ [] (lt-ltb c (draft_cores w) l) ∙ asked_none in (sym e, sym (gives_value _ _ e))

  pub jobs_is : (t x y : ℕ) → x ≡ draft_cycle w → y ≡ task_period w t → x / y ≡ task_jobs w t
  unfolding task_jobs
  jobs_is t x y a b = rw (a, b) refl

  -- a job's total
  module _ (t j : ℕ) where
    job_by : (n : ℕ) → job_number w t j ≡ suc n → (suc n ≡ job_number w t j) × (0 ≡ job_value w t j)
    unfolding job_value
    job_by n e = (sym e, sym (gives_none _ _ (not_zero e)))

    pub job_33 : is_draft w ≡ false → (33 ≡ job_number w t j) × (0 ≡ job_value w t j)
    unfolding job_number
    job_33 e = job_by 32 (asked_no 33 _ _ e)

    module _ (d : is_draft w ≡ true) where
      pub job_5 : draft_tasks w ≤ t → (5 ≡ job_number w t j) × (0 ≡ job_value w t j)
      unfolding job_number
      job_5 l = job_by 4 (asked_yes 33 _ _ d ∙ asked_no 5 _ _ (le-ltb t (draft_tasks w) l))

      pub job_10 : t < draft_tasks w → task_jobs w t ≤ j → (10 ≡ job_number w t j) × (0 ≡ job_value w t j)
      unfolding job_number
      job_10 l m = job_by 9 (asked_yes 33 _ _ d ∙ asked_yes 5 _ _ (lt-ltb t (draft_tasks w) l) ∙ asked_no 10 _ _ (le-ltb j (task_jobs w t) m))

      pub job_0 : t < draft_tasks w → j < task_jobs w t → (0 ≡ job_number w t j) × (stored_total w t j ≡ job_value w t j)
      unfolding job_number job_value
      job_0 l m =
          let e = asked_yes 33 _ _ d ∙ asked_yes 5 _ _ (lt-ltb t (draft_tasks w) l) ∙ asked_yes 10 _ [] (lt-ltb j (task_jobs w t) m) ∙ asked_none in
          (sym e, sym (gives_value _ _ e))

  -- a place
  module _ (p : ℕ) where
    module _ (piece : List ℕ) where
      refused : (n : ℕ) → place_number w p piece ≡ suc n → (suc n ≡ place_number w p piece) × (piece ≡ place_leaves w p piece)
      unfolding place_leaves
      refused n e = (sym e, sym (leaves_old _ _ piece (not_zero e)))

      pub place_33 : is_draft w && holds_piece w p ≡ false → (33 ≡ place_number w p piece) × (piece ≡ place_leaves w p piece)
      unfolding place_number
      place_33 e = refused 32 (asked_no 33 _ _ e)

      module _ (e : is_draft w && holds_piece w p ≡ true) where
        pub place_34 : length piece < 4 → (34 ≡ place_number w p piece) × (piece ≡ place_leaves w p piece)
        unfolding place_number
        place_34 l = refused 33 (asked_yes 33 _ _ e ∙ asked_no 34 _ [] (lt-leb 4 (length piece) l))

        pub place_0 : 4 ≤ length piece → (0 ≡ place_number w p piece) × (sets piece 0 (piece_words (piece_at w p)) ≡ place_leaves w p piece)
        unfolding place_number place_leaves
        place_0 l =
            let n = asked_yes 33 _ _ e ∙ asked_yes 34 _ [] (le-leb 4 (length piece) l) ∙ asked_none in
            (sym n, sym (leaves_new _ _ piece n))

    pub held_place : is_draft w && holds_piece w p ≡ true → (draft_words ≤ length w) × (p < places)
    held_place e = let a = held w p e in (((r_draft w).0 a.0).0, a.1)

    no_and : (b : Bool) → b && false ≡ false
    no_and true = refl
    no_and false = refl

    pub holds_far : 2048 ≤ p → false ≡ is_draft w && holds_piece w p
    unfolding holds_piece places
    holds_far l = rw (le-ltb p 2048 l) (sym (no_and (is_draft w)))

    pub holds_here : is_draft w ≡ true → p < 2048 → not (is_free w p) ≡ is_draft w && holds_piece w p
    unfolding holds_piece places
    holds_here d l = rw (d, lt-ltb p 2048 l) refl
