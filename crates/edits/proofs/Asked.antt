-- What an addition and a removal answer, question by question, and what they leave.
use Prim.Native.Nat.{ℕ, suc, ◌≤◌, ◌<◌}
use mathlib.Core.Path.{◌≡◌, sym, ◌∙◌}
use mathlib.Core.Bool.{true, false, ◌&&◌}
use mathlib.Core.List.{List, []}
use lib.ListN.{length}
use lib.Dec.{ltb}
use borrow.Author.Tests.{ltb-true}
use Rattle.plan.specs.declared.Piece.{Piece}
use Rattle.drafts.specs.Drafts.{draft_words, places, draft_tasks, is_free, has_task, fits_job, is_draft, holds_piece}
use Rattle.drafts.specs.Edits.{add_number, add_words, put_at, remove_number, remove_words, freed_at}
use Rattle.drafts.proofs.Heads.{r_draft}
use Rattle.drafts.proofs.Asking.{asked_none, asked_yes, asked_no, leaves_new, leaves_old, not_zero}

pub draft_room : (w : List ℕ) → is_draft w ≡ true → draft_words ≤ length w
draft_room w e = ((r_draft w).0 e).0

pub task_there : (w : List ℕ) (x : Piece) → has_task w x ≡ true → x.task < draft_tasks w
unfolding has_task
task_there w x e = ltb-true _ _ e

module _ (w : List ℕ) (p : ℕ) (x : Piece) where
  refused : (n : ℕ) → add_number w p x ≡ suc n → (suc n ≡ add_number w p x) × (w ≡ add_words w p x)
  unfolding add_words
  refused n e = (sym e, sym (leaves_old _ _ w (not_zero e)))

  pub add_33 : is_draft w ≡ false → (33 ≡ add_number w p x) × (w ≡ add_words w p x)
  unfolding add_number
  add_33 e = refused 32 (asked_no 33 _ _ e)

  module _ (d : is_draft w ≡ true) where
    pub add_5 : has_task w x ≡ false → (5 ≡ add_number w p x) × (w ≡ add_words w p x)
    unfolding add_number
    add_5 e = refused 4 (asked_yes 33 _ _ d ∙ asked_no 5 _ _ e)

    module _ (t : has_task w x ≡ true) where
      pub add_10 : fits_job w x ≡ false → (10 ≡ add_number w p x) × (w ≡ add_words w p x)
      unfolding add_number
      add_10 e = refused 9 (asked_yes 33 _ _ d ∙ asked_yes 5 _ _ t ∙ asked_no 10 _ _ e)

      module _ (j : fits_job w x ≡ true) where
        pub add_34 : ltb p places && is_free w p ≡ false → (34 ≡ add_number w p x) × (w ≡ add_words w p x)
        unfolding add_number
        add_34 e = refused 33 (asked_yes 33 _ _ d ∙ asked_yes 5 _ _ t ∙ asked_yes 10 _ _ j ∙ asked_no 34 _ [] e)

        pub add_asked : ltb p places && is_free w p ≡ true → add_number w p x ≡ 0
        unfolding add_number
        add_asked e = asked_yes 33 _ _ d ∙ asked_yes 5 _ _ t ∙ asked_yes 10 _ _ j ∙ asked_yes 34 _ [] e ∙ asked_none

        pub add_0 : (v : List ℕ) → ltb p places && is_free w p ≡ true → v ≡ put_at w p x → (0 ≡ add_number w p x) × (v ≡ add_words w p x)
        unfolding add_words
        add_0 v e k = let n = add_asked e in (sym n, k ∙ sym (leaves_new _ _ w n))

module _ (w : List ℕ) (p : ℕ) where
  pub remove_33 : is_draft w && holds_piece w p ≡ false → (33 ≡ remove_number w p) × (w ≡ remove_words w p)
  unfolding remove_number remove_words
  remove_33 e = let n = asked_no 33 _ [] e in (sym n, sym (leaves_old _ _ w (not_zero n)))

  pub remove_asked : is_draft w && holds_piece w p ≡ true → remove_number w p ≡ 0
  unfolding remove_number
  remove_asked e = asked_yes 33 _ [] e ∙ asked_none

  pub remove_0 : (v : List ℕ) → is_draft w && holds_piece w p ≡ true → v ≡ freed_at w p → (0 ≡ remove_number w p) × (v ≡ remove_words w p)
  unfolding remove_words
  remove_0 v e k = let n = remove_asked e in (sym n, k ∙ sym (leaves_new _ _ w n))
