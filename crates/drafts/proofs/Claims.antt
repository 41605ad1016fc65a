-- The claims of specs/Claim.antt, but for `LaterKept` (Later.antt) and `TotalsFit` (Bounds.antt).
use Prim.Native.Nat.{ℕ, ◌<◌}
use mathlib.Core.Path.{◌≡◌, refl, ◌∙◌, subst}
use mathlib.Core.Logic.{◌≢◌}
use mathlib.Core.Bool.{true, false, ◌&&◌, cond}
use mathlib.Core.List.{List, ◌∷◌, []}
use native.Mathlib.Decide.{ℕ_discrete}
use native.Mathlib.Omega.{arith}
use lib.ListN.{length}
use lib.Dec.{eqb}
use borrow.Author.Tests.{ltb-true, lt-leb}
use Rattle.plan.specs.declared.Piece.{Piece}
use Rattle.plan.specs.declared.Table.TheVariants.{Pieces}
use Rattle.plan.specs.Image.{shape}
use Rattle.plan.specs.Questions.{names, piece_fits, piece_end}
use Rattle.drafts.specs.Drafts.{draft_words, places, draft_cores, job_sum, core_sum, piece_at, is_draft, holds_piece}
use Rattle.drafts.specs.Edits.{leaves, no_piece, piece_of, moved_to, made_piece, make_number, make_words, add_number, add_words, remove_number, remove_words, move_number, move_words, place_number, place_leaves, job_number, job_value, core_number, core_value}
use Rattle.drafts.specs.Claim.{Edit, adds, removes, moves, edit_number, edited, after_edits, meets_five, meets_ten, asked_of, held_after, held_after_all, DraftOf, TotalsKept, RowsArePlaces, SameQuestions, TrueTotals, NoDraft, TooFew, RefusedKeeps}
use Rattle.drafts.proofs.Heads.{Formed, r_draft, formed_of, held_fits}
use Rattle.drafts.proofs.Asking.{asked_no, asked_zero, leaves_new, leaves_old, gives_value, gives_none}
use Rattle.drafts.proofs.Editing.{task_moved, put_draft, freed_draft}
use Rattle.drafts.proofs.Stored.{stored_sum}
use Rattle.drafts.proofs.Making.{shown}
use Rattle.drafts.proofs.Keeping.{Kept, added, removed, moved, kept_add, kept_remove, kept_move, kept_made}
use Rattle.drafts.proofs.Answers.{add_asked, remove_asked, move_asked, place_asked, place_left, job_asked, job_given, core_asked, core_given}

-- ---- a draft made from an image

kept_edit : (s w : List ℕ) (at : ℕ → Piece) (e : Edit) → Kept s w at → Kept s (edited w e) (held_after s at e)
unfolding held_after moved_to piece_of
kept_edit s w at (adds p x) k =
    subst (λ (n : ℕ). Kept s (edited w (adds p x)) (λ q. cond (eqb n 0 && eqb q p) x (at q))) (add_asked s w at k p x) (kept_add s w at k p x)
kept_edit s w at (removes p) k =
    subst (λ (n : ℕ). Kept s (edited w (removes p)) (λ q. cond (eqb n 0 && eqb q p) no_piece (at q))) (remove_asked s w at k p) (kept_remove s w at k p)
kept_edit s w at (moves p start) k =
    subst (λ (n : ℕ). Kept s (edited w (moves p start)) (λ q. cond (eqb n 0 && eqb q p) (moved_to (at q) start) (at q))) (move_asked s w at k p start) (kept_move s w at k p start)

kept_edits : (s w : List ℕ) (at : ℕ → Piece) (es : List Edit) → Kept s w at → Kept s (after_edits w es) (held_after_all s at es)
unfolding after_edits held_after_all
kept_edits s w at [] k = k
kept_edits s w at (e ∷ es) k = kept_edits s (edited w e) (held_after s at e) es (kept_edit s w at e k)

edit_asked : (s w : List ℕ) (at : ℕ → Piece) → Kept s w at → (e : Edit) → edit_number w e ≡ asked_of s at e
unfolding edit_number
edit_asked s w at k (adds p x) = add_asked s w at k p x
edit_asked s w at k (removes p) = remove_asked s w at k p
edit_asked s w at k (moves p start) = move_asked s w at k p start

draft_of : (s w : List ℕ) (at : ℕ → Piece) → Kept s w at → DraftOf s w at
draft_of s w at k =
    record {
      draft = k.draft;
      edit = edit_asked s w at k;
      place = λ p lent. (place_asked s w at k p lent, place_left s w at k p lent);
      job = λ t j. (job_asked s w at k t j, job_given s w at k t j);
      core = λ c. (core_asked s w at k c, core_given s w at k c);
    }

pub totals_kept : TotalsKept
totals_kept s w es e = draft_of s _ _ (kept_edits s (make_words s w) (made_piece s) es (kept_made s w e))

pub rows_are_places : RowsArePlaces
unfolding shape places
rows_are_places s w e = (shown s w e).sound.inside.counts Pieces

pub same_questions : SameQuestions
unfolding meets_five meets_ten names piece_fits piece_end
same_questions s i = (refl, refl)

-- ---- any words

module _ (w : List ℕ) (d : is_draft w ≡ true) where
  f : Formed w
  f = formed_of w d

  -- an edit leaves a draft: a new one, or the old one
  left : (n : ℕ) (new : List ℕ) → (n ≡ 0 → is_draft new ≡ true) → is_draft (leaves n new w) ≡ true
  left n new h = go (ℕ_discrete n 0)
    where
      go : Dec (n ≡ 0) → is_draft (leaves n new w) ≡ true
      go (yes e) = rw (leaves_new n new w e) (h e)
      go (no e) = rw (leaves_old n new w e) d

  still_draft : (e : Edit) → is_draft (edited w e) ≡ true
  unfolding edited add_words remove_words move_words
  still_draft (adds p x) = left _ _ (λ e. let a = added w p x e in put_draft w p x f a.3 a.1 a.2)
  still_draft (removes p) = left _ _ (λ e. freed_draft w p f (removed w p e).1)
  still_draft (moves p start) =
      left _ _ (λ e. let a = moved w p start e in
      put_draft w p (moved_to (piece_at w p) start) f a.0.1 (task_moved w (piece_at w p) start (held_fits w f p a.0.1 a.0.2).0) a.1)

  core_there : (c : ℕ) → core_number w c ≡ 0 → c < draft_cores w
  unfolding core_number
  core_there c e = ltb-true c (draft_cores w) (asked_zero 5 _ [] (omega arith) (asked_zero 33 _ _ (omega arith) e).1).0

  job_true : (t k : ℕ) → job_number w t k ≡ 0 → job_value w t k ≡ job_sum w t k
  unfolding job_value
  job_true t k e = gives_value _ _ e ∙ stored_sum w d t k

  core_true : (c : ℕ) → core_number w c ≡ 0 → core_value w c ≡ core_sum w c
  unfolding core_value
  core_true c e = gives_value _ _ e ∙ (((r_draft w).0 d).3 c (core_there c e)).1

pub true_totals : TrueTotals
true_totals w d = (job_true w d, core_true w d, still_draft w d)

module _ (w : List ℕ) (e : is_draft w ≡ false) where
  neither : (p : ℕ) → is_draft w && holds_piece w p ≡ false
  neither p = rw e refl

  edit_33 : (x : Edit) → edit_number w x ≡ 33
  unfolding edit_number add_number remove_number move_number
  edit_33 (adds p x) = asked_no 33 _ _ e
  edit_33 (removes p) = asked_no 33 _ [] (neither p)
  edit_33 (moves p start) = asked_no 33 _ _ (neither p)

  place_33 : (p : ℕ) (lent : List ℕ) → place_number w p lent ≡ 33
  unfolding place_number
  place_33 p lent = asked_no 33 _ _ (neither p)

  job_33 : (t k : ℕ) → job_number w t k ≡ 33
  unfolding job_number
  job_33 t k = asked_no 33 _ _ e

  core_33 : (c : ℕ) → core_number w c ≡ 33
  unfolding core_number
  core_33 c = asked_no 33 _ _ e

pub no_draft : NoDraft
no_draft w e = (edit_33 w e, place_33 w e, job_33 w e, core_33 w e)

pub too_few : TooFew
unfolding is_draft
too_few w l = rw (lt-leb draft_words (length w) l) refl

-- a refused call
some : (n : ℕ) → 0 < n → n ≢ 0
some n l e = omega arith

module _ (w : List ℕ) where
  edit_kept : (e : Edit) → 0 < edit_number w e → edited w e ≡ w
  unfolding edit_number edited add_words remove_words move_words
  edit_kept (adds p x) l = leaves_old _ _ w (some _ l)
  edit_kept (removes p) l = leaves_old _ _ w (some _ l)
  edit_kept (moves p start) l = leaves_old _ _ w (some _ l)

  made_kept : (s : List ℕ) → 0 < make_number s w → make_words s w ≡ w
  unfolding make_words
  made_kept s l = leaves_old _ _ w (some _ l)

  place_kept : (p : ℕ) (lent : List ℕ) → 0 < place_number w p lent → place_leaves w p lent ≡ lent
  unfolding place_leaves
  place_kept p lent l = leaves_old _ _ lent (some _ l)

  job_none : (t k : ℕ) → 0 < job_number w t k → job_value w t k ≡ 0
  unfolding job_value
  job_none t k l = gives_none _ _ (some _ l)

  core_none : (c : ℕ) → 0 < core_number w c → core_value w c ≡ 0
  unfolding core_value
  core_none c l = gives_none _ _ (some _ l)

pub refused_keeps : RefusedKeeps
refused_keeps w = (made_kept w, edit_kept w, place_kept w, job_none w, core_none w)
