-- What making answers and leaves; and that an image's pieces stand in its draft in the order of their jobs.
use Prim.Native.Nat.{ℕ, suc, ◌+◌, ◌*◌, ◌≤◌, ◌<◌}
use mathlib.Core.Path.{◌≡◌, refl, sym, ap, ◌∙◌, subst}
use mathlib.Core.Logic.{◌≢◌, ◌⊎◌, inl, inr}
use mathlib.Core.Bool.{Bool, true, false, ◌&&◌, ◌||◌, true≢false}
use mathlib.Core.List.{List, ◌∷◌, ◌++◌, [], append_assoc}
use native.Mathlib.Nat.{mul-le-mul_right, suc-mul}
use native.Mathlib.Decide.{dec_lt}
use native.Mathlib.Omega.{arith}
use lib.ListN.{length, take}
use lib.Dec.{leb}
use borrow.Author.Tests.{lt-leb, le-leb, lt-ltb, le-ltb}
use Rattle.plan.specs.declared.Answer.{Answer}
use Rattle.plan.specs.declared.Table.TheVariants.{Pieces}
use Rattle.plan.specs.Image.{rows, piece}
use Rattle.plan.specs.Questions.{Question, whole, image_questions, row_questions, piece_questions, answer_to}
use Rattle.plan.specs.Held.{Sound}
use Rattle.plan.proofs.Asking.{Real, then_asked, stopped_first}
use Rattle.plan.proofs.Numbers.{real_image, real_rows}
use Rattle.plan.proofs.Orders.{pieces_rise}
use Rattle.plan.proofs.Searching.{yes_all}
use Rattle.drafts.specs.Drafts.{draft_words, places, task_period, task_deadline, piece_at, is_free, has_task, fits_job}
use Rattle.drafts.specs.Edits.{number_of, no_piece, made_piece, copied, summed, make_number, make_words}
use Rattle.drafts.proofs.Heads.{Formed, Fits, r_fits, task_exists, held_fits}
use Rattle.drafts.proofs.Asking.{asked_none, asked_yes, asked_no, leaves_new, leaves_old}
use Rattle.drafts.proofs.Making.{Shown, shown, real_append, real_four, copied_piece, copied_formed}
use Rattle.draftwords.specs.Heads.{Headed, place_fits}
use Rattle.draftwords.proofs.Headed.{deadline_period}
use Rattle.ranking.specs.Ranking.{Rising, Ready}

-- ---- the questions

module _ (s : List ℕ) where
  abbrev pub early : List Question
  early = image_questions s ++ (row_questions s ++ take 4 (piece_questions s))

  number_of_holds : {a b : Answer} → a ≡ b → a.number ≡ b.number
  number_of_holds e = ap (λ (x : Answer). x.number) e

  real_early : Real early
  real_early = real_append (image_questions s) _ (real_image s) (real_append (row_questions s) _ (real_rows s) (real_four s))

  module _ (w : List ℕ) where
    abbrev room : Bool
    room = leb draft_words (length w)

    asked_all : make_number s w ≡ (answer_to (early ++ whole 34 room ∷ [])).number
    unfolding make_number number_of
    asked_all =
        number_of_holds
        (ap (λ (qs : List Question). answer_to (qs ++ whole 34 room ∷ [])) (append_assoc (image_questions s) (row_questions s) (take 4 (piece_questions s))))

    refused : (n : ℕ) → make_number s w ≡ n → n ≢ 0 → (n ≡ make_number s w) × (w ≡ make_words s w)
    unfolding make_words
    refused n e h = (sym e, sym (leaves_old _ _ w (λ z. h (sym e ∙ z))))

    pub make_early : (n : ℕ) → n ≡ (answer_to early).number → n ≢ 0 → (n ≡ make_number s w) × (w ≡ make_words s w)
    make_early n e h = refused n (asked_all ∙ number_of_holds (stopped_first early _ (λ z. h (e ∙ z))) ∙ sym e) h

    module _ (p : (answer_to early).number ≡ 0) where
      past_early : make_number s w ≡ number_of (whole 34 room ∷ [])
      unfolding number_of
      past_early = asked_all ∙ number_of_holds (then_asked early _ real_early p)

      pub make_34 : length w < draft_words → (34 ≡ make_number s w) × (w ≡ make_words s w)
      make_34 l = refused 34 (past_early ∙ asked_no 34 room [] (lt-leb draft_words (length w) l)) (λ z. omega arith)

      pub make_asked : draft_words ≤ length w → make_number s w ≡ 0
      make_asked l = past_early ∙ asked_yes 34 room [] (le-leb draft_words (length w) l) ∙ asked_none

      pub make_0 : (v : List ℕ) → draft_words ≤ length w → v ≡ summed (copied s w) → (0 ≡ make_number s w) × (v ≡ make_words s w)
      unfolding make_words
      make_0 v l e = let n = make_asked l in (sym n, e ∙ sym (leaves_new _ _ w n))

-- ---- the pieces of a copied image

module _ (s w : List ℕ) (g : Shown s w) where
  abbrev made : List ℕ
  made = copied s w

  f : Formed made
  f = copied_formed s w g

  headed : Headed made
  headed = record { room = f.room; head = f.head; tasks = f.tasks }

  fitting : (p : ℕ) → p < places → place_fits made p ≡ true
  unfolding place_fits
  fitting p l = go (f.pieces p l)
    where
      go : (is_free made p ≡ true) ⊎ Fits made p → is_free made p || (has_task made (piece_at made p) && fits_job made (piece_at made p)) ≡ true
      go (inl e) = rw e refl
      go (inr e) = rw (e.0, e.1) (yes_or (is_free made p))
        where
          yes_or : (b : Bool) → b || true ≡ true
          yes_or true = refl
          yes_or false = refl

  -- a place that holds a piece is a row
  is_row : (p : ℕ) → p < places → is_free made p ≡ false → (p < rows s Pieces) × (piece_at made p ≡ piece s p)
  unfolding is_free made_piece no_piece
  is_row p l e = go (dec_lt p (rows s Pieces))
    where
      go : Dec (p < rows s Pieces) → (p < rows s Pieces) × (piece_at made p ≡ piece s p)
      go (yes d) = (d, copied_piece s w g p l ∙ (rw (lt-ltb p (rows s Pieces) d) refl))
      go (no d) =
          absurd (true≢false (sym (rw (copied_piece s w g p l, le-ltb p (rows s Pieces) (omega arith)) refl) ∙ e))

  -- a job that begins before another of its task ends is no higher
  lower : (T a b x y n d : ℕ) → a * T ≤ x → x ≤ y → y + n ≤ b * T + d → 0 < n → d ≤ T → a ≤ b
  lower T a b x y n d h i j k m = go (dec_lt b a)
    where
      go : Dec (b < a) → a ≤ b
      go (no z) = omega arith
      go (yes z) = absurd (let c : suc b * T ≤ a * T = mul-le-mul_right T z in omega (arith, c, suc-mul b T))

  rising : Rising made
  rising p q l m a b t =
      let x = piece_at made p in let y = piece_at made q in
      let i = is_row p (omega arith) a in let j = is_row q m b in
      let c = (r_fits made x).0 (held_fits made f p (omega arith) a).1 in let d = (r_fits made y).0 (held_fits made f q m b).1 in
      let r : x.start ≤ y.start = rw (i.1, j.1) (pieces_rise s g.sound p q (omega arith) j.0) in
      let u = task_exists made q (held_fits made f q m b) in
      lower (task_period made y.task) x.job y.job x.start y.start y.length (task_deadline made y.task)
      (subst (λ (n : ℕ). x.job * task_period made n ≤ x.start) t c.2) r d.3 (omega (arith, d.1)) (deadline_period made headed y.task u)

  pub ready : Ready made
  ready = record { headed = headed; fits = yes_all (place_fits made) places fitting; rising = rising }

-- what copying and summing up are asked
module _ (s w : List ℕ) (p : (answer_to (early s)).number ≡ 0) (l : draft_words ≤ length w) where
  pub sound_here : Sound s
  sound_here = (shown s w (make_asked s w p l)).sound

  pub ready_here : (u : List ℕ) → u ≡ copied s w → Ready u
  ready_here u e = rw e (ready s w (shown s w (make_asked s w p l)))

-- enough words, or too few
pub room_here : (w : List ℕ) → 32768 ≤ length w → draft_words ≤ length w
unfolding draft_words
room_here w l = l

pub short_here : (w : List ℕ) → length w < 32768 → length w < draft_words
unfolding draft_words
short_here w l = l
