-- What every call gives on words that are a draft of an image: the numbers and values that the image's rows and the pieces say.
use Prim.Native.Nat.{ℕ, ◌<◌}
use mathlib.Core.Path.{◌≡◌, refl, sym, ap, ◌∙◌, subst}
use mathlib.Core.Logic.{◌≢◌}
use mathlib.Core.Bool.{Bool, true, false, not, ◌&&◌, cond}
use mathlib.Core.List.{List, ◌∷◌, []}
use native.Mathlib.Decide.{ℕ_discrete, dec_lt}
use native.Mathlib.Omega.{arith}
use lib.ListN.{length}
use lib.Seq.{sets}
use lib.Dec.{ltb, leb, eqb}
use borrow.Author.Tests.{ltb-true, lt-ltb, le-ltb, eq-eqb, ne_eqb}
use Rattle.plan.specs.declared.Piece.{Piece}
use Rattle.plan.specs.declared.Table.TheVariants.{Cores, Tasks}
use Rattle.plan.specs.Search.{sum}
use Rattle.plan.specs.Image.{rows}
use Rattle.plan.specs.Questions.{Question, whole, core_of, jobs}
use Rattle.plan.proofs.Searching.{and_true}
use Rattle.drafts.specs.Drafts.{places, is_of, draft_cores, task_core, core_total, piece_at, is_free, job_sum, core_sum, is_draft, holds_piece}
use Rattle.drafts.specs.Edits.{number_of, leaves, gives, piece_words, piece_of, moved_to, add_number, remove_number, move_number, place_number, place_leaves, job_number, job_value, core_number, core_value}
use Rattle.drafts.specs.Claim.{meets_ten, is_held, asked_of, adds, removes, moves}
use Rattle.drafts.proofs.Heads.{r_draft, task_exists, sum_same, cond_none, formed_of, held_fits}
use Rattle.drafts.proofs.Asking.{asked_yes, asked_no, leaves_old, gives_none, not_zero}
use Rattle.drafts.proofs.Editing.{task_moved}
use Rattle.drafts.proofs.Stored.{stored_sum}
use Rattle.drafts.proofs.Making.{five_of, ten_of, jobs_of}
use Rattle.drafts.proofs.Keeping.{Kept, there_is}

-- a length that is not 0
some_ticks : (n : ℕ) → not (eqb n 0) ≡ ltb 0 n
some_ticks n = go (ℕ_discrete n 0)
  where
    go : Dec (n ≡ 0) → not (eqb n 0) ≡ ltb 0 n
    go (yes e) = rw (eq-eqb n 0 e, le-ltb 0 n (omega arith)) refl
    go (no e) = rw (ne_eqb n 0 e, lt-ltb 0 n (omega arith)) refl

-- questions that say the same, the second asked where the first says yes
pub asked_same : (q : ℕ) (a b : Bool) (qs rs : List Question) → a ≡ b → (b ≡ true → number_of qs ≡ number_of rs) → number_of (whole q a ∷ qs) ≡ number_of (whole q b ∷ rs)
asked_same q a true qs rs e h = asked_yes q a qs e ∙ h refl ∙ sym (asked_yes q true rs refl)
asked_same q a false qs rs e h = asked_no q a qs e ∙ sym (asked_no q false rs refl)

module _ (s w : List ℕ) (at : ℕ → Piece) (k : Kept s w at) where
  free_same : (p : ℕ) → p < places → is_free w p ≡ eqb (at p).length 0
  unfolding is_free
  free_same p l = ap (λ (n : ℕ). eqb n 0) (k.agree p l).long

  -- 34 of an addition
  open_same : (p : ℕ) → ltb p places && is_free w p ≡ ltb p places && eqb (at p).length 0
  open_same p = go (dec_lt p places)
    where
      go : Dec (p < places) → ltb p places && is_free w p ≡ ltb p places && eqb (at p).length 0
      go (yes l) = rw (free_same p l) refl
      go (no l) = rw (le-ltb p places (omega arith)) refl

  -- is there a piece at a place?
  held_same : (p : ℕ) → is_draft w && holds_piece w p ≡ is_held at p
  unfolding holds_piece is_held
  held_same p = rw k.draft (go (dec_lt p places))
    where
      go : Dec (p < places) → ltb p places && not (is_free w p) ≡ ltb p places && ltb 0 (at p).length
      go (yes l) = rw (free_same p l, some_ticks (at p).length) refl
      go (no l) = rw (le-ltb p places (omega arith)) refl

  held_there : (p : ℕ) → is_held at p ≡ true → (p < places) × (is_free w p ≡ false)
  unfolding is_held
  held_there p e =
      let a = and_true (ltb p places) (ltb 0 (at p).length) e in let l : p < places = ltb-true p places a.0 in
      let b : 0 < (at p).length = ltb-true 0 (at p).length a.1 in
      (l, free_same p l ∙ ne_eqb (at p).length 0 (λ (z : (at p).length ≡ 0). omega arith))

  -- ---- edits

  pub add_asked : (p : ℕ) (x : Piece) → add_number w p x ≡ asked_of s at (adds p x)
  unfolding add_number asked_of
  add_asked p x =
      asked_yes 33 _ _ k.draft
      ∙ asked_same 5 _ _ _ _ (five_of s w k.head x)
      (λ e. asked_same 10 _ _ _ _ (ten_of s w k.head k.sound x e) (λ _. asked_same 34 _ _ [] [] (open_same p) (λ _. refl)))

  pub remove_asked : (p : ℕ) → remove_number w p ≡ asked_of s at (removes p)
  unfolding remove_number asked_of
  remove_asked p = asked_same 33 _ _ [] [] (held_same p) (λ _. refl)

  same_moved : (x y : Piece) (start : ℕ) → x ≡ y → moved_to x start ≡ piece_of y.task y.job start y.length
  unfolding moved_to piece_of
  same_moved x y start e = rw e refl

  pub move_asked : (p start : ℕ) → move_number w p start ≡ asked_of s at (moves p start)
  unfolding move_number asked_of
  move_asked p start =
      asked_same 33 _ _ _ _ (held_same p)
      (λ e. let h = held_there p e in let t = task_moved w (piece_at w p) start (held_fits w (formed_of w k.draft) p h.0 h.1).0 in
      asked_same 10 _ _ [] []
      (ten_of s w k.head k.sound (moved_to (piece_at w p) start) (sym (five_of s w k.head (moved_to (piece_at w p) start)) ∙ t)
      ∙ ap (meets_ten s) (same_moved (piece_at w p) (at p) start (there_is s w at k p h.0 h.1)))
      (λ _. refl))

  -- ---- readings

  pub place_asked : (p : ℕ) (lent : List ℕ) → place_number w p lent ≡ number_of (whole 33 (is_held at p) ∷ whole 34 (leb 4 (length lent)) ∷ [])
  unfolding place_number
  place_asked p lent = asked_same 33 _ _ _ _ (held_same p) (λ _. refl)

  pub place_left : (p : ℕ) (lent : List ℕ) → place_leaves w p lent ≡ leaves (place_number w p lent) (sets lent 0 (piece_words (at p))) lent
  unfolding place_leaves
  place_left p lent = go (ℕ_discrete (place_number w p lent) 0) (is_held at p) refl
    where
      go : Dec (place_number w p lent ≡ 0) → (b : Bool) → is_held at p ≡ b
          → leaves (place_number w p lent) (sets lent 0 (piece_words (piece_at w p))) lent ≡ leaves (place_number w p lent) (sets lent 0 (piece_words (at p))) lent
      go (no e) b h = leaves_old _ _ lent e ∙ sym (leaves_old _ _ lent e)
      go (yes e) true h = let l = held_there p h in ap (λ (x : Piece). leaves (place_number w p lent) (sets lent 0 (piece_words x)) lent) (there_is s w at k p l.0 l.1)
      go (yes e) false h = absurd (let z : place_number w p lent ≡ 33 = place_asked p lent ∙ asked_no 33 _ _ h in omega arith)

  -- the sums over the pieces of the words are those over the pieces meant
  job_sums : (t j : ℕ) → job_sum w t j ≡ sum places (λ p. cond (eqb (at p).task t && eqb (at p).job j) (at p).length 0)
  unfolding job_sum is_of
  job_sums t j = sum_same _ _ places (λ p l. go p l (ℕ_discrete (at p).length 0))
    where
      go : (p : ℕ) → p < places → Dec ((at p).length ≡ 0)
          → cond (eqb (piece_at w p).task t && eqb (piece_at w p).job j) (piece_at w p).length 0 ≡ cond (eqb (at p).task t && eqb (at p).job j) (at p).length 0
      go p l (yes e) =
          cond_none (eqb (piece_at w p).task t && eqb (piece_at w p).job j) _ ((k.agree p l).long ∙ e) ∙ sym (cond_none (eqb (at p).task t && eqb (at p).job j) _ e)
      go p l (no e) = rw ((k.agree p l).same (omega arith)) refl

  core_sums : (c : ℕ) → core_sum w c ≡ sum places (λ p. cond (eqb (core_of s (at p).task) c) (at p).length 0)
  unfolding core_sum
  core_sums c = sum_same _ _ places (λ p l. go p l (ℕ_discrete (at p).length 0))
    where
      held : (p : ℕ) → p < places → (at p).length ≢ 0 → is_free w p ≡ false
      held p l e = free_same p l ∙ ne_eqb (at p).length 0 e

      go : (p : ℕ) → p < places → Dec ((at p).length ≡ 0)
          → cond (eqb (task_core w (piece_at w p).task) c) (piece_at w p).length 0 ≡ cond (eqb (core_of s (at p).task) c) (at p).length 0
      go p l (yes e) = cond_none (eqb (task_core w (piece_at w p).task) c) _ ((k.agree p l).long ∙ e) ∙ sym (cond_none (eqb (core_of s (at p).task) c) _ e)
      go p l (no e) =
          let q = (k.agree p l).same (omega arith) in
          let m = task_exists w p (held_fits w (formed_of w k.draft) p l (held p l e)) in
          let n : (at p).task < rows s Tasks = subst (λ (x : ℕ). x < rows s Tasks) (ap (λ (z : Piece). z.task) q) (omega (arith, k.head.tasks)) in
          rw (q, k.head.core_of_holds (at p).task n) refl

  pub job_asked : (t j : ℕ) → job_number w t j ≡ number_of (whole 5 (ltb t (rows s Tasks)) ∷ whole 10 (ltb j (jobs s t)) ∷ [])
  unfolding job_number
  job_asked t j =
      asked_yes 33 _ _ k.draft
      ∙ asked_same 5 _ _ _ _ (ap (ltb t) k.head.tasks)
      (λ e. asked_same 10 _ _ [] [] (ap (ltb j) (jobs_of s w k.head t (ltb-true t (rows s Tasks) e))) (λ _. refl))

  pub job_given : (t j : ℕ) → job_value w t j ≡ gives (job_number w t j) (sum places (λ p. cond (eqb (at p).task t && eqb (at p).job j) (at p).length 0))
  unfolding job_value
  job_given t j = ap (gives (job_number w t j)) (stored_sum w k.draft t j ∙ job_sums t j)

  pub core_asked : (c : ℕ) → core_number w c ≡ number_of (whole 5 (ltb c (rows s Cores)) ∷ [])
  unfolding core_number
  core_asked c = asked_yes 33 _ _ k.draft ∙ asked_same 5 _ _ [] [] (ap (ltb c) k.head.cores) (λ _. refl)

  pub core_given : (c : ℕ) → core_value w c ≡ gives (core_number w c) (sum places (λ p. cond (eqb (core_of s (at p).task) c) (at p).length 0))
  unfolding core_value
  core_given c = go (dec_lt c (draft_cores w))
    where
      go : Dec (c < draft_cores w)
          → gives (core_number w c) (core_total w c) ≡ gives (core_number w c) (sum places (λ p. cond (eqb (core_of s (at p).task) c) (at p).length 0))
      go (yes l) = ap (gives (core_number w c)) ((((r_draft w).0 k.draft).3 c l).1 ∙ core_sums c)
      go (no l) =
          let z : core_number w c ≡ 5 = core_asked c ∙ asked_no 5 _ [] (le-ltb c (rows s Cores) (omega (arith, k.head.cores))) in
          gives_none _ _ (not_zero z) ∙ sym (gives_none _ _ (not_zero z))
