-- Words past the first 32,768 are never written: `LaterKept` (specs/Claim.antt).
use Prim.Native.Nat.{ℕ, ◌+◌, ◌≤◌, ◌<◌}
use mathlib.Core.Path.{◌≡◌, refl, ◌∙◌}
use mathlib.Core.Bool.{true, cond}
use mathlib.Core.List.{List, ◌∷◌, []}
use native.Mathlib.Decide.{ℕ_discrete}
use native.Mathlib.Omega.{arith}
use lib.ListN.{length, get_or, set, length-set}
use lib.Dec.{eqb}
use borrow.Author.Tests.{eq-eqb, ne_eqb}
use lib.Seq.{sets, length-sets, get_or-set_other}
use Rattle.plan.specs.declared.Piece.{Piece}
use Rattle.drafts.specs.Drafts.{draft_words, places, place_at, draft_cores, piece_at, is_draft}
use Rattle.drafts.specs.Edits.{summed, copied, piece_words, put_at, freed_at, leaves, make_number, make_words, add_number, add_words, remove_number, remove_words, move_number, move_words, moved_to}
use Rattle.drafts.specs.Claim.{Edit, adds, removes, moves, edited, after_edits, LaterKept}
use Rattle.drafts.proofs.Storing.{sets_other}
use Rattle.drafts.proofs.Heads.{formed_of, few_cores}
use Rattle.drafts.proofs.Summing.{length_summed, summed_later}
use Rattle.drafts.proofs.Making.{shown, long_copied, copied_later, copied_formed}
use Rattle.drafts.proofs.Keeping.{added, removed, moved}

-- as many words, and the later ones the same
record Later (w v : List ℕ) : Type 0 where
  long : length v ≡ length w
  same : (j : ℕ) → draft_words ≤ j → get_or v j 0 ≡ get_or w j 0

later_self : (w : List ℕ) → Later w w
later_self w = record { long = refl; same = λ j l. refl }

later_on : {u w v : List ℕ} → Later u w → Later w v → Later u v
later_on a b = record { long = b.long ∙ a.long; same = λ j l. b.same j l ∙ a.same j l }

later_summed : (w : List ℕ) → draft_cores w ≤ 32 → Later w (summed w)
later_summed w n = record { long = length_summed w; same = summed_later w n }

-- a call: refused, or not
later_leaves : (n : ℕ) (new w : List ℕ) → (n ≡ 0 → Later w new) → Later w (leaves n new w)
unfolding leaves
later_leaves n new w h = go (ℕ_discrete n 0)
  where
    go : Dec (n ≡ 0) → Later w (cond (eqb n 0) new w)
    go (yes e) = rw (eq-eqb n 0 e) (h e)
    go (no e) = rw (ne_eqb n 0 e) (later_self w)

-- an edit of a place
module _ (w : List ℕ) (p : ℕ) (l : p < places) (d : is_draft w ≡ true) where
  later_put : (x : Piece) → Later w (put_at w p x)
  unfolding put_at piece_words place_at draft_words places draft_cores
  later_put x =
      let v : List ℕ = sets w (place_at p) (piece_words x) in
      let e : draft_cores v ≡ draft_cores w = sets_other (piece_words x) w (place_at p) 1 (λ m b z. omega arith) in
      later_on (record { long = length-sets w (place_at p) (piece_words x); same = λ j k. sets_other (piece_words x) w (place_at p) j (λ m b z. omega arith) })
      (later_summed v (omega (arith, e, few_cores w (formed_of w d))))

  later_freed : Later w (freed_at w p)
  unfolding freed_at place_at draft_words places draft_cores
  later_freed =
      let v : List ℕ = set w (place_at p + 3) 0 in
      let e : draft_cores v ≡ draft_cores w = get_or-set_other w (place_at p + 3) 1 0 0 (λ z. omega arith) in
      later_on (record { long = length-set w (place_at p + 3) 0; same = λ j k. get_or-set_other w (place_at p + 3) j 0 0 (λ z. omega arith) })
      (later_summed v (omega (arith, e, few_cores w (formed_of w d))))

later_edit : (w : List ℕ) (e : Edit) → Later w (edited w e)
unfolding edited add_words remove_words move_words
later_edit w (adds p x) = later_leaves (add_number w p x) (put_at w p x) w (λ z. let a = added w p x z in later_put w p a.3 a.0 x)
later_edit w (removes p) = later_leaves (remove_number w p) (freed_at w p) w (λ z. let a = removed w p z in later_freed w p a.1 a.0)
later_edit w (moves p start) =
    later_leaves (move_number w p start) (put_at w p (moved_to (piece_at w p) start)) w (λ z. let a = moved w p start z in later_put w p a.0.1 a.0.0 (moved_to (piece_at w p) start))

later_edits : (w : List ℕ) (es : List Edit) → Later w (after_edits w es)
unfolding after_edits
later_edits w [] = later_self w
later_edits w (e ∷ es) = later_on (later_edit w e) (later_edits (edited w e) es)

later_made : (s w : List ℕ) → Later w (make_words s w)
unfolding make_words
later_made s w =
    later_leaves (make_number s w) (summed (copied s w)) w
    (λ e. let g = shown s w e in
    later_on (record { long = long_copied s w g; same = copied_later s w g }) (later_summed (copied s w) (few_cores (copied s w) (copied_formed s w g))))

pub later_kept : LaterKept
later_kept w = (λ s. let h = later_made s w in (h.long, h.same), λ es. let h = later_edits w es in (h.long, h.same))
