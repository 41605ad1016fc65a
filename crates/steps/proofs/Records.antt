-- Facts of lists of records, for `step_all`'s two loops: what is known once no record before i is refused, and the list of which
-- the first i records are moved.
use mathlib.Core.Path.{◌≡◌, refl, sym, ◌∙◌, ap}
use Prim.Native.Nat.{ℕ, zero, suc, ◌+◌, ◌<◌, ◌≤◌}
use native.Mathlib.Nat.{not-suc-le-zero, le_of_suc-le-suc}
use native.Mathlib.Numerals.{add-one}
use mathlib.Core.Bool.{Bool, true, false, not, cond}
use mathlib.Core.List.{List, [], ◌∷◌, map}
use lib.Dec.{T, eqb}
use lib.ListN.{length, get_or, set, drop, drop_of_length-le}
use lib.Seq.{drop-cons}
use Rattle.plan.specs.Dispatch.{step, refusal, step_all, start_state}
use Rattle.plan.specs.declared.LaneState.{LaneState}

is_true : (t : Bool) → T (not (not t)) → t ≡ true
is_true true h = refl
is_true false h = absurd h

is_false : (t : Bool) → T (not t) → t ≡ false
is_false true h = absurd h
is_false false h = refl

-- what stands past the end of a list
abbrev pub none : LaneState
none = start_state 0 0

abbrev pub number_at : List ℕ → List LaneState → ℕ → ℕ
number_at ws ys i = (step ws (get_or ys i none)).number

abbrev pub next_of : List ℕ → LaneState → LaneState
next_of ws st = (step ws st).state

abbrev pub moved_all_holds : List ℕ → List LaneState → List LaneState
moved_all_holds ws ys = map (λ st. (step ws st).state) ys

module _ (ws : List ℕ) (ys : List LaneState) (i : ℕ) (before : refusal ws ys ≡ refusal ws (drop i ys)) where
  here : i < length ys → refusal ws ys ≡ cond (eqb (number_at ws ys i) 0) (refusal ws (drop (suc i) ys)) (number_at ws ys i)
  unfolding refusal
  here l = before ∙ ap (refusal ws) (drop-cons ys i none l)

  -- the record at i is refused: it is the lowest one, and none moves
  pub refused_at : i < length ys → T (not (eqb (number_at ws ys i) 0)) → (refusal ws ys ≡ number_at ws ys i) × (ys ≡ step_all ws ys)
  unfolding step_all
  refused_at l bad =
      let z : eqb (number_at ws ys i) 0 ≡ false = is_false (eqb (number_at ws ys i) 0) bad in
      let e : refusal ws ys ≡ number_at ws ys i = here l ∙ (rw z refl) in
      (e, rw (e, z) refl)

  -- it is not
  pub fits_at : i < length ys → T (not (not (eqb (number_at ws ys i) 0))) → refusal ws ys ≡ refusal ws (drop (i + 1) ys)
  fits_at l ok = here l ∙ (rw (is_true (eqb (number_at ws ys i) 0) ok, add-one i) refl)

  -- there is none left
  pub all_fit : length ys ≤ i → refusal ws ys ≡ 0
  unfolding refusal
  all_fit le = before ∙ ap (refusal ws) (drop_of_length-le ys le)

-- the first i records moved
abbrev pub moved_to : List ℕ → ℕ → List LaneState → List LaneState
moved_to ws zero ys = ys
moved_to ws (suc i) [] = []
moved_to ws (suc i) (y ∷ ys) = next_of ws y ∷ moved_to ws i ys

module _ (ws : List ℕ) where
  pub moved_length : (i : ℕ) (ys : List LaneState) → length (moved_to ws i ys) ≡ length ys
  moved_length zero ys = refl
  moved_length (suc i) [] = refl
  moved_length (suc i) (y ∷ ys) = ap suc (moved_length i ys)

  -- the record at i is as it was
  moved_at : (i : ℕ) (ys : List LaneState) → get_or (moved_to ws i ys) i none ≡ get_or ys i none
  moved_at zero ys = refl
  moved_at (suc i) [] = refl
  moved_at (suc i) (y ∷ ys) = moved_at i ys

  set_suc : (i : ℕ) (ys : List LaneState) → i < length ys → set (moved_to ws i ys) i (next_of ws (get_or ys i none)) ≡ moved_to ws (suc i) ys
  set_suc i [] l = absurd (not-suc-le-zero l)
  set_suc zero (y ∷ ys) l = refl
  set_suc (suc i) (y ∷ ys) l = ap (λ (zs : List LaneState). next_of ws y ∷ zs) (set_suc i ys (le_of_suc-le-suc l))

  -- the record at i is moved, and stored back
  pub moved_set : (i : ℕ) (ys : List LaneState) → i < length ys → set (moved_to ws i ys) i (next_of ws (get_or (moved_to ws i ys) i none)) ≡ moved_to ws (i + 1) ys
  moved_set i ys l =
      ap (λ (st : LaneState). set (moved_to ws i ys) i (next_of ws st)) (moved_at i ys) ∙ set_suc i ys l ∙ ap (λ (k : ℕ). moved_to ws k ys) (sym (add-one i))

  to_all : (i : ℕ) (ys : List LaneState) → length ys ≤ i → moved_to ws i ys ≡ moved_all_holds ws ys
  to_all zero [] l = refl
  to_all zero (y ∷ ys) l = absurd (not-suc-le-zero l)
  to_all (suc i) [] l = refl
  to_all (suc i) (y ∷ ys) l = ap (λ (zs : List LaneState). next_of ws y ∷ zs) (to_all i ys (le_of_suc-le-suc l))

  -- all are moved
  pub moved_all : (i : ℕ) (ys : List LaneState) → refusal ws ys ≡ 0 → length ys ≤ i → moved_to ws i ys ≡ step_all ws ys
  unfolding step_all
  moved_all i ys e l = to_all i ys l ∙ (rw e refl)
