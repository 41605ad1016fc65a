-- Question 16 asked of the index says what its definition says: where every place before one has its frame, and that one is not kept,
-- no frame is left for it.
use Prim.Native.Nat.{ℕ, zero, suc, ◌+◌, ◌-◌, ◌*◌, ◌≤◌, ◌<◌}
use mathlib.Core.Path.{◌≡◌, refl, sym, ap, ◌∙◌}
use mathlib.Core.Logic.{◌⊎◌, inl, inr}
use mathlib.Core.Bool.{Bool, true, false, ◌&&◌}
use mathlib.Core.List.{List}
use native.Mathlib.Nat.{eq-or-lt_of_le}
use native.Mathlib.Decide.{dec_lt}
use native.Mathlib.Omega.{arith}
use lib.Dec.{ltb, eqb}
use borrow.Author.Tests.{eqb-true, lt-ltb, le-ltb}
use Rattle.std.specs.Prelude.{Option}
use Rattle.std.specs.Prelude.{Some, None}
use Rattle.plan.specs.declared.Table.TheVariants.{Streams, Frames}
use Rattle.plan.specs.Image.{rows, stream, most_frames}
use Rattle.plan.specs.Search.{first_no, all, sum, count}
use Rattle.plan.specs.Questions.{jobs, of_hop, each_job, one_frame, question_at, each, stream_questions}
use Rattle.plan.specs.Held.{Sound, refusing}
use Rattle.plan.proofs.Searching.{AllYes, all_yes, none_iff, stays, turn_yes, turn_no}
use Rattle.plan.proofs.Tests.{one_row}
use Rattle.tallies.proofs.Places.{covered}
use Rattle.frames.specs.Index.{span, place, frame_place, once_at, once_each}
use Rattle.frames.proofs.Placing.{frames_most, hop_at, row_of, place_frame}

-- ---- tests that agree on a row where every row before it passes

module _ (a b : ℕ → Bool) where
  abbrev Agree : ℕ → Type 0
  Agree n = (i : ℕ) → i < n → AllYes b i → a i ≡ b i

  all_agree : (n : ℕ) → Agree n → all n a ≡ all n b
  unfolding all
  all_agree zero h = refl
  all_agree (suc n) h = go (all n b) refl (all_agree n (λ i l. h i (omega arith)))
    where
      go : (x : Bool) → all n b ≡ x → all n a ≡ all n b → all n a && a n ≡ all n b && b n
      go true e k = rw (k, e, h n (omega arith) (all_yes b n e)) refl
      go false e k = rw (k, e) refl

  first_agree : (n : ℕ) → Agree n → first_no n a ≡ first_no n b
  unfolding first_no
  first_agree zero h = refl
  first_agree (suc n) h = go (first_no n b) refl (first_agree n (λ i l. h i (omega arith)))
    where
      last : (x : Bool) → b n ≡ x → first_no n b ≡ None → first_no n a ≡ None → a n ≡ b n → first_no (suc n) a ≡ first_no (suc n) b
      last true d e k q = turn_yes a n k (q ∙ d) ∙ sym (turn_yes b n e d)
      last false d e k q = turn_no a n k (q ∙ d) ∙ sym (turn_no b n e d)

      go : (x : Option ℕ) → first_no n b ≡ x → first_no n a ≡ first_no n b → first_no (suc n) a ≡ first_no (suc n) b
      go (Some i) e k = stays a n i (k ∙ e) ∙ sym (stays b n i e)
      go None e k = last (b n) refl e (k ∙ e) (h n (omega arith) ((none_iff b n).0 e))

module _ (s : List ℕ) where
  -- has a hop exactly one frame
  abbrev once : ℕ → ℕ → ℕ → Bool
  once m k h = eqb (count (rows s Frames) (of_hop s m k h)) 1

  -- a frame is at place v
  abbrev pub Filled : ℕ → Type 0
  Filled v = (f : ℕ) × (f < rows s Frames) × (frame_place s f ≡ v)

  filled : (m k h v : ℕ) → place s m k h ≡ v → once m k h ≡ true → Filled v
  filled m k h v e o =
      let w = one_row (of_hop s m k h) (rows s Frames) (eqb-true _ 1 o) in
      (w.0, w.1.0, place_frame s m k h w.0 w.1.1 ∙ e)

  -- every hop before one has exactly one frame
  record Before (m k h : ℕ) : Type 0 where
    streams : (n : ℕ) → n < m → (j : ℕ) → j < jobs s (stream s n).sender → (i : ℕ) → i < (stream s n).hops → once n j i ≡ true
    jobs : (j : ℕ) → j < k → (i : ℕ) → i < (stream s m).hops → once m j i ≡ true
    hops : (i : ℕ) → i < h → once m k i ≡ true

  -- so all places up to its own are filled
  filled_to : (m k h : ℕ) → Before m k h → once m k h ≡ true → (v : ℕ) → v < place s m k h + 1 → Filled v
  unfolding place
  filled_to m k h b o v l = go (dec_lt v (sum m (span s)))
    where
      own : (i : ℕ) → sum m (span s) + (k * (stream s m).hops + i) ≡ v → (i ≡ h) ⊎ (i < h) → Filled v
      own i e (inl q) = filled m k h v (ap (λ (x : ℕ). sum m (span s) + (k * (stream s m).hops + x)) (sym q) ∙ e) o
      own i e (inr q) = filled m k i v e (b.hops i q)

      job : sum m (span s) ≤ v → Dec (v - sum m (span s) < k * (stream s m).hops) → Filled v
      job g (yes d) =
          let w = row_of (stream s m).hops k (v - sum m (span s)) d in
          filled m w.0 w.1 v (omega (arith, w.4)) (b.jobs w.0 w.2 w.1 w.3)
      job g (no d) = own (v - sum m (span s) - k * (stream s m).hops) (omega arith) (eq-or-lt_of_le (omega arith))

      go : Dec (v < sum m (span s)) → Filled v
      go (yes d) = let w = hop_at s m v d in filled w.m w.k w.h v w.place_is (b.streams w.m w.row w.k w.is.job w.h w.is.hop)
      go (no d) = job (omega arith) (dec_lt (v - sum m (span s)) (k * (stream s m).hops))

  module _ (sound : Sound s) where
    -- there are no more filled places than frames
    pub filled_most : (n : ℕ) → ((v : ℕ) → v < n → Filled v) → n ≤ most_frames
    filled_most n h = let c = covered (frame_place s) (rows s Frames) n h in omega (arith, frames_most s sound)

    once_agrees : (m k h : ℕ) → Before m k h → once_at s m k h ≡ once m k h
    unfolding once_at
    once_agrees m k h b = go (dec_lt (place s m k h) most_frames) (once m k h) refl
      where
        go : Dec (place s m k h < most_frames) → (x : Bool) → once m k h ≡ x → ltb (place s m k h) most_frames && once m k h ≡ once m k h
        go (yes l) x e = rw (lt-ltb (place s m k h) most_frames l) refl
        go (no l) true e = let w = filled_most (place s m k h + 1) (filled_to m k h b e) in absurd (omega arith)
        go (no l) false e = rw (le-ltb (place s m k h) most_frames (omega arith), e) refl

    each_agrees : (m : ℕ) → AllYes (each_job s (one_frame s)) m → each_job s (once_each s) m ≡ each_job s (one_frame s) m
    unfolding each_job once_each one_frame
    each_agrees m before =
        all_agree (once_each s m) (one_frame s m) (jobs s (stream s m).sender)
        (λ k l earlier.
        all_agree (once_at s m k) (once m k) (stream s m).hops
        (λ h d lower.
        once_agrees m k h (record {
          streams = λ n g j p i q. all_yes (once n j) (stream s n).hops (all_yes (one_frame s n) (jobs s (stream s n).sender) (before n g) j p) i q;
          jobs = λ j p i q. all_yes (once m j) (stream s m).hops (earlier j p) i q;
          hops = lower;
        })))

    pub first_agrees : first_no (rows s Streams) (each_job s (once_each s)) ≡ refusing (question_at (stream_questions s) 2)
    unfolding question_at each stream_questions
    first_agrees = first_agree (each_job s (once_each s)) (each_job s (one_frame s)) (rows s Streams) (λ m l before. each_agrees m before)
