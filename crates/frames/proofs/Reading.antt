-- What is read off the index: how many frames a hop has where 15 is passed, and its one frame where 16 is.
use Prim.Native.Nat.{ℕ, ◌+◌, ◌≤◌, ◌<◌, min}
use mathlib.Core.Path.{◌≡◌, refl, sym, ap, ◌∙◌, subst}
use mathlib.Core.Bool.{Bool, true, false, not, true≢false}
use mathlib.Core.List.{List}
use native.Mathlib.Omega.{arith}
use lib.Dec.{eqb}
use lib.ListN.{get_or}
use borrow.Author.Tests.{eqb-true, eq-eqb, lt-ltb, le-ltb}
use Rattle.std.specs.Prelude.{Option}
use Rattle.std.specs.Prelude.{Some, None}
use Rattle.plan.specs.declared.Table.TheVariants.{Streams, Frames}
use Rattle.plan.specs.Image.{rows, stream, frame, most_frames}
use Rattle.plan.specs.Search.{first_no, first, sum, count}
use Rattle.plan.specs.Questions.{of_hop, frame_of, stream_questions}
use Rattle.plan.specs.Held.{Passed}
use Rattle.plan.proofs.Searching.{none_iff, at_iff}
use Rattle.plan.proofs.Tests.{One}
use Rattle.plan.proofs.Shows.{bool_eq}
use Rattle.plan.proofs.Passing.{frames_fit, one_frame_holds}
use Rattle.tallies.proofs.Tallying.{tally_sum}
use Rattle.frames.specs.Index.{span, place, frame_place, many_at, last_at, Indexed, JobOf, Framed, once_at, counts_at, lasts_at}
use Rattle.frames.proofs.Placing.{HopOf, place_most, place_own, hop_at, hop_of, place_frame}
use Rattle.frames.proofs.Gathering.{last_one, capped_is, capped_past}
use Rattle.frames.proofs.Once.{filled_most}

module _ (s : List ℕ) where
  module _ (n : ℕ) (p : Passed (stream_questions s) n) (two : 2 ≤ n) where
    frame_hop : (f : ℕ) → f < rows s Frames → HopOf s (frame s f).stream (frame s f).job (frame s f).hop
    frame_hop f l = let w = frames_fit s n p two f l in record { job = w.0; hop = w.1 }

    module _ (m k h : ℕ) (is : HopOf s m k h) where
      -- a frame is at a hop's place where it is that hop's
      frame_place_holds : (f : ℕ) → f < rows s Frames → frame_place s f ≡ place s m k h → of_hop s m k h f ≡ true
      unfolding frame_place
      frame_place_holds f l e = let w = place_own s _ _ _ m k h (frame_hop f l) is e in hop_of s m k h f w.0 w.1 w.2

      many_are : many_at s (rows s Frames) (place s m k h) ≡ count (rows s Frames) (of_hop s m k h)
      unfolding many_at count
      many_are =
          tally_sum (frame_place s) (λ _. 1) (place s m k h) (of_hop s m k h) (rows s Frames)
          (λ f l. bool_eq _ _ (λ e. frame_place_holds f l (eqb-true _ _ e)) (λ e. eq-eqb _ _ (place_frame s m k h f e)))

      module _ (index : List ℕ) (i : Indexed s index) (at : ℕ) (e : at ≡ min most_frames (place s m k h)) where
        pub has_one_kept : at < most_frames → eqb (get_or index (counts_at + at) 0) 1 ≡ once_at s m k h
        unfolding once_at
        has_one_kept l =
            let q = capped_is at (place s m k h) e l in
            let w = i.counts.each at l ∙ ap (many_at s (rows s Frames)) q ∙ many_are in
            rw (w, lt-ltb (place s m k h) most_frames (omega arith)) refl

        pub has_one_past : (at < most_frames → ⊥) → false ≡ once_at s m k h
        unfolding once_at
        has_one_past l = rw (le-ltb (place s m k h) most_frames (capped_past at (place s m k h) e l)) refl

  module _ (p : Framed s) where
    -- every hop's place is kept
    all_kept : sum (rows s Streams) (span s) ≤ most_frames
    all_kept =
        filled_most s p.sound (sum (rows s Streams) (span s))
        (λ v l.
        let w = hop_at s (rows s Streams) v l in
        let f = one_frame_holds s 3 p.passed (omega arith) w.m w.row w.k w.is.job w.h w.is.hop in
        (f.0, f.1.0, place_frame s w.m w.k w.h f.0 f.1.1 ∙ w.place_is))

    module _ (m k h : ℕ) (j : JobOf s m k) (l : h < (stream s m).hops) where
      is : HopOf s m k h
      is = record { job = j.job; hop = l }

      kept_hop : place s m k h < most_frames
      kept_hop = omega (arith, place_most s m k h (rows s Streams) j.row is, all_kept)

      abbrev other : ℕ → Bool
      other f = not (of_hop s m k h f)

      yes_of : (b : Bool) → not b ≡ false → b ≡ true
      yes_of true q = refl
      yes_of false q = absurd (true≢false q)

      -- the hop's one frame is the lowest
      the_one : One (of_hop s m k h) (rows s Frames)
      the_one = one_frame_holds s 3 p.passed (omega arith) m j.row k j.job h l

      lowest_is : the_one.0 ≡ frame_of s m k h
      unfolding frame_of first
      lowest_is = go (first_no (rows s Frames) other) refl
        where
          go : (x : Option ℕ) → first_no (rows s Frames) other ≡ x → the_one.0 ≡ frame_of s m k h
          go None q = absurd (true≢false (sym ((none_iff other (rows s Frames)).0 q the_one.0 the_one.1.0) ∙ ap not the_one.1.1))
          go (Some i) q = let w = (at_iff other (rows s Frames) i).0 q in rw (q, frame_of) (sym (the_one.2 i (w.below, yes_of _ w.says_no)))

      -- a frame of the hop is it
      pub frame_own : (f : ℕ) → f < rows s Frames → of_hop s m k h f ≡ true → frame_of s m k h ≡ f
      frame_own f d e = sym lowest_is ∙ sym (the_one.2 f (d, e))

      pub frame_exists : frame_of s m k h < rows s Frames
      frame_exists = subst (λ (f : ℕ). f < rows s Frames) lowest_is the_one.1.0

      last_is : last_at s (rows s Frames) (place s m k h) ≡ frame_of s m k h
      unfolding last_at
      last_is =
          last_one (frame_place s) (place s m k h) (rows s Frames) the_one.0 the_one.1.0 (place_frame s m k h the_one.0 the_one.1.1)
          (λ g d e. the_one.2 g (d, frame_place_holds 3 p.passed (omega arith) m k h is g d e))
          ∙ lowest_is

      module _ (index : List ℕ) (i : Indexed s index) (at : ℕ) (e : at ≡ min most_frames (place s m k h)) where
        pub place_inside : at < most_frames
        place_inside = omega (arith, kept_hop)

        pub frame_read : get_or index (lasts_at + at) 0 ≡ frame_of s m k h
        frame_read = i.lasts.each at place_inside ∙ ap (last_at s (rows s Frames)) (capped_is at (place s m k h) e place_inside) ∙ last_is
