-- A stay begins no later than its frame, and each queue has a place of its own: so the law of the latest end (crates/tallies, Latest.antt) answers 41.
use Prim.Native.Nat.{ℕ, ◌+◌, ◌-◌, max, ◌<◌, ◌≤◌}
use mathlib.Core.Path.{◌≡◌, refl, subst}
use mathlib.Core.Bool.{true}
use mathlib.Core.List.{List}
use native.Mathlib.Omega.{arith}
use native.Mathlib.Decide.{ℕ_discrete}
use lib.ListN.{length, get_or, set}
use borrow.Author.Tests.{eq-eqb, ne_eqb}
use Rattle.std.specs.Prelude.{Some, None}
use Rattle.plan.specs.declared.Table.TheVariants.{Links, Frames}
use Rattle.plan.specs.Image.{rows, shape, frame, stream}
use Rattle.plan.specs.Search.{first_no}
use Rattle.plan.specs.Questions.{frame_end, across, of_hop, frame_of, last_end, queue_of, over_from, stay_from, stay, stay_clear}
use Rattle.plan.specs.Reading.{Apart}
use Rattle.plan.proofs.Tests.{Reads}
use Rattle.plan.proofs.Meanings.{stay_apart_holds}
use Rattle.plan.proofs.Orders.{frames_rise, frames_last}
use Rattle.plan.proofs.Passing.{hops_wait, messages_wait}
use Rattle.tallies.specs.Tallies.{latest, Kept}
use Rattle.tallies.proofs.Latest as Latest
use Rattle.tallies.proofs.Latest.{latest_fresh}
use Rattle.frames.specs.Index.{JobOf}
use Rattle.frames.proofs.Reading.{frame_own, frame_exists}
use Rattle.messages.proofs.Framing.{job_of, hop_of}
use Rattle.stays.specs.Queues.{most_queues, queue_place, Waited}

module _ (s times index : List ℕ) (w : Waited s times index) where
  -- ---- a stay begins no later than its frame

  own_hop : (f : ℕ) → of_hop s (frame s f).stream (frame s f).job (frame s f).hop f ≡ true
  unfolding of_hop
  own_hop f = rw (eq-eqb (frame s f).stream _ refl, eq-eqb (frame s f).job _ refl, eq-eqb (frame s f).hop _ refl) refl

  over_first : (f b : ℕ) → b < rows s Frames → across s b ≤ (frame s f).start → over_from s b ≤ (frame s f).start
  unfolding across over_from frame_end
  over_first f b l h = omega (arith, (w.framed.sound.ranges Links _ (w.framed.sound.names Frames b l).1).6)

  begins_first : (f : ℕ) → f < rows s Frames → stay_from s f ≤ (frame s f).start
  unfolding stay_from
  begins_first f l = go (ℕ_discrete (frame s f).hop 0)
    where
      m : ℕ
      m = (frame s f).stream

      k : ℕ
      k = (frame s f).job

      j : JobOf s m k
      j = job_of s w.framed f l

      go : Dec ((frame s f).hop ≡ 0) → stay_from s f ≤ (frame s f).start
      go (yes e) =
          let own : frame_of s m k 0 ≡ f = subst (λ (h : ℕ). frame_of s m k h ≡ f) e (frame_own s w.framed m k (frame s f).hop j (hop_of s w.framed f l) f l (own_hop f)) in
          rw (eq-eqb (frame s f).hop 0 e) (subst (λ (g : ℕ). last_end s (stream s m).sender k ≤ (frame s g).start) own (messages_wait s 7 w.passed (omega arith) m j.row k j.job).0)
      go (no d) =
          let h = hop_of s w.framed f l in
          let b = frame_exists s w.framed m k ((frame s f).hop - 1) j (omega arith) in
          rw (ne_eqb (frame s f).hop 0 d) (over_first f (frame_of s m k ((frame s f).hop - 1)) b (hops_wait s 7 w.passed (omega arith) f l (omega arith)))

  near : (q r : ℕ) → q < r → r < rows s Frames → stay_from s q < frame_end s r
  near q r d l = omega (arith, begins_first q (omega arith), frames_rise s w.framed.sound q r (omega arith) l, frames_last s w.framed.sound r l)

  -- ---- each queue has its place

  queue_below : (f : ℕ) → f < rows s Frames → queue_of s f ≤ 7
  unfolding queue_of
  queue_below f l = w.queued _ (w.framed.sound.names Frames f l).0

  placed : (f : ℕ) → f < rows s Frames → queue_place s f < most_queues
  unfolding queue_place shape
  placed f l = let h = w.framed.sound in let c = h.inside.counts Links in omega (arith, (h.names Frames f l).1, queue_below f l)

  one_queue : (q r : ℕ) → q < rows s Frames → r < rows s Frames → queue_place s q ≡ queue_place s r → ((frame s q).link ≡ (frame s r).link) × (queue_of s q ≡ queue_of s r)
  unfolding queue_place
  one_queue q r l m e = let a = queue_below q l in let b = queue_below r m in (omega arith, omega arith)

  one_place : (q r : ℕ) → ((frame s q).link ≡ (frame s r).link) × (queue_of s q ≡ queue_of s r) → queue_place s q ≡ queue_place s r
  unfolding queue_place
  one_place q r e = omega (arith, e.0, e.1)

  reads : (r : ℕ) → r < rows s Frames → Reads (stay_clear s r) ((q : ℕ) → q < r → queue_place s q ≡ queue_place s r → Apart (stay s q) (stay s r))
  reads r l =
      let a = stay_apart_holds s r in (
        λ e q d p. a.0 e q d (one_queue q r (omega arith) l p),
        λ h. a.1 (λ q d p. h q d (one_place q r p)),
      )

  -- ---- a turn of the loop

  pub none_before : (ends : List ℕ) → Kept ends 0 most_queues (λ _. 0) → Kept ends 0 most_queues (latest (queue_place s) (frame_end s) 0)
  none_before ends = latest_fresh (queue_place s) (frame_end s) ends most_queues

  module _ (ends : List ℕ) (r : ℕ) (l : r < rows s Frames) (k : Kept ends 0 most_queues (latest (queue_place s) (frame_end s) r)) where
    pub place_inside : queue_place s r < length ends
    unfolding stay
    place_inside = Latest.place_inside (queue_place s) (stay s) (stay_clear s) (rows s Frames) most_queues reads near placed ends r l k

    pub clash : first_no r (stay_clear s) ≡ None → stay_from s r < get_or ends (queue_place s r) 0 → Some r ≡ first_no (rows s Frames) (stay_clear s)
    unfolding stay
    clash = Latest.clash (queue_place s) (stay s) (stay_clear s) (rows s Frames) most_queues reads near placed ends r l k

    pub clear_on : first_no r (stay_clear s) ≡ None → get_or ends (queue_place s r) 0 ≤ stay_from s r → first_no (r + 1) (stay_clear s) ≡ None
    unfolding stay
    clear_on = Latest.clear_on (queue_place s) (stay s) (stay_clear s) (rows s Frames) most_queues reads near placed ends r l k

    pub ends_on : Kept (set ends (queue_place s r) (max (get_or ends (queue_place s r) 0) (frame_end s r))) 0 most_queues (latest (queue_place s) (frame_end s) (r + 1))
    unfolding stay
    ends_on = Latest.ends_on (queue_place s) (stay s) (stay_clear s) (rows s Frames) most_queues reads near placed ends r l k
