-- Stays of one stream on a link are apart in any case: it makes no difference whether 41 asks about them.
use Prim.Native.Nat.{ℕ, zero, suc, ◌+◌, ◌-◌, ◌*◌, ◌≤◌, ◌<◌}
use mathlib.Core.Path.{◌≡◌, refl, sym, ap, ◌∙◌, subst}
use mathlib.Core.Logic.{inl, inr, ◌≢◌}
use mathlib.Core.List.{List}
use native.Mathlib.Nat.{mul-le-mul_right, add-mul, one-mul, add-zero}
use native.Mathlib.Omega.{arith}
use native.Mathlib.Decide.{dec_lt}
use Rattle.plan.specs.declared.Table.TheVariants.{Tasks, Links, Streams, Frames}
use Rattle.plan.specs.Image.{rows, precision, task, stream, frame, link}
use Rattle.plan.specs.Questions.{jobs, release, due, stream_period, reached, frame_end, across, frame_of, stay_from, stay}
use Rattle.plan.specs.Reading.{Apart}
use Rattle.plan.proofs.Facts.{Facts, facts_of}
use Rattle.plan.proofs.Spans.{has_piece, first_released, last_due}
use Rattle.plan.proofs.Messages.{frame_some, frame_row, hop_fields, hop_after, end_across, start_end, ends_le, same_jobs, first_last}
use Rattle.plan.proofs.Queues.{frame_is, stay_zero, stay_suc}
use Rattle.gates.specs.Claim.{OwnApart}

module _ (s : List ℕ) (f : Facts s) where
  period_next : (k T : ℕ) → (k + 1) * T ≡ k * T + T
  period_next k T = add-mul k 1 T ∙ ap (λ (z : ℕ). k * T + z) (one-mul T)

  -- a frame ends more than P ticks before its job's period does
  in_period : (i : ℕ) → i < rows s Frames → frame_end s i + precision s < ((frame s i).job + 1) * stream_period s (frame s i).stream
  unfolding across due stream_period
  in_period i h =
      let m = (frame s i).stream in let k = (frame s i).job in let p = (frame s i).hop in
      let t = f.frame_fits i h in let hm = (f.names Frames i h).0 in
      let r = (stream s m).receiver in
      let a = subst (λ (u : ℕ). frame_end s u ≤ frame_end s (frame_of s m k ((stream s m).hops - 1))) (frame_is s f i h) (ends_le s f m k hm t.0 ((stream s m).hops - p - 1) p (omega (arith, t.1))) in
      let w = has_piece s f r k (f.names Streams m hm).1 (subst (λ (u : ℕ). k < u) (sym (same_jobs s f m hm)) t.0) in
      let e : k * (task s (stream s m).sender).period ≡ k * (task s r).period = ap (λ (u : ℕ). k * u) (f.stream_ends m hm).0 in
      omega (
        arith,
        (f.message_waits m hm k t.0).1,
        first_last s f r k w.1,
        last_due s f.piece_fits r k,
        (f.ranges Tasks r (f.names Streams m hm).1).4,
        (f.stream_ends m hm).0,
        period_next k (task s (stream s m).sender).period,
      )

  -- and its stay begins no more than P ticks before it
  from_period : (i : ℕ) → i < rows s Frames → (frame s i).job * stream_period s (frame s i).stream ≤ stay_from s i + precision s
  unfolding stream_period release
  from_period i h = go (frame s i).hop refl
    where
      m : ℕ
      m = (frame s i).stream

      k : ℕ
      k = (frame s i).job

      hm : m < rows s Streams
      hm = (f.names Frames i h).0

      hk : k < jobs s (stream s m).sender
      hk = (f.frame_fits i h).0

      go : (p : ℕ) → (frame s i).hop ≡ p → k * (task s (stream s m).sender).period ≤ stay_from s i + precision s
      go zero e =
          let w = has_piece s f (stream s m).sender k (f.names Streams m hm).0 hk in
          omega (arith, stay_zero s f i e, first_released s f.piece_fits (stream s m).sender k hk, first_last s f (stream s m).sender k w.1)
      go (suc p) e =
          let hop = (f.frame_fits i h).1 in
          let b = frame_of s m k p in
          let w = f.one_frame m hm k hk p (omega arith) in
          let r = frame_some s f m k p w.0 w.1.0 w.1.1 in
          let q = hop_fields s f m k p b r.1 in
          let low : (frame s b).job * (task s (stream s (frame s b).stream).sender).period ≤ (frame s b).start = (f.frame_fits b r.0).2 in
          let same : (frame s b).job * (task s (stream s (frame s b).stream).sender).period ≡ k * (task s (stream s m).sender).period =
          ap (λ (u : ℕ). u * (task s (stream s (frame s b).stream).sender).period) q.1 ∙ ap (λ (u : ℕ). k * (task s (stream s u).sender).period) q.0 in
          omega (arith, stay_suc s f i p e)

  earlier_job : (i j : ℕ) → i < rows s Frames → j < rows s Frames → (frame s i).stream ≡ (frame s j).stream → (frame s i).job < (frame s j).job → frame_end s i ≤ stay_from s j
  earlier_job i j hi hj e l =
      let T = stream_period s (frame s i).stream in
      let a : ((frame s i).job + 1) * T ≤ (frame s j).job * T = mul-le-mul_right T (omega arith) in
      let b : (frame s j).job * T ≡ (frame s j).job * stream_period s (frame s j).stream = ap (λ (u : ℕ). (frame s j).job * stream_period s u) e in
      omega (arith, in_period i hi, from_period j hj)

  module _ (m k : ℕ) (hm : m < rows s Streams) (hk : k < jobs s (stream s m).sender) where
    ends_rise : (d h : ℕ) → h + d < (stream s m).hops → frame_end s (frame_of s m k h) ≤ frame_end s (frame_of s m k (h + d))
    ends_rise zero h l = simp add-zero (omega arith)
    ends_rise (suc d) h l =
        let z : suc h + d ≡ h + suc d = omega arith in
        let a = rw z at (ends_rise d (suc h) (omega arith)) in
        omega (arith, end_across s f m k hm hk (frame_of s m k h), hop_after s f m k hm hk h (omega arith), start_end s f m k hm hk (frame_of s m k (suc h)))

    -- the next hop leaves another node
    other_link : (h : ℕ) → suc h < (stream s m).hops → (frame s (frame_of s m k h)).link ≡ (frame s (frame_of s m k (suc h))).link → ⊥
    unfolding reached
    other_link h l e =
        let a = (f.joined m hm k hk).0 (suc h) l in
        let b = frame_row s f m k hm hk h (omega arith) in
        (f.ranges Links _ (f.names Frames _ b).1).2 (ap (λ (u : ℕ). (link s u).from) e ∙ a)

    -- two hops on
    later_hop : (h d : ℕ) → h + d + 2 < (stream s m).hops
        → let b = frame_of s m k (h + d + 1) in frame_end s (frame_of s m k h) + precision s ≤ (frame s b).start
    unfolding across
    later_hop h d l =
        let z : suc (h + d) ≡ h + d + 1 = omega arith in
        let a = rw z at (hop_after s f m k hm hk (h + d) (omega arith)) in
        omega (arith, ends_rise d h (omega arith))

  earlier_hop : (i j : ℕ) → i < rows s Frames → j < rows s Frames → (frame s i).stream ≡ (frame s j).stream → (frame s i).job ≡ (frame s j).job
      → (frame s i).link ≡ (frame s j).link → (frame s i).hop < (frame s j).hop → frame_end s i ≤ stay_from s j
  earlier_hop i j hi hj e d l g = go (dec_lt ((frame s i).hop + 1) (frame s j).hop)
    where
      m : ℕ
      m = (frame s j).stream

      k : ℕ
      k = (frame s j).job

      hm : m < rows s Streams
      hm = (f.names Frames j hj).0

      hk : k < jobs s (stream s m).sender
      hk = (f.frame_fits j hj).0

      hop : (frame s j).hop < (stream s m).hops
      hop = (f.frame_fits j hj).1

      is_i : frame_of s m k (frame s i).hop ≡ i
      is_i = rw (e, d) at (frame_is s f i hi)

      go : Dec ((frame s i).hop + 1 < (frame s j).hop) → frame_end s i ≤ stay_from s j
      go (yes q) =
          let n = (frame s j).hop - (frame s i).hop - 2 in
          let z : (frame s j).hop ≡ suc ((frame s i).hop + n + 1) = omega arith in
          let a = rw is_i at (later_hop m k hm hk (frame s i).hop n (omega (arith, hop))) in
          omega (arith, stay_suc s f j ((frame s i).hop + n + 1) z)
      go (no q) =
          let z : (frame s j).hop ≡ suc (frame s i).hop = omega arith in
          let is-j : frame_of s m k (suc (frame s i).hop) ≡ j = rw z at (frame_is s f j hj) in
          absurd (other_link m k hm hk (frame s i).hop (omega (arith, hop)) (ap (λ (u : ℕ). (frame s u).link) is_i ∙ l ∙ sym (ap (λ (u : ℕ). (frame s u).link) is-j)))

  apart : (i j : ℕ) → i < rows s Frames → j < rows s Frames → i ≢ j → (frame s i).stream ≡ (frame s j).stream → (frame s i).link ≡ (frame s j).link
      → Apart (stay s i) (stay s j)
  unfolding stay
  apart i j hi hj n e l = go (dec_lt (frame s i).job (frame s j).job) (dec_lt (frame s j).job (frame s i).job) (dec_lt (frame s i).hop (frame s j).hop) (dec_lt (frame s j).hop (frame s i).hop)
    where
      go : Dec ((frame s i).job < (frame s j).job) → Dec ((frame s j).job < (frame s i).job) → Dec ((frame s i).hop < (frame s j).hop) → Dec ((frame s j).hop < (frame s i).hop)
          → Apart (stay s i) (stay s j)
      go (yes a) b c d = inl (earlier_job i j hi hj e a)
      go (no a) (yes b) c d = inr (earlier_job j i hj hi (sym e) b)
      go (no a) (no b) (yes c) d = inl (earlier_hop i j hi hj e (omega arith) l c)
      go (no a) (no b) (no c) (yes d) = inr (earlier_hop j i hj hi (sym e) (omega arith) (sym l) d)
      go (no a) (no b) (no c) (no d) =
          let job : (frame s i).job ≡ (frame s j).job = omega arith in
          let hop : (frame s i).hop ≡ (frame s j).hop = omega arith in
          absurd (n (sym (frame_is s f i hi) ∙ rw (e, job, hop) (frame_is s f j hj)))

pub own_apart : OwnApart
own_apart s h p m b = apart s (facts_of s h p m b)
