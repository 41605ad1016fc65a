-- Demand 3's `Kept`: no two frames are in one queue of a link at once (paper 02, request 13).
use Prim.Native.Nat.{ℕ, zero, suc, ◌+◌, ◌-◌, ◌*◌, ◌%◌, ◌≤◌, ◌<◌}
use mathlib.Core.Path.{◌≡◌, refl, sym, ap, ◌∙◌, subst}
use mathlib.Core.Logic.{◌⊎◌, inl, inr}
use mathlib.Core.Bool.{true}
use mathlib.Core.List.{List}
use native.Mathlib.Nat.{mul-le-mul_right, suc-mul}
use native.Mathlib.Omega.{arith}
use native.Mathlib.Decide.{dec_lt}
use lib.ListN.{length, get_or}
use lib.Dec.{leb, ltb, eqb, eqb-suc-zero}
use borrow.Author.Tests.{eqb-true, eq-eqb, leb-true, le-leb, lt-ltb}
use Rattle.plan.specs.declared.Table.TheVariants.{Streams, Frames}
use Rattle.plan.specs.Image.{rows, cycle_ticks, precision, stream, frame, link}
use Rattle.plan.specs.Questions.{node_of, jobs, last_end, frame_end, across, of_hop, frame_of, queue_of, over_from, stay_from, stay, same_queue}
use Rattle.plan.specs.Dispatch.{Shown, show, lanes, shown_at}
use Rattle.plan.specs.Runs as Run
use Rattle.plan.specs.Runs.{First}
use Rattle.plan.proofs.Searching.{and_true}
use Rattle.plan.proofs.Tests.{no_tick}
use Rattle.plan.proofs.Facts.{Facts, QueueFacts}
use Rattle.plan.proofs.Spans as Span
use Rattle.plan.proofs.Spans.{first_lt, has_piece}
use Rattle.plan.proofs.Messages.{wire_pos, frame_end_le, frame_some, frame_row, ends_le, same_jobs, sends_follow, frame_sent, ended, from_node}

-- ---- in the plan

module _ (s : List ℕ) (f : Facts s) where
  -- a frame is the one of its stream, job and hop
  pub frame_is : (i : ℕ) → i < rows s Frames → frame_of s (frame s i).stream (frame s i).job (frame s i).hop ≡ i
  unfolding of_hop
  frame_is i h =
      let m = (frame s i).stream in let k = (frame s i).job in let p = (frame s i).hop in
      let t = f.frame_fits i h in
      let mine : of_hop s m k p i ≡ true = rw (eq-eqb m m refl, eq-eqb k k refl, eq-eqb p p refl) refl in
      let w = f.one_frame m (f.names Frames i h).0 k t.0 p t.1 in
      w.2 (frame_of s m k p) (frame_some s f m k p i h mine) ∙ sym (w.2 i (h, mine))

  -- it ends more than P ticks before the cycle does: its reader still starts
  ends_early : (i : ℕ) → i < rows s Frames → frame_end s i + precision s < cycle_ticks s
  unfolding across
  ends_early i h =
      let m = (frame s i).stream in let k = (frame s i).job in let p = (frame s i).hop in
      let t = f.frame_fits i h in let hm = (f.names Frames i h).0 in
      let a = subst (λ (u : ℕ). frame_end s u ≤ frame_end s (frame_of s m k ((stream s m).hops - 1))) (frame_is i h) (ends_le s f m k hm t.0 ((stream s m).hops - p - 1) p (omega (arith, t.1))) in
      let w = has_piece s f (stream s m).receiver k (f.names Streams m hm).1 (subst (λ (u : ℕ). k < u) (sym (same_jobs s f m hm)) t.0) in
      omega (arith, (f.message_waits m hm k t.0).1, first_lt s f (stream s m).receiver k w.1)

  pub stay_zero : (i : ℕ) → (frame s i).hop ≡ 0 → stay_from s i ≡ last_end s (stream s (frame s i).stream).sender (frame s i).job
  unfolding stay_from
  stay_zero i e = rw (eq-eqb (frame s i).hop 0 e) refl

  pub stay_suc : (i h : ℕ) → (frame s i).hop ≡ suc h
      → let b = frame_of s (frame s i).stream (frame s i).job h in stay_from s i ≡ (frame s b).start + (link s (frame s b).link).lowest - precision s
  unfolding stay_from over_from
  stay_suc i h e = let d : suc h - 1 ≡ h = omega arith in rw (e, eqb-suc-zero h, d) refl

next_cycle : (H y z : ℕ) → y < z → y * H + H ≤ z * H
next_cycle H y z l = rw (← suc-mul y H) (mul-le-mul_right H l)

-- ---- in a run

module _ (s : List ℕ) (f : Facts s) (c : ℕ) (ahead : ℕ → ℕ) (shows : ℕ → List Shown) (n : ℕ)
    (len : (l : ℕ) → l < lanes s → length (shows l) ≡ n)
    (law : (l i : ℕ) → l < lanes s → i < n → get_or (shows l) i (show 0 0) ≡ shown_at s l (i % cycle_ticks s))
    (near : (i : ℕ) → ahead i ≤ precision s) (delay : ℕ → ℕ → ℕ) (bounds : Run.InBounds s delay) where
  abbrev H : ℕ
  H = cycle_ticks s

  -- Tick x lies in the stay that frame i has by the plan, in cycle y. A stay that is cut at 0 may begin in the cycle before, not more than P ticks early.
  record Stays (y i x : ℕ) : Type 0 where
    cut : (y * H + stay_from s i ≤ x) ⊎ (stay_from s i ≡ 0)
    early : y * H ≤ x + precision s
    to_end : x < y * H + frame_end s i

  started : (y i x : ℕ) → i < rows s Frames → First (Run.in_cycle s c ahead shows y (Run.sends s c ahead shows i)) x → x ≡ y * H + (frame s i).start
  unfolding frame_end
  started y i x h r =
      let w = wire_pos s f i h in let e = frame_end_le s f i h in
      (Span.first_at s f c ahead shows n len law (sends_follow s f c ahead shows n len law i h) y (frame s i).start (omega arith)
      (rw (le-leb (frame s i).start (frame s i).start (omega arith), lt-ltb (frame s i).start (frame_end s i) (omega arith)) refl)
      (λ x q. leb-true (frame s i).start x (and_true (leb (frame s i).start x) (ltb x (frame_end s i)) q).0) x r).0

  cut_at : (a b P x : ℕ) → a + b ≤ x + P → (a + (b - P) ≤ x) ⊎ (b - P ≡ 0)
  cut_at a b P x h = go (dec_lt b P)
    where
      go : Dec (b < P) → (a + (b - P) ≤ x) ⊎ (b - P ≡ 0)
      go (yes l) = inr (omega arith)
      go (no l) = inl (omega arith)

  stays : (y i x : ℕ) → i < rows s Frames → x < n → Run.InQueue s c ahead shows delay y i x → Stays y i x
  stays y i x h l q = go (frame s i).hop refl q.come
    where
      m : ℕ
      m = (frame s i).stream

      k : ℕ
      k = (frame s i).job

      hm : m < rows s Streams
      hm = (f.names Frames i h).0

      hk : k < jobs s (stream s m).sender
      hk = (f.frame_fits i h).0

      late : Dec (n < y * H + frame_end s i) → x < y * H + frame_end s i
      late (yes g) = omega arith
      late (no g) = q.not_sent (y * H + frame_end s i) (frame_sent s f c ahead shows n len law y i h (omega arith))

      go : (p : ℕ) → (frame s i).hop ≡ p → Run.ComeBy s c ahead shows delay y m k p (Run.of_frame s c ahead shows i x) → Stays y i x
      go zero e w =
          let en = ended s f c ahead shows n len law y (stream s m).sender k w.0 w.1 in
          let z : frame_of s m k 0 ≡ i = subst (λ (u : ℕ). frame_of s m k u ≡ i) e (frame_is s f i h) in
          let a : (link s (frame s i).link).from ≡ node_of s (stream s m).sender =
          subst (λ (u : ℕ). (link s (frame s u).link).from ≡ node_of s (stream s m).sender) z (from_node s f c ahead shows n len law y m k hm hk (omega (arith, (f.ranges Streams m hm).2))) in
          let b = ap ahead a in
          let from : y * H + stay_from s i ≤ x = rw (stay_zero s f i e) (omega (arith, en.place, w.2)) in
          record { cut = inl from; early = omega arith; to_end = late (dec_lt n (y * H + frame_end s i)) }
      go (suc p) e w =
          let hop = (f.frame_fits i h).1 in
          let hb = frame_row s f m k hm hk p (omega arith) in
          let st = started y (frame_of s m k p) w.0 hb w.1 in
          let d = (bounds (frame_of s m k p) y hb).0 in
          let a = near (link s (frame s (frame_of s m k p)).link).from in
          let from : y * H + ((frame s (frame_of s m k p)).start + (link s (frame s (frame_of s m k p)).link).lowest) ≤ x + precision s = omega (arith, w.2) in
          record {
            cut = rw (stay_suc s f i p e) (cut_at (y * H) ((frame s (frame_of s m k p)).start + (link s (frame s (frame_of s m k p)).link).lowest) (precision s) x from);
            early = omega arith;
            to_end = late (dec_lt n (y * H + frame_end s i));
          }

  -- the tick of the cycle at which both would be there
  in_stay : {y i x : ℕ} → i < rows s Frames → Stays y i x → (stay_from s i ≤ x - y * H) × (x - y * H < frame_end s i)
  unfolding frame_end
  in_stay {y} {i} {x} h r = (go r.cut, let w = wire_pos s f i h in let z = r.to_end in omega arith)
    where
      go : (y * H + stay_from s i ≤ x) ⊎ (stay_from s i ≡ 0) → stay_from s i ≤ x - y * H
      go (inl a) = omega arith
      go (inr e) = omega arith

  same_fields : (i j : ℕ) → same_queue s i j ≡ true → ((frame s i).link ≡ (frame s j).link) × (queue_of s i ≡ queue_of s j)
  unfolding same_queue
  same_fields i j e =
      let p = and_true (eqb (frame s i).link (frame s j).link) (eqb (queue_of s i) (queue_of s j)) e in
      (eqb-true _ _ p.0, eqb-true _ _ p.1)

  clash : QueueFacts s → {y i j x : ℕ} → i < j → i < rows s Frames → j < rows s Frames → ((frame s i).link ≡ (frame s j).link) × (queue_of s i ≡ queue_of s j)
      → Stays y i x → Stays y j x → ⊥
  unfolding stay
  clash k {y} {i} {j} {x} l hi hj e a b = no_tick (stay s i) (stay s j) (x - y * H) (k.stay_apart j hj i l e) (in_stay hi a) (in_stay hj b)

  -- a frame of one cycle has left before one of a later cycle comes
  past : {y z i j x : ℕ} → y < z → i < rows s Frames → Stays y i x → Stays z j x → ⊥
  past {y} {z} {i} {j} {x} l hi a b = omega (arith, next_cycle H y z l, ends_early s f i hi, a.to_end, b.early)

  pub queued : QueueFacts s → (y z i j x : ℕ) → i < rows s Frames → j < rows s Frames → x < n → same_queue s i j ≡ true
      → Run.InQueue s c ahead shows delay y i x → Run.InQueue s c ahead shows delay z j x → (y ≡ z) × (i ≡ j)
  queued apart y z i j x hi hj l e p q = go (dec_lt y z) (dec_lt z y) (dec_lt i j) (dec_lt j i)
    where
      a : Stays y i x
      a = stays y i x hi l p

      b : Stays z j x
      b = stays z j x hj l q

      same : ((frame s i).link ≡ (frame s j).link) × (queue_of s i ≡ queue_of s j)
      same = same_fields i j e

      go : Dec (y < z) → Dec (z < y) → Dec (i < j) → Dec (j < i) → (y ≡ z) × (i ≡ j)
      go (yes g) d u v = absurd (past g hi a b)
      go (no g) (yes d) u v = absurd (past d hj b a)
      go (no g) (no d) (yes u) v =
          let k : y ≡ z = omega arith in absurd (clash apart u hi hj same a (subst (λ (w : ℕ). Stays w j x) (sym k) b))
      go (no g) (no d) (no u) (yes v) =
          let k : y ≡ z = omega arith in absurd (clash apart v hj hi (sym same.0, sym same.1) (subst (λ (w : ℕ). Stays w j x) (sym k) b) a)
      go (no g) (no d) (no u) (no v) = (omega arith, omega arith)
