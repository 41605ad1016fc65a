-- A walk along the frames of a link (specs/Walks.antt): how it goes on over a stretch with one octet, and which stretches frames make.
use Prim.Native.Nat.{ℕ, zero, suc, ◌+◌, ◌-◌, ◌*◌, ◌^◌, ◌≤◌, ◌<◌}
use mathlib.Core.Path.{◌≡◌, refl, sym, ap, ◌∙◌, subst}
use mathlib.Core.Logic.{inl, inr, ◌≢◌}
use mathlib.Core.List.{List, ◌∷◌, ◌++◌, [], append_assoc}
use native.Mathlib.Omega.{arith}
use native.Mathlib.Decide.{ℕ_discrete, dec_lt}
use lib.ListN.{length, length-append}
use Rattle.std.specs.Prelude.{Option}
use Rattle.std.specs.Prelude.{Some, None}
use Rattle.plan.specs.declared.Table.TheVariants.{Cores, Frames}
use Rattle.plan.specs.Image.{cycle_ticks, rows, shape, frame}
use Rattle.plan.specs.Questions.{answer_of, accepted, frame_end, frame_interval, queue_of}
use Rattle.plan.specs.Reading.{Apart}
use Rattle.plan.specs.Dispatch.{show, frame_at, on_link, shown_at}
use Rattle.plan.specs.Held.{Sound}
use Rattle.plan.proofs.Facts.{Facts, facts}
use Rattle.plan.proofs.Sounds.{accepted_sound}
use Rattle.plan.proofs.Orders.{frames_rise, frames_last}
use Rattle.plan.proofs.Covering.{Covering, found_covers, covers_found}
use Rattle.plan.proofs.Messages.{frame_end_le}
use Rattle.plan.proofs.Showing.{link_frame, link_idle, link_lane}
use Rattle.gates.specs.Gates.{Gate, gate, octet_of, octet_at, gates_from, gates}
use Rattle.gates.specs.Walks.{Stretch, Goes, Past, GatesFew, RoomForGates}
use Rattle.gates.proofs.Matching.{gates_on_for, gates_off, words_length}

-- ---- over a stretch with one octet

module _ (s : List ℕ) (l : ℕ) where
  abbrev H : ℕ
  H = cycle_ticks s

  -- the first
  pub goes_first : (u o : ℕ) → 1 ≤ u → u ≤ H → Stretch s l 0 u o → Goes s l [] o 0 u
  unfolding gates
  goes_first u o m w st =
      record {
        within = w;
        begun = omega arith;
        none = λ e. refl;
        goes = λ _.
            let a : H - 1 ≡ u - 1 + (H - u) = omega arith in let b : 1 + (u - 1) ≡ u = omega arith in let c : u - 0 ≡ u = omega arith in
            sym
            (ap (λ (x : ℕ). gates_from s l x 1 1 (H - 1)) (st 0 (omega arith) (omega arith)) ∙ ap (gates_from s l o 1 1) a
            ∙ gates_on_for s l (u - 1) o 1 1 (H - u) (λ i k. st (1 + i) (omega arith) (omega arith)) ∙ (rw (b, c) refl));
      }

  module _ {found : List Gate} {o since t : ℕ} (g : Goes s l found o since t) (u p : ℕ) (some : 1 ≤ t) (more : t < u) (w : u ≤ H) (st : Stretch s l t u p) where
    -- with the octet so far
    pub goes_on : p ≡ o → Goes s l found p since u
    goes_on e =
        let c = g.begun in
        record {
          within = w;
          begun = omega arith;
          none = λ z. absurd (omega arith);
          goes = λ _.
              let a : H - t ≡ u - t + (H - u) = omega arith in let b : t - since + (u - t) ≡ u - since = omega arith in let d : t + (u - t) ≡ u = omega arith in
              ap (λ (gs : List Gate). found ++ gs)
              (sym
              (ap (gates_from s l o (t - since) t) a
              ∙ gates_on_for s l (u - t) o (t - since) t (H - u) (λ i k. st (t + i) (omega arith) (omega arith) ∙ e)
              ∙ (rw (b, d) refl) ∙ ap (λ (x : ℕ). gates_from s l x (u - since) u (H - u)) (sym e)))
              ∙ g.goes some;
        }

    -- with another
    pub goes_off : p ≢ o → Goes s l (found ++ gate o (t - since) ∷ []) p t u
    goes_off d =
        record {
          within = w;
          begun = omega arith;
          none = λ z. absurd (omega arith);
          goes = λ _.
              let n = H - t - 1 in
              let a : H - t ≡ suc n = omega arith in let b : n ≡ u - t - 1 + (H - u) = omega arith in
              let j : 1 + (u - t - 1) ≡ u - t = omega arith in let k : t + 1 + (u - t - 1) ≡ u = omega arith in
              let here = st t (omega arith) (omega arith) in
              append_assoc found (gate o (t - since) ∷ []) (gates_from s l p (u - t) u (H - u))
              ∙ ap (λ (gs : List Gate). found ++ gs)
              (sym
              (ap (gates_from s l o (t - since) t) a
              ∙ gates_off s l o (t - since) t n (λ z. d (sym here ∙ z))
              ∙ ap (λ (gs : List Gate). gate o (t - since) ∷ gs)
              (ap (λ (x : ℕ). gates_from s l x 1 (t + 1) n) here ∙ ap (gates_from s l p 1 (t + 1)) b
              ∙ gates_on_for s l (u - t - 1) p 1 (t + 1) (H - u) (λ i q. st (t + 1 + i) (omega arith) (omega arith)) ∙ (rw (j, k) refl))))
              ∙ g.goes some;
        }

-- ---- at the cycle's end

pub goes_end : (s : List ℕ) (l : ℕ) {found : List Gate} {o since : ℕ} → Goes s l found o since (cycle_ticks s) → 1 ≤ cycle_ticks s
    → gates s l ≡ found ++ gate o (cycle_ticks s - since) ∷ []
unfolding gates_from
goes_end s l {found} {o} {since} g c =
    let z : cycle_ticks s - cycle_ticks s ≡ 0 = omega arith in
    sym (g.goes c) ∙ ap (λ (n : ℕ). found ++ gates_from s l o (cycle_ticks s - since) (cycle_ticks s) n) z

-- ---- which stretches frames make

module _ (s : List ℕ) (e : answer_of s ≡ accepted) (l : ℕ) where
  f : Facts s
  f = facts s e

  h : Sound s
  h = accepted_sound s e

  abbrev In : ℕ → ℕ → Type 0
  In x i = Covering (rows s Frames) (λ i. (frame s i).link) (λ i. (frame s i).start) (frame_end s) l x i

  lane_is : (x : ℕ) → shown_at s (rows s Cores + l) x ≡ on_link s l x
  lane_is x = let d : rows s Cores + l - rows s Cores ≡ l = omega arith in link_lane s {l = rows s Cores + l} x (omega arith) ∙ ap (λ (c : ℕ). on_link s c x) d

  -- a tick that a frame covers, and one that none does
  sent_at : (x i : ℕ) → In x i → octet_at s l x ≡ 2 ^ queue_of s i
  unfolding octet_at octet_of frame_at frame_interval show
  sent_at x i c = rw (lane_is x, link_frame s l x i (covers_found (rows s Frames) (λ i. (frame s i).link) (λ i. (frame s i).start) (frame_end s) (λ i k j m q. f.frame_apart i k j m q) c)) refl

  idle_at : (x : ℕ) → ((i : ℕ) → In x i → ⊥) → octet_at s l x ≡ 0
  unfolding octet_at octet_of frame_at show
  idle_at x no_frame = go (frame_at s l x) refl
    where
      go : (d : Option ℕ) → frame_at s l x ≡ d → octet_at s l x ≡ 0
      go (Some i) q = absurd (no_frame i (found_covers (rows s Frames) (λ i. (frame s i).link) (λ i. (frame s i).start) (frame_end s) l x i q))
      go None q = rw (lane_is x, link_idle s l x q) refl

  pub past_none : Past s l 0 0
  past_none = record { behind = λ i k. absurd (omega arith); ahead = λ i k m q. omega arith }

  -- row n is not the link's
  pub past_skip : {n t : ℕ} → Past s l n t → (frame s n).link ≢ l → Past s l (n + 1) t
  past_skip {n} {t} p d =
      record {
        behind = λ i k q. below i k q (ℕ_discrete i n);
        ahead = λ i k m q. p.ahead i (omega arith) m q;
      }
    where
      below : (i : ℕ) → i < n + 1 → (frame s i).link ≡ l → Dec (i ≡ n) → frame_end s i ≤ t
      below i k q (yes z) = absurd (d (subst (λ (j : ℕ). (frame s j).link ≡ l) z q))
      below i k q (no z) = p.behind i (omega (arith, z)) q

  module _ {n t : ℕ} (p : Past s l n t) (r : n < rows s Frames) (q : (frame s n).link ≡ l) where
    pub waits : t ≤ (frame s n).start
    waits = p.ahead n (omega arith) r q

    pub lasts : (frame s n).start < frame_end s n
    lasts = frames_last s h n r

    pub ends_in : frame_end s n ≤ cycle_ticks s
    ends_in = frame_end_le s f n r

    -- it is: no gate is open before it, and its own while it is sent
    pub idle_before : Stretch s l t (frame s n).start 0
    idle_before x a b = idle_at x (λ i c. none i c (dec_lt i n))
      where
        none : (i : ℕ) → In x i → Dec (i < n) → ⊥
        none i c (yes z) = omega (arith, p.behind i z c.at_place, c.high)
        none i c (no z) = omega (arith, frames_rise s h n i (omega arith) c.row, c.low)

    pub sends : Stretch s l (frame s n).start (frame_end s n) (2 ^ queue_of s n)
    sends x a b = sent_at x n (record { row = r; at_place = q; low = a; high = b })

    pub past_send : Past s l (n + 1) (frame_end s n)
    unfolding frame_interval
    past_send = record { behind = λ i k m. below i k m (ℕ_discrete i n); ahead = λ i k m z. later i (omega arith) m z }
      where
        below : (i : ℕ) → i < n + 1 → (frame s i).link ≡ l → Dec (i ≡ n) → frame_end s i ≤ frame_end s n
        below i k m (yes z) = rw z (omega arith)
        below i k m (no z) = omega (arith, p.behind i (omega (arith, z)) m, waits, lasts)

        later : (i : ℕ) → n < i → i < rows s Frames → (frame s i).link ≡ l → frame_end s n ≤ (frame s i).start
        later i k m z = go (f.frame_apart i m n k (q ∙ sym z))
          where
            go : Apart (frame_interval s n) (frame_interval s i) → frame_end s n ≤ (frame s i).start
            go (inl a) = a
            go (inr a) = absurd (omega (arith, frames_rise s h n i (omega arith) m, frames_last s h i m))

  -- after the last frame none is
  pub idle_after : {t : ℕ} → Past s l (rows s Frames) t → Stretch s l t (cycle_ticks s) 0
  idle_after p x a b = idle_at x (λ i c. omega (arith, p.behind i c.row c.at_place, c.high))

-- ---- how many gates there are

module _ (s : List ℕ) (e : answer_of s ≡ accepted) (l : ℕ) where
  few_more : (n t a b c : ℕ) → Dec (t ≡ 0) → (1 ≤ t → a + 1 ≤ 2 * n) → (t ≡ 0 → b ≡ 0) → b ≤ a + 1 → c ≤ b + 1 → c + 1 ≤ 2 * suc n
  few_more n t a b c (yes z) p q i j = omega (arith, q z)
  few_more n t a b c (no z) p q i j = omega (arith, p (omega (arith, z)))

  -- the first n frames gone through
  record Walked (n : ℕ) : Type 0 where
    found : List Gate
    o : ℕ
    since : ℕ
    t : ℕ
    goes : Goes s l found o since t
    past : Past s l n t
    few : 1 ≤ t → length found + 1 ≤ 2 * n

  -- a walk to tick u, with at most one gate more than there were, and none before the first tick
  record Further (before t u : ℕ) : Type 0 where
    found : List Gate
    o : ℕ
    since : ℕ
    goes : Goes s l found o since u
    few : length found ≤ before + 1
    first : t ≡ 0 → length found ≡ 0

  step : {found : List Gate} {o since t : ℕ} → Goes s l found o since t → (u p : ℕ) → t < u → u ≤ cycle_ticks s → Stretch s l t u p → Further (length found) t u
  step {found} {o} {since} {t} g u p more w st = go (ℕ_discrete t 0) (ℕ_discrete p o)
    where
      go : Dec (t ≡ 0) → Dec (p ≡ o) → Further (length found) t u
      go (yes z) d =
          record {
            found = [];
            o = p;
            since = 0;
            goes = goes_first s l u p (omega arith) w (λ x a b. st x (omega arith) b);
            few = omega arith;
            first = λ _. refl;
          }
      go (no z) (yes d) =
          record {
            found = found;
            o = p;
            since = since;
            goes = goes_on s l g u p (omega (arith, z)) more w st d;
            few = omega arith;
            first = λ q. absurd (z q);
          }
      go (no z) (no d) =
          record {
            found = found ++ gate o (t - since) ∷ [];
            o = p;
            since = t;
            goes = goes_off s l g u p (omega (arith, z)) more w st d;
            few = rw length-append (omega arith);
            first = λ q. absurd (z q);
          }

  -- up to a frame's start, where none is sent before it
  idled : {n t : ℕ} {found : List Gate} {o since : ℕ} → Goes s l found o since t → Past s l n t → n < rows s Frames → (frame s n).link ≡ l
      → Dec (t < (frame s n).start) → Further (length found) t (frame s n).start
  idled {n} {t} {found} {o} {since} g p r q (yes d) =
      step g (frame s n).start 0 d (omega (arith, lasts s e l p r q, ends_in s e l p r q)) (idle_before s e l p r q)
  idled {n} {t} {found} {o} {since} g p r q (no d) =
      let z : t ≡ (frame s n).start = omega (arith, waits s e l p r q) in
      record {
        found = found;
        o = o;
        since = since;
        goes = subst (Goes s l found o since) z g;
        few = omega arith;
        first = λ c. ap length (g.none c);
      }

  walk : (n : ℕ) → n ≤ rows s Frames → Walked n
  walk zero r =
      record {
        found = [];
        o = 0;
        since = 0;
        t = 0;
        goes = record { within = omega arith; begun = omega arith; none = λ _. refl; goes = λ z. absurd (omega arith) };
        past = past_none s e l;
        few = λ z. absurd (omega arith);
      }
  walk (suc n) r = go (walk n (omega arith)) (ℕ_discrete (frame s n).link l)
    where
      one_more : n + 1 ≡ suc n
      one_more = omega arith

      go : Walked n → Dec ((frame s n).link ≡ l) → Walked (suc n)
      go w (no d) =
          record {
            found = w.found;
            o = w.o;
            since = w.since;
            t = w.t;
            goes = w.goes;
            past = subst (λ (m : ℕ). Past s l m w.t) one_more (past_skip s e l w.past d);
            few = λ z. omega (arith, w.few z);
          }
      go w (yes q) =
          let i = idled w.goes w.past r q (dec_lt w.t (frame s n).start) in
          let v = step i.goes (frame_end s n) (2 ^ queue_of s n) (lasts s e l w.past r q) (ends_in s e l w.past r q) (sends s e l w.past r q) in
          record {
            found = v.found;
            o = v.o;
            since = v.since;
            t = frame_end s n;
            goes = v.goes;
            past = subst (λ (m : ℕ). Past s l m (frame_end s n)) one_more (past_send s e l w.past r q);
            few = λ _. few_more n w.t (length w.found) (length i.found) (length v.found) (ℕ_discrete w.t 0) w.few i.first i.few v.few;
          }

  -- to the cycle's end
  finish : (w : Walked (rows s Frames)) → Dec (w.t < cycle_ticks s) → length (gates s l) ≤ 2 * rows s Frames + 1
  finish w (yes d) =
      let v = step w.goes (cycle_ticks s) 0 d (omega arith) (idle_after s e l w.past) in
      rw (goes_end s l v.goes (omega arith), length-append) (last (ℕ_discrete w.t 0) v.first v.few)
    where
      last : Dec (w.t ≡ 0) → {n : ℕ} → (w.t ≡ 0 → n ≡ 0) → n ≤ length w.found + 1 → n + 1 ≤ 2 * rows s Frames + 1
      last (yes z) p q = omega (arith, p z)
      last (no z) p q = omega (arith, w.few (omega (arith, z)))
  finish w (no d) =
      let c = (facts s e).cycle in
      let z : w.t ≡ cycle_ticks s = omega (arith, w.goes.within) in
      rw (goes_end s l (subst (Goes s l w.found w.o w.since) z w.goes) c, length-append) (omega (arith, w.few (omega arith)))

pub gates_few : GatesFew
gates_few s e l = let w = walk s e l (rows s Frames) (omega arith) in finish s e l w (dec_lt w.t (cycle_ticks s))

pub gates_room : RoomForGates
unfolding shape
gates_room s e l = omega (arith, words_length s l, gates_few s e l, (accepted_sound s e).inside.counts Frames)
