-- Places: each hop of each stream's job has one of its own, and a frame's place is that of its stream, job and hop.
use Prim.Native.Nat.{ℕ, zero, suc, ◌+◌, ◌*◌, ◌/◌, ◌^◌, ◌≤◌, ◌<◌}
use mathlib.Core.Path.{◌≡◌, refl, sym, ap, subst}
use mathlib.Core.Bool.{true, ◌&&◌}
use mathlib.Core.List.{List}
use native.Mathlib.Nat.{zero-mul, suc-mul, mul-le-mul_right, div-le_self}
use native.Mathlib.Omega.{arith}
use lib.Dec.{eqb}
use borrow.Author.Tests.{eqb-true, eq-eqb}
use Rattle.plan.specs.declared.Stream.{Stream}
use Rattle.plan.specs.declared.Table.TheVariants.{Streams, Frames}
use Rattle.plan.specs.Image.{rows, stream, frame, cycle_ticks, task, shape, most_streams, most_frames}
use Rattle.plan.specs.Search.{sum}
use Rattle.plan.specs.Questions.{jobs, of_hop}
use Rattle.plan.specs.Held.{Sound}
use Rattle.plan.proofs.Searching.{and_true}
use Rattle.tallies.proofs.Places.{place_below, place_one, place_of}
use Rattle.frames.specs.Index.{span, place, frame_place}

-- ---- n rows of c places

sum_same : (c n : ℕ) → sum n (λ _. c) ≡ n * c
unfolding sum
sum_same c zero = sym (zero-mul c)
sum_same c (suc n) = let h = sum_same c n in omega (arith, suc-mul n c)

module _ (c : ℕ) where
  abbrev many : ℕ → ℕ
  many _ = c

  row_below : (k n h : ℕ) → k < n → h < c → k * c + h < n * c
  row_below k n h l m = let e = sum_same c k in let d = sum_same c n in omega (arith, place_below many k n h l m)

  row_one : (k h j i : ℕ) → h < c → i < c → k * c + h ≡ j * c + i → (k ≡ j) × (h ≡ i)
  row_one k h j i l m e = let a = sum_same c k in let b = sum_same c j in place_one many k h j i l m (omega arith)

  pub row_of : (n v : ℕ) → v < n * c → (k : ℕ) × (h : ℕ) × (k < n) × (h < c) × (k * c + h ≡ v)
  row_of n v l =
      let a = sum_same c n in
      let w = place_of many n v (omega arith) in
      let b = sum_same c w.0 in
      (w.0, w.1, w.2, w.3, omega (arith, w.4))

module _ (s : List ℕ) where
  -- job k of stream m, and its hop h
  pub record HopOf (m k h : ℕ) : Type 0 where
    pub job : k < jobs s (stream s m).sender
    pub hop : h < (stream s m).hops

  in_span : (m k h : ℕ) → HopOf m k h → k * (stream s m).hops + h < span s m
  unfolding span
  in_span m k h l = row_below (stream s m).hops k (jobs s (stream s m).sender) h l.job l.hop

  pub place_most : (m k h n : ℕ) → m < n → HopOf m k h → place s m k h < sum n (span s)
  unfolding place
  place_most m k h n l d = place_below (span s) m n (k * (stream s m).hops + h) l (in_span m k h d)

  -- no two hops have one place
  pub place_own : (m k h n j i : ℕ) → HopOf m k h → HopOf n j i → place s m k h ≡ place s n j i → (m ≡ n) × (k ≡ j) × (h ≡ i)
  unfolding place
  place_own m k h n j i a b e =
      let w = place_one (span s) m (k * (stream s m).hops + h) n (j * (stream s n).hops + i) (in_span m k h a) (in_span n j i b) e in
      let q : i < (stream s m).hops = subst (λ (x : ℕ). i < (stream s x).hops) (sym w.0) b.hop in
      let c : k * (stream s m).hops + h ≡ j * (stream s m).hops + i = subst (λ (x : ℕ). k * (stream s m).hops + h ≡ j * (stream s x).hops + i) (sym w.0) w.1 in
      let v = row_one (stream s m).hops k h j i a.hop q c in
      (w.0, v.0, v.1)

  -- each place is one of a hop's
  pub record At (n v : ℕ) : Type 0 where
    pub m : ℕ
    pub k : ℕ
    pub h : ℕ
    pub row : m < n
    pub is : HopOf m k h
    pub place_is : place s m k h ≡ v

  pub hop_at : (n v : ℕ) → v < sum n (span s) → At n v
  unfolding place span
  hop_at n v l =
      let w = place_of (span s) n v l in
      let u = row_of (stream s w.0).hops (jobs s (stream s w.0).sender) w.1 w.3 in
      record { m = w.0; k = u.0; h = u.1; row = w.2; is = record { job = u.2; hop = u.3 }; place_is = omega (arith, w.4, u.4) }

  -- a hop's frame, by its words
  of_hop_holds : (m k h f : ℕ) → of_hop s m k h f ≡ true → ((frame s f).stream ≡ m) × ((frame s f).job ≡ k) × ((frame s f).hop ≡ h)
  unfolding of_hop
  of_hop_holds m k h f e =
      let p = and_true (eqb (frame s f).stream m && eqb (frame s f).job k) (eqb (frame s f).hop h) e in
      let q = and_true (eqb (frame s f).stream m) (eqb (frame s f).job k) p.0 in
      (eqb-true _ _ q.0, eqb-true _ _ q.1, eqb-true _ _ p.1)

  pub hop_of : (m k h f : ℕ) → (frame s f).stream ≡ m → (frame s f).job ≡ k → (frame s f).hop ≡ h → of_hop s m k h f ≡ true
  unfolding of_hop
  hop_of m k h f a b c = rw (eq-eqb _ m a, eq-eqb _ k b, eq-eqb _ h c) refl

  pub place_frame : (m k h f : ℕ) → of_hop s m k h f ≡ true → frame_place s f ≡ place s m k h
  unfolding frame_place
  place_frame m k h f e = let w = of_hop_holds m k h f e in rw (w.0, w.1, w.2) refl

  pub frames_most : Sound s → rows s Frames ≤ most_frames
  unfolding shape
  frames_most h = h.inside.counts Frames

  pub streams_most : Sound s → rows s Streams ≤ most_streams
  unfolding shape
  streams_most h = h.inside.counts Streams

  -- a stream has at most 8 hops of 1,000,000 jobs
  pub span_most : Sound s → (m : ℕ) → m < rows s Streams → span s m ≤ 8000000
  unfolding span jobs
  span_most h m l =
      let r = h.ranges Streams m l in
      let j : cycle_ticks s / (task s (stream s m).sender).period ≤ 1000000 = omega (arith, div-le_self (cycle_ticks s) (task s (stream s m).sender).period, h.cycle_most) in
      let k : cycle_ticks s / (task s (stream s m).sender).period * (stream s m).hops ≤ 1000000 * (stream s m).hops = mul-le-mul_right (stream s m).hops j in
      omega (arith, r.3)

  -- a place is summed in 64 bits
  pub place_fits : Sound s → (m : ℕ) → m < rows s Streams → (x : Stream) → x ≡ stream s m → (b k h : ℕ) → b ≤ most_frames → k < 2 ^ 32 → h < 2 ^ 32
      → b + (k * x.hops + h) < 2 ^ 64
  place_fits sound m l x e b k h lb lk lh =
      let r = sound.ranges Streams m l in
      let c = x.hops in
      let d : c ≡ (stream s m).hops = ap (λ (y : Stream). y.hops) e in
      let lk' : k ≤ 4294967295 = omega arith in
      let p : k * c ≤ 4294967295 * c = mul-le-mul_right c lk' in
      omega (arith, r.3)
