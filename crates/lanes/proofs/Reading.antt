-- A table read at a tick shows what the lane shows there.
use Prim.Native.Nat.{ℕ, zero, suc, ◌+◌, ◌*◌, ◌≤◌, ◌<◌}
use mathlib.Core.Path.{◌≡◌, refl, sym, ap, ◌∙◌, subst}
use mathlib.Core.Logic.{◌⊎◌, inl, inr, ◌≢◌}
use mathlib.Core.Bool.{Bool, true, false, cond, true≢false}
use mathlib.Core.List.{List, ◌++◌}
use native.Mathlib.Nat.{not-suc-le-zero, eq-or-lt_of_le, le_of_suc-le-suc}
use native.Mathlib.Omega.{arith}
use native.Mathlib.Decide.{dec_lt}
use lib.ListN.{length, get_or, drop, get_or-append}
use lib.Dec.{leb}
use borrow.Author.Tests.{le-leb, lt-leb, eq-eqb}
use Rattle.plan.specs.Image.{cycle_ticks}
use Rattle.plan.specs.Search.{count}
use Rattle.plan.specs.Dispatch.{show, same, shown_at, begins, entries, entry_count, table_of, build_answer, built}
use Rattle.plan.proofs.Tests.{no_count}
use Rattle.plan.proofs.Tables.{count_lt, count_mono, nth, triple, entries_length, entry_word_holds, current, begins_zero}
use Rattle.plan.proofs.Facts.{facts}
use Rattle.lanes.specs.LookUp.{ticks_in, entries_in, first_tick, shown_by, last_entry, look_up, Tells, BuiltTells}
use Rattle.lanes.proofs.Building.{built_accepted}

-- the last entry that begins no later than t is entry e
last_is : (words : List ℕ) (t n e : ℕ) → e < n → first_tick words e ≤ t → ((d : ℕ) → e < d → d < n → t < first_tick words d) → last_entry words t n ≡ e
unfolding last_entry
last_is words t zero e l a b = absurd (not-suc-le-zero l)
last_is words t (suc n) e l a b = go (eq-or-lt_of_le (le_of_suc-le-suc l)) (λ k. last_is words t n e k a (λ d p q. b d p (omega arith)))
  where
    go : (e ≡ n) ⊎ (e < n) → (e < n → last_entry words t n ≡ e) → cond (leb (first_tick words n) t) n (last_entry words t n) ≡ e
    go (inl q) k = let h : first_tick words n ≤ t = rw (← q) a in rw (le-leb (first_tick words n) t h) (sym q)
    go (inr q) k = rw (lt-leb (first_tick words n) t (b n q (omega arith))) (k q)

-- two ticks with one number, at both of which an entry begins, are one
one_tick : (test : ℕ → Bool) (t u : ℕ) → test t ≡ true → test u ≡ true → count t test ≡ count u test → t ≡ u
one_tick test t u p q e = go (dec_lt t u) (dec_lt u t)
  where
    go : Dec (t < u) → Dec (u < t) → t ≡ u
    go (yes l) d = absurd (omega (arith, count_lt test t u l p))
    go (no l) (yes k) = absurd (omega (arith, count_lt test u t k q))
    go (no l) (no k) = omega arith

module _ (s : List ℕ) (lane : ℕ) (rest : List ℕ) where
  abbrev words : List ℕ
  words = table_of s lane ++ rest

  word : (x : ℕ) → x < length (entries s lane (cycle_ticks s)) → get_or words (2 + x) 0 ≡ get_or (entries s lane (cycle_ticks s)) x 0
  unfolding table_of
  word x l =
      let e : 2 + x ≡ suc (suc x) = omega arith in
      ap (λ (k : ℕ). get_or words k 0) e ∙ get_or-append (entries s lane (cycle_ticks s)) rest 0 x l

  -- entry e begins at the e-th tick at which one does
  record Entry (e at : ℕ) : Type 0 where
    below : at < cycle_ticks s
    begun : begins s lane at ≡ true
    number : count at (begins s lane) ≡ e
    tick : first_tick words e ≡ at
    shows : shown_by words e ≡ shown_at s lane at

  entry_at : (t : ℕ) → t < cycle_ticks s → begins s lane t ≡ true → (j : ℕ) → j < 3
      → get_or words (2 + (3 * count t (begins s lane) + j)) 0 ≡ get_or (triple s lane t) j 0
  entry_at t l b j h =
      word (3 * count t (begins s lane) + j) (omega (arith, entries_length s lane (cycle_ticks s), count_lt (begins s lane) t (cycle_ticks s) l b))
      ∙ entry_word_holds s lane (cycle_ticks s) t j l b h

  entry_of : (t : ℕ) → t < cycle_ticks s → begins s lane t ≡ true → Entry (count t (begins s lane)) t
  unfolding first_tick shown_by triple show
  entry_of t l b =
      let n = count t (begins s lane) in
      let p : 2 + 3 * n ≡ 2 + (3 * n + 0) = omega arith in
      let q : 2 + 3 * n + 1 ≡ 2 + (3 * n + 1) = omega arith in
      let r : 2 + 3 * n + 2 ≡ 2 + (3 * n + 2) = omega arith in
      let k = ap (λ (x : ℕ). get_or words x 0) q ∙ entry_at t l b 1 (omega arith) in
      let m = ap (λ (x : ℕ). get_or words x 0) r ∙ entry_at t l b 2 (omega arith) in
      record {
        below = l;
        begun = b;
        number = refl;
        tick = ap (λ (x : ℕ). get_or words x 0) p ∙ entry_at t l b 0 (omega arith);
        shows = λ i. record { kind = k i; row = m i };
      }

  entry : (e : ℕ) → e < entry_count s lane → (t : ℕ) × Entry e t
  unfolding entry_count
  entry e l =
      let r = nth (begins s lane) (cycle_ticks s) e l in
      (r.0, subst (λ (n : ℕ). Entry n r.0) r.3 (entry_of r.0 r.1 r.2))

  later : (d e t u : ℕ) → Entry d t → Entry e u → d < e → t < u
  later d e t u a b l = go (dec_lt t u)
    where
      go : Dec (t < u) → t < u
      go (yes h) = h
      go (no h) = absurd (omega (arith, count_mono (begins s lane) u t (omega arith), a.number, b.number))

  changed : (t : ℕ) → begins s lane (suc t) ≡ true → shown_at s lane t ≢ shown_at s lane (suc t)
  unfolding begins same
  changed t e q =
      true≢false (sym e ∙ rw (q, eq-eqb (shown_at s lane (suc t)).kind (shown_at s lane (suc t)).kind refl, eq-eqb (shown_at s lane (suc t)).row (shown_at s lane (suc t)).row refl) refl)

  neighbours : (e t u : ℕ) → Entry e t → Entry (suc e) u → shown_by words e ≢ shown_by words (suc e)
  neighbours e t zero a b q = absurd (omega (arith, later e (suc e) t 0 a b (omega arith)))
  neighbours e t (suc u) a b q =
      let k = current s lane u in
      let m : k.from ≡ t = one_tick (begins s lane) k.from t k.begun a.begun (omega (arith, k.counted, a.number, b.number)) in
      changed u b.begun (sym k.shows ∙ ap (shown_at s lane) m ∙ sym a.shows ∙ q ∙ b.shows)

  ticks_word : ticks_in words ≡ cycle_ticks s
  unfolding ticks_in table_of
  ticks_word = refl

  entries_word : entries_in words ≡ entry_count s lane
  unfolding entries_in table_of
  entries_word = refl

  looked_up : (t : ℕ) → t < cycle_ticks s → look_up words t ≡ shown_at s lane t
  unfolding look_up
  looked_up t l =
      let k = current s lane t in
      let e = count k.from (begins s lane) in
      let a = entry_of k.from (omega (arith, k.from_le)) k.begun in
      let low : first_tick words e ≤ t = omega (arith, a.tick, k.from_le) in
      let last : last_entry words t (entry_count s lane) ≡ e =
      last_is words t (entry_count s lane) e (unfold entry_count in count_lt (begins s lane) k.from (cycle_ticks s) (omega (arith, k.from_le)) k.begun) low
      (λ d p q. let b = entry d q in after d b.0 p b.1 (dec_lt t b.0)) in
      ap (λ (n : ℕ). shown_by words (last_entry words t n)) entries_word ∙ ap (shown_by words) last ∙ a.shows ∙ k.shows
    where
      after : (d u : ℕ) → count (current s lane t).from (begins s lane) < d → Entry d u → Dec (t < u) → t < first_tick words d
      after d u p b (yes h) = omega (arith, b.tick)
      after d u p b (no h) =
          absurd (omega (arith, count_lt (begins s lane) u (suc t) (omega arith) b.begun, (current s lane t).counted, b.number))

  tells : 1 ≤ cycle_ticks s → Tells s lane words
  tells h =
      record {
        ticks = ticks_word;
        count = entries_word;
        looked_up = looked_up;
        first = ap (first_tick words) (sym (no_count (begins s lane))) ∙ (entry_of 0 h (begins_zero s lane)).tick;
        last = λ e l. let a = entry e l in omega (arith, a.1.tick, a.1.below);
        rise = λ e l. let a = entry e (omega arith) in let b = entry (suc e) l in omega (arith, a.1.tick, b.1.tick, later e (suc e) _ _ a.1 b.1 (omega arith));
        differ = λ e l. neighbours e _ _ (entry e (omega arith)).1 (entry (suc e) l).1;
      }

-- after a build that gives 0, the words tell what the lane shows
pub built_tells : BuiltTells
unfolding built
built_tells s lane words e =
    rw (eq-eqb (build_answer s lane words).number 0 e)
    (tells s lane (drop (length (table_of s lane)) words) (facts s (built_accepted s lane words e)).cycle)
