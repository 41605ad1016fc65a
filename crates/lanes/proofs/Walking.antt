-- A walk along a lane: its segments show what the lane shows, and between them no entry begins.
use Prim.Native.Nat.{ℕ, zero, suc, ◌+◌, ◌-◌, ◌≤◌, ◌<◌}
use mathlib.Core.Path.{◌≡◌, refl, sym, ap, ◌∙◌}
use mathlib.Core.Bool.{true, false, not, ◌&&◌, ◌||◌, cond}
use mathlib.Core.List.{List, ◌∷◌, ◌++◌, [], append-nil}
use native.Mathlib.Omega.{arith}
use native.Mathlib.Decide.{dec_lt}
use lib.Dec.{eqb, eqb-suc-zero}
use borrow.Author.Tests.{lt-ltb, le-ltb, eq-eqb, ne_eqb}
use Rattle.plan.specs.declared.Table.TheVariants.{Cores}
use Rattle.plan.specs.Image.{rows, cycle_ticks}
use Rattle.plan.specs.Search.{count}
use Rattle.plan.specs.Dispatch.{Shown, show, same, shown_at, begins, entries}
use Rattle.plan.proofs.Counting.{count_next, count_same}
use Rattle.cursors.specs.Keeps.{Keeps}
use Rattle.stretches.specs.Stretches.{stretch_at, idle_stretch, segment_of, Ahead, Shows, Sees}
use Rattle.lanes.specs.Walks.{Reached, StepFrom}
use Rattle.stretches.specs.declared.Stretch.{Stretch}
use Rattle.stretches.specs.declared.Segment.{Segment}
use Rattle.cursors.specs.declared.Cursors.{Cursors}
use Rattle.stretches.specs.declared.View.{View}
use Rattle.lanes.specs.declared.Walk.{Walk}
use Rattle.places.specs.declared.Occupant.TheVariants.{Piece, Window, Frame}
use Rattle.cursors.proofs.Looking.{cursor_later}

-- ---- segments

-- what was known from a tick on holds from a later one on
pub further : {shown : ℕ → Shown} {t u ticks : ℕ} {r : Stretch} → t ≤ u → Ahead shown t ticks r → Ahead shown u ticks r
further l h = record { within = h.within; shows = λ x lo hi. h.shows x (omega arith) hi }

module _ (shown : ℕ → Shown) (t ticks : ℕ) (r : Stretch) (h : Shows shown t ticks r) where
  pub record Holds (g : Segment) : Type 0 where
    pub after : t < g.until
    pub inside : g.until ≤ r.until
    pub shows : (x : ℕ) → t ≤ x → x < g.until → shown x ≡ show g.kind g.row

  first_kind : (x : ℕ) → x < r.turn → stretch_at r x ≡ show r.kind r.row
  unfolding stretch_at
  first_kind x l = rw (lt-ltb _ _ l) refl

  later_kind : (x : ℕ) → r.turn ≤ x → stretch_at r x ≡ show r.later r.row
  unfolding stretch_at
  later_kind x l = rw (le-ltb _ _ l) refl

  pub segment : Holds (segment_of r t)
  unfolding segment_of
  segment = go (dec_lt t r.turn)
    where
      go : Dec (t < r.turn) → Holds (segment_of r t)
      go (yes l) =
          rw (lt-ltb t r.turn l)
          (record {
            after = omega (arith, h.after);
            inside = omega arith;
            shows = λ x lo hi. h.ahead.shows x lo (omega arith) ∙ first_kind x (omega arith);
          })
      go (no l) =
          rw (le-ltb t r.turn (omega arith))
          (record {
            after = h.after;
            inside = omega arith;
            shows = λ x lo hi. h.ahead.shows x lo hi ∙ later_kind x (omega arith);
          })

-- ---- entries

module _ (s : List ℕ) (lane : ℕ) where
  -- an entry begins at tick 0, and where what is shown differs from the tick before
  begins_by : (t : ℕ) {x y : Shown} → shown_at s lane t ≡ x → (1 ≤ t → shown_at s lane (t - 1) ≡ y) → begins s lane t ≡ eqb t 0 || not (same x y)
  unfolding begins
  begins_by zero p q = refl
  begins_by (suc t) p q =
      let e : suc t - 1 ≡ t = omega arith in
      let z = ap (shown_at s lane) e in let k = q (omega arith) in let n = eqb-suc-zero t in cc

  module _ {t : ℕ} (w : Walk) (h : StepFrom s lane t w) where
    no_entry : (x : ℕ) → suc w.from ≤ x → x < w.until → begins s lane x ≡ false
    unfolding same show
    no_entry x lo hi =
        begins_by x (h.shows x (omega arith) hi) (λ _. h.shows (x - 1) (omega arith) (omega arith))
        ∙ rw (ne_eqb x 0 (λ q. absurd (omega arith)), eq-eqb w.kind w.kind refl, eq-eqb w.row w.row refl) refl

    counted : count w.until (begins s lane) ≡ count t (begins s lane) + cond w.begins 1 0
    counted =
        count_same (begins s lane) (suc w.from) w.until h.after (λ i lo hi. no_entry i lo hi)
        ∙ count_next (begins s lane) w.from ∙ rw (h.begins, ← h.from) refl

    pub count_yes : w.begins ≡ true → count w.until (begins s lane) ≡ count t (begins s lane) + 1
    count_yes e = counted ∙ rw e refl

    pub count_no : w.begins ≡ false → count w.until (begins s lane) ≡ count t (begins s lane)
    count_no e = counted ∙ rw e (omega arith)

  entries_same : (m n : ℕ) → m ≤ n → ((i : ℕ) → m ≤ i → i < n → begins s lane i ≡ false) → entries s lane n ≡ entries s lane m
  unfolding entries
  entries_same m zero l h = let e : 0 ≡ m = omega arith in ap (entries s lane) e
  entries_same m (suc n) l h = go (dec_lt n m) (λ k. entries_same m n k (λ i p q. h i p (omega arith)))
    where
      go : Dec (n < m) → (m ≤ n → entries s lane n ≡ entries s lane m) → entries s lane (suc n) ≡ entries s lane m
      go (yes k) ih = let e : suc n ≡ m = omega arith in ap (entries s lane) e
      go (no k) ih = rw (h n (omega arith) (omega arith), append-nil) (ih (omega arith))

  entries_next : (t : ℕ) {x : Shown} → shown_at s lane t ≡ x
      → entries s lane (suc t) ≡ entries s lane t ++ cond (begins s lane t) (t ∷ x.kind ∷ x.row ∷ []) []
  unfolding entries
  entries_next t e = rw e refl

  module _ {t : ℕ} (w : Walk) (h : StepFrom s lane t w) where
    entered : entries s lane w.until ≡ entries s lane t ++ cond w.begins (w.from ∷ w.kind ∷ w.row ∷ []) []
    unfolding show
    entered =
        entries_same (suc w.from) w.until h.after (λ i lo hi. no_entry w h i lo hi)
        ∙ entries_next w.from (h.shows w.from (omega arith) h.after) ∙ rw (h.begins, ← h.from) refl

    pub entries_yes : w.begins ≡ true → entries s lane w.until ≡ entries s lane t ++ (w.from ∷ w.kind ∷ w.row ∷ [])
    entries_yes e = entered ∙ rw e refl

    pub entries_no : w.begins ≡ false → entries s lane w.until ≡ entries s lane t
    entries_no e = entered ∙ rw (e, append-nil) refl

  -- ---- a walk

  -- cursors that point to where a lane is do so later on
  keeps_later : {t u : ℕ} {k : Cursors} → t ≤ u → Keeps s lane t k → Keeps s lane u k
  keeps_later l h =
      record {
        core = λ b. let p = h.core b in (cursor_later s Piece lane l p.0, cursor_later s Window lane l p.1);
        link = λ b. cursor_later s Frame (lane - rows s Cores) l (h.link b);
      }

  pub started : (w : Walk) → w.until ≡ 0 → w.view.stretch ≡ idle_stretch 0 → Keeps s lane 0 w.view.cursors → Reached s lane w
  unfolding idle_stretch
  started w e q k =
      record {
        within = omega arith;
        last = λ l. absurd (omega arith);
        ahead = rw q (record { within = omega arith; shows = λ x lo hi. absurd (omega arith) });
        keeps = rw e k;
      }

  pub steps : (w : Walk) (v : View) (g : Segment) → Reached s lane w → Sees s lane w.until v → g ≡ segment_of v.stretch w.until
      → StepFrom s lane w.until
      (record {
        from = w.until;
        until = g.until;
        kind = g.kind;
        row = g.row;
        begins = eqb w.until 0 || not (eqb g.kind w.kind && eqb g.row w.row);
        view = v;
      })
  unfolding same show
  steps w v g d h e =
      let k : Holds (shown_at s lane) w.until (cycle_ticks s) v.stretch h.shows g = rw e (segment (shown_at s lane) w.until (cycle_ticks s) v.stretch h.shows) in
      record {
        from = refl;
        after = k.after;
        shows = k.shows;
        begins = sym (begins_by w.until (k.shows w.until (omega arith) k.after) d.last);
        reached =
            record {
              within = omega (arith, k.inside, h.shows.ahead.within);
              last = λ _. k.shows (g.until - 1) (omega (arith, k.after)) (omega (arith, k.after));
              ahead = further (omega (arith, k.after)) h.shows.ahead;
              keeps = keeps_later (omega (arith, k.after)) h.keeps;
            };
      }
