-- The row that covers a tick of a place, a core or a link: where the rows of one place are apart, it is the one that is found.
use Prim.Native.Nat.{ℕ, ◌≤◌, ◌<◌}
use mathlib.Core.Path.{◌≡◌, refl, sym, ◌∙◌}
use mathlib.Core.Bool.{Bool, true, ◌&&◌}
use native.Mathlib.Omega.{arith}
use lib.Dec.{leb, ltb, eqb}
use borrow.Author.Tests.{eqb-true, eq-eqb, ltb-true, leb-true, lt-ltb, le-leb}
use Rattle.std.specs.Prelude.{Some}
use Rattle.plan.specs.Search.{first, Interval}
use Rattle.plan.specs.Reading.{Apart}
use Rattle.plan.proofs.Searching.{and_true, first_at, first_is}
use Rattle.plan.proofs.Tests.{no_tick}

module _ (n : ℕ) (place from to : ℕ → ℕ) where
  -- row i covers tick x of place c
  abbrev pub Covers : ℕ → ℕ → ℕ → Bool
  Covers c x i = eqb (place i) c && leb (from i) x && ltb x (to i)

  pub record Covering (c x i : ℕ) : Type 0 where
    pub row : i < n
    pub at_place : place i ≡ c
    pub low : from i ≤ x
    pub high : x < to i

  covers_in : (c x i : ℕ) → i < n → Covers c x i ≡ true → Covering c x i
  covers_in c x i l e =
      let p = and_true (eqb (place i) c && leb (from i) x) (ltb x (to i)) e in
      let q = and_true (eqb (place i) c) (leb (from i) x) p.0 in
      record { row = l; at_place = eqb-true _ _ q.0; low = leb-true _ _ q.1; high = ltb-true _ _ p.1 }

  in_covers : {c x i : ℕ} → Covering c x i → Covers c x i ≡ true
  in_covers {c} {x} {i} h = rw (eq-eqb (place i) c h.at_place, le-leb (from i) x h.low, lt-ltb x (to i) h.high) refl

  pub found_covers : (c x i : ℕ) → first n (Covers c x) ≡ Some i → Covering c x i
  found_covers c x i e = let p = first_at (Covers c x) n i e in covers_in c x i p.0 p.1

  abbrev Ticks : ℕ → Interval
  Ticks i = record { from = from i; to = to i }

  module _ (clear : (i : ℕ) → i < n → (j : ℕ) → j < i → place j ≡ place i → Apart (Ticks j) (Ticks i)) where
    -- two rows of one place never cover one tick
    pub covers_apart : {c x i j : ℕ} → j < i → Covering c x j → Covering c x i → ⊥
    covers_apart {c} {x} {i} {j} l a b = no_tick (Ticks j) (Ticks i) x (clear i b.row j l (a.at_place ∙ sym b.at_place)) (a.low, a.high) (b.low, b.high)

    pub covers_found : {c x i : ℕ} → Covering c x i → first n (Covers c x) ≡ Some i
    covers_found {c} {x} {i} h = first_is (Covers c x) n i h.row (in_covers h) (λ j l e. covers_apart l (covers_in c x j (omega (arith, h.row)) e) h)
