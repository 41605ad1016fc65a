-- Ranks looked at one by one: what the code's step computes, and how large its numbers get.
use Prim.Native.Nat.{ℕ, zero, suc, ◌+◌, ◌*◌, ◌≤◌, ◌<◌}
use mathlib.Core.Path.{◌≡◌, refl, sym, ap, ◌∙◌}
use mathlib.Core.Logic.{◌≢◌}
use mathlib.Core.Bool.{Bool, true, false, ◌&&◌, ◌||◌, cond}
use mathlib.Core.List.{List}
use native.Mathlib.Numerals.{add-one}
use native.Mathlib.Decide.{dec_lt}
use native.Mathlib.Omega.{arith}
use lib.ListN.{get_or}
use lib.Dec.{ltb, eqb}
use borrow.Author.Tests.{eq-eqb, ne_eqb}
use Rattle.std.specs.Prelude.{Option, Some, None, IfSome, is_some}
use Rattle.tallies.proofs.Tallying.{kept_at}
use Rattle.totals.specs.declared.Climb.{Climb}
use Rattle.drafts.specs.Drafts.{places, piece_at}
use Rattle.totals.specs.Gathers.{count_of, last_of, Gathered, job_key, climb_at, climbed}
use Rattle.totals.proofs.Gathering.{count_small, last_small}

module _ (w g : List ℕ) (k : Gathered w g places) (r : ℕ) (l : r < 2048) (c : Climb) where
  count_is : get_or g r 0 ≡ count_of w places r
  count_is = kept_at g 2048 (count_of w places) k.counts r l

  pub climb_none : get_or g r 0 ≡ 0 → Some c ≡ climb_at w r c
  unfolding climb_at
  climb_none e = rw (eq-eqb (count_of w places r) 0 (sym count_is ∙ e)) refl

  pub climb_some : get_or g r 0 ≢ 0 → (a b : ℕ) → a ≡ job_key (piece_at w c.last) → b ≡ job_key (piece_at w (get_or g (4096 + r) 0))
      → (let next : Climb = record { seen = c.seen + get_or g r 0; last = get_or g (4096 + r) 0 } in cond (eqb c.seen r && (eqb r 0 || ltb a b)) (Some next) None) ≡ climb_at w r c
  unfolding climb_at
  climb_some e a b p q =
      rw (ne_eqb (count_of w places r) 0 (λ z. e (count_is ∙ z)), p, q, k.lasts.each r l, count_is) refl

  pub count_most : get_or g r 0 ≤ 2048
  unfolding places
  count_most = let h = count_small w 2048 r in let e = count_is in omega arith

pub in_2048 : (r : ℕ) → r < places → r < 2048
unfolding places
in_2048 r l = l

some_place : 0 < places
unfolding places
some_place = omega arith

abbrev pub Small : ℕ → Climb → Type 0
Small most c = (c.last < places) × (c.seen ≤ most)

module _ (w : List ℕ) (r b : ℕ) (c : Climb) (l : c.last < places) (m : c.seen ≤ b) where
  abbrev some : Climb
  some =
      record { seen = c.seen + count_of w places r; last = last_of w places r }

  at_most : count_of w places r ≤ 2048
  unfolding places
  at_most = count_small w 2048 r

  either : (t u : Bool) → IfSome (cond t (Some c) (cond u (Some some) None)) (Small (b + 2048))
  either true u = (l, omega arith)
  either false true = (last_small w r, omega (arith, at_most))
  either false false = tt

  climb_small : IfSome (climb_at w r c) (Small (b + 2048))
  unfolding climb_at
  climb_small = either (eqb (count_of w places r) 0) (eqb c.seen r && (eqb r 0 || ltb (job_key (piece_at w c.last)) (job_key (piece_at w (last_of w places r)))))

pub climbed_small : (w : List ℕ) (n : ℕ) → IfSome (climbed w n) (Small (2048 * n))
unfolding climbed
climbed_small w zero = (some_place, omega arith)
climbed_small w (suc n) = go (climbed w n) (climbed_small w n)
  where
    wider : (o : Option Climb) → IfSome o (Small (2048 * n + 2048)) → IfSome o (Small (2048 * suc n))
    wider None h = tt
    wider (Some c) h = (h.0, omega (arith, h.1))

    go : (o : Option Climb) → IfSome o (Small (2048 * n)) → IfSome (elim o [ Some c ↦ climb_at w n c | None ↦ None ]) (Small (2048 * suc n))
    go None h = tt
    go (Some c) h = wider (climb_at w n c) (climb_small w n (2048 * n) c h.0 h.1)

pub climbed_next : (w : List ℕ) (n : ℕ) (c : Climb) → climbed w n ≡ Some c → climbed w (n + 1) ≡ climb_at w n c
unfolding climbed
climbed_next w n c e = rw (add-one, e, climbed) refl

pub climbed_none : (w : List ℕ) → climbed w 0 ≡ Some (record { seen = 0; last = 0 })
unfolding climbed
climbed_none w = refl

-- a climb that has stopped stays so
climbed_stays : (w : List ℕ) (n m : ℕ) → n ≤ m → climbed w n ≡ None → climbed w m ≡ None
unfolding climbed
climbed_stays w n zero l e = let z : n ≡ 0 = omega arith in sym (ap (climbed w) z) ∙ e
climbed_stays w n (suc m) l e = go (dec_lt n (suc m)) (λ k. climbed_stays w n m (omega arith) e)
  where
    go : Dec (n < suc m) → (n < suc m → climbed w m ≡ None) → climbed w (suc m) ≡ None
    go (yes k) h = rw (h k, climbed) refl
    go (no k) h = let z : n ≡ suc m = omega arith in sym (ap (climbed w) z) ∙ e

pub climb_stops : (w : List ℕ) (n : ℕ) (c : Climb) → n < places → climbed w n ≡ Some c → climb_at w n c ≡ None → false ≡ is_some (climbed w places)
climb_stops w n c l e d = rw (climbed_stays w (n + 1) places (omega arith) (climbed_next w n c e ∙ d)) refl
