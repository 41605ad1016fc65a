-- Differences of counts see what a look at every tick sees: `reached` is `came`, and `came` means that there is such a tick (specs/Ticks.antt).
use Rattle.std.proofs.Common.{◌≡◌, ℕ, zero, suc, ◌+◌, ◌-◌, ◌^◌, ◌<◌, ◌≤◌, Bool, true, false, ◌&&◌, ◌||◌, eqb, leb, sym, refl, ap, ◌∙◌, true≢false, arith, eq-eqb, eqb-true, leb-false, leb-true}
use mathlib.Core.Bool.{or-true}
use Rattle.timer.specs.Registers.{wrap, minus, reached}
use Rattle.timer.specs.Ticks.{came, Comes, CameMeans, World, Follows}
use Rattle.timer.proofs.Counts.{gone_by, comes_in, comes_at}

-- ---- came means that there is such a tick

module _ (c from : ℕ) where
  further : (n : ℕ) → Comes c from n → Comes c from (suc n)
  further n k = record { tick = k.tick; later = k.later; by_then = omega (arith, k.by_then); equal = k.equal }

  pub found : (n : ℕ) → came c from n ≡ true → Comes c from n
  unfolding came
  found zero h = absurd (true≢false (sym h))
  found (suc n) h = go (came c from n) (λ e. further n (found n e)) (eqb (wrap (from + suc n)) c) refl h
    where
      go : (a : Bool) → (a ≡ true → Comes c from (suc n)) → (b : Bool) → eqb (wrap (from + suc n)) c ≡ b → a || b ≡ true → Comes c from (suc n)
      go true k b f h = k refl
      go false k true f h = record { tick = from + suc n; later = omega arith; by_then = omega arith; equal = eqb-true _ _ f }
      go false k false f h = absurd (true≢false (sym h))

  pub seen : (n : ℕ) → Comes c from n → came c from n ≡ true
  unfolding came
  seen zero k = absurd (omega (arith, k.later, k.by_then))
  seen (suc n) k = go (λ e. seen n (record { tick = k.tick; later = k.later; by_then = e; equal = k.equal })) (leb k.tick (from + n)) refl
    where
      go : (k.tick ≤ from + n → came c from n ≡ true) → (b : Bool) → leb k.tick (from + n) ≡ b
          → came c from n || eqb (wrap (from + suc n)) c ≡ true
      go h true e = rw (h (leb-true _ _ e)) refl
      go h false e =
          let l = leb-false k.tick (from + n) e in
          let t : from + suc n ≡ k.tick = omega (arith, k.by_then) in
          rw (eq-eqb (wrap (from + suc n)) c (ap wrap t ∙ k.equal)) (or-true (came c from n))

  pub never : (n : ℕ) → (Comes c from n → ⊥) → came c from n ≡ false
  never n h = go (came c from n) refl
    where
      go : (b : Bool) → came c from n ≡ b → b ≡ false
      go true e = absurd (h (found n e))
      go false e = refl

  -- ---- the ticks until the counter comes to c, from 1 to those gone by

  module _ (n : ℕ) (l : c < 2 ^ 32) (m : n < 2 ^ 32) where
    comes_after : (k : Comes c from n) → minus c (wrap from) ≡ k.tick - from
    comes_after k =
        comes_in from c (k.tick - from) l (omega (arith, k.later, k.by_then)) (ap wrap (omega (arith, k.later)) ∙ k.equal)

    pub closed : leb 1 (minus c (wrap from)) && leb (minus c (wrap from)) n ≡ came c from n
    closed = go (leb 1 (minus c (wrap from))) (leb (minus c (wrap from)) n) refl refl
      where
        go : (a b : Bool) → leb 1 (minus c (wrap from)) ≡ a → leb (minus c (wrap from)) n ≡ b → a && b ≡ came c from n
        go true true p q =
            let k = leb-true 1 (minus c (wrap from)) p in
            let j = leb-true (minus c (wrap from)) n q in
            sym (seen n (record { tick = from + minus c (wrap from); later = omega arith; by_then = omega arith; equal = comes_at from c l }))
        go true false p q =
            let j = leb-false (minus c (wrap from)) n q in
            sym (never n (λ k. let e = comes_after k in omega (arith, k.later, k.by_then)))
        go false b p q =
            let j = leb-false 1 (minus c (wrap from)) p in
            sym (never n (λ k. let e = comes_after k in omega (arith, k.later, k.by_then)))

pub came_means : CameMeans
came_means c from n = (found c from n, seen c from n)

-- a reading fewer than 2^32 ticks after the one before
pub reached_came : (w : World) → Follows w → w.ticks < w.read + 2 ^ 32
    → reached w.timer (wrap w.ticks) ≡ came w.timer.compare w.read (w.ticks - w.read)
unfolding reached
reached_came w f m =
    rw (f.count, gone_by w.read w.ticks f.past m) (closed w.timer.compare w.read (w.ticks - w.read) f.compare (omega (arith, f.past)))
