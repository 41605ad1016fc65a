-- Windows that stand in both of two accepted plans stand in the same rows: 32 and 8 leave one order.
use Prim.Native.Nat.{ℕ, ◌+◌, ◌-◌, ◌*◌, ◌≤◌, ◌<◌}
use mathlib.Core.Path.{◌≡◌, refl, sym, ap}
use mathlib.Core.Logic.{◌⊎◌, inl, inr}
use mathlib.Core.List.{List}
use native.Mathlib.Omega.{arith}
use native.Mathlib.Decide.{dec_lt}
use Rattle.plan.specs.declared.Table.TheVariants.{Vcpus, Windows}
use Rattle.plan.specs.Image.{shape, rows, vcpu, window}
use Rattle.plan.specs.Held.{Sound}
use Rattle.plan.specs.Questions.{order_words, window_core, window_end, window_interval}
use Rattle.guests.specs.Claim.{Carries, Alike}
use Rattle.plan.proofs.Tests.{no_tick}
use Rattle.plan.proofs.Facts.{Facts, facts}
use Rattle.plan.proofs.Sounds.{accepted_sound}
use Rattle.plan.proofs.Orders.{rising}
use Rattle.guests.proofs.Places.{Rises, Among, same_place}

-- ---- the order of windows in one number: by start, then by VCPU

key : List ℕ → ℕ → ℕ
key s w = (window s w).start * 64 + (window s w).vcpu

key_rises : {Rest : Type 0} (a b c d : ℕ) → b < 64 → (a < c) ⊎ ((a ≡ c) × ((b < d) ⊎ ((b ≡ d) × Rest))) → a * 64 + b ≤ c * 64 + d
key_rises a b c d h (inl l) = omega arith
key_rises a b c d h (inr (e, inl l)) = omega arith
key_rises a b c d h (inr (e, inr q)) = omega (arith, q.0)

module _ (s : List ℕ) (h : Sound s) (f : Facts s) where
  vcpu_small : (w : ℕ) → w < rows s Windows → (window s w).vcpu < 64
  unfolding shape
  vcpu_small w l = omega (arith, f.names Windows w l, h.inside.counts Vcpus)

  keys_rise : (q r : ℕ) → q ≤ r → r < rows s Windows → key s q ≤ key s r
  unfolding key order_words
  keys_rise q r l m =
      rising (key s) (rows s Windows) (λ i b c. key_rises (window s (i - 1)).start (window s (i - 1)).vcpu (window s i).start (window s i).vcpu
      (vcpu_small (i - 1) (omega arith)) (h.order Windows i b c)) r q l m

  -- no two windows of one VCPU begin at one tick
  one_key : (q r : ℕ) → q < r → r < rows s Windows → key s q ≡ key s r → ⊥
  unfolding key window_interval window_core window_end
  one_key q r l m e =
      let a = vcpu_small q (omega arith) in let b = vcpu_small r m in
      let v : (window s q).vcpu ≡ (window s r).vcpu = omega arith in
      let st : (window s q).start ≡ (window s r).start = omega arith in
      no_tick (window_interval s q) (window_interval s r) (window s r).start (f.window_apart r m q l (ap (λ (u : ℕ). (vcpu s u).core) v))
      (omega arith, omega (arith, (f.window_fits q (omega arith)).0)) (omega arith, omega (arith, (f.window_fits r m).0))

  keys_differ : Rises (rows s Windows) (key s)
  keys_differ q r l m = go (dec_lt (key s q) (key s r))
    where
      go : Dec (key s q < key s r) → key s q < key s r
      go (yes d) = d
      go (no d) = absurd (one_key q r l m (omega (arith, keys_rise q r (omega arith) m)))

key_of : (s t : List ℕ) (w x : ℕ) → window t x ≡ window s w → key t x ≡ key s w
unfolding key
key_of s t w x e = rw e refl

pub turned : {s t : List ℕ} {v : ℕ} → Alike s t v → Alike t s v
turned h = record { plan = h.changed; changed = h.plan; cycle = sym h.cycle; precisions = sym h.precisions; there = h.back; back = h.there }

-- ---- two plans

module _ (s t : List ℕ) (v : ℕ) (h : Alike s t v) where
  keys_among : (a b : List ℕ) → Carries a b v → Among (rows a Windows) (key a) (rows b Windows) (key b)
  keys_among a b c w l = let x = c.windows w l in (x.0, x.1, key_of a b w x.0 x.2)

  -- a window stands in the same row in both
  pub same_row : (w x : ℕ) → w < rows s Windows → x < rows t Windows → window t x ≡ window s w → x ≡ w
  same_row w x l k e =
      same_place (rows s Windows) (rows t Windows) (key s) (key t) (keys_differ s (accepted_sound s h.plan) (facts s h.plan)) (keys_differ t (accepted_sound t h.changed) (facts t h.changed))
      (keys_among s t h.there) (keys_among t s h.back) w x l k (key_of s t w x e)
