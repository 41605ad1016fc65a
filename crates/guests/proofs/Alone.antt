-- What a guest shows hangs on its own rows alone.
use Prim.Native.Nat.{ℕ, ◌<◌}
use mathlib.Core.Path.{◌≡◌, refl, sym, ap, ◌∙◌, subst}
use mathlib.Core.Logic.{◌⊎◌, inl, inr, ◌≢◌}
use mathlib.Core.Bool.{Bool, true, false}
use mathlib.Core.List.{List}
use native.Mathlib.Omega.{arith}
use native.Mathlib.Decide.{dec_lt}
use lib.Dec.{eqb}
use borrow.Author.Tests.{eqb-true, eqb-false, ne_eqb}
use Rattle.plan.specs.declared.Table.TheVariants.{Cores, Vcpus, Windows}
use Rattle.std.specs.Prelude.{Option}
use Rattle.std.specs.Prelude.{Some, None}
use Rattle.plan.specs.Image.{rows, window}
use Rattle.plan.specs.Questions.{window_core}
use Rattle.plan.specs.Dispatch.{piece_at, window_at, on_core}
use Rattle.guests.specs.Guests.{nothing, sight_of, sight, of_guest, by_kind}
use Rattle.guests.specs.Claim.{HasGuest, GuestAlone}
use Rattle.plan.proofs.Facts.{Facts, facts}
use Rattle.plan.proofs.Showing.{core_lane}
use Rattle.guests.proofs.Seen.{window_at_holds, piece_seen, window_seen, owner, link_seen, outside_seen}
use Rattle.guests.proofs.Guest.{There, there, guest_windows, Same, shown_there}

module _ (s : List ℕ) (f : Facts s) (u : ℕ) where
  -- a core that has a window is a core
  window_lane : (c x w : ℕ) → window_at s c x ≡ Some w → c < rows s Cores
  unfolding window_core
  window_lane c x w e = let h = window_at_holds s f c x w e in subst (λ (r : ℕ). r < rows s Cores) h.at_place (f.names Vcpus _ (f.names Windows w h.row))

  -- outside its windows a VCPU shows nothing
  elsewhere : (c x w : ℕ) → window_at s c x ≡ Some w → (window s w).vcpu ≢ u → of_guest u (by_kind (sight_of s (on_core s c x))) ≡ nothing
  unfolding of_guest by_kind
  elsewhere c x w e n = go (piece_at s c x) refl
    where
      go : (d : Option ℕ) → piece_at s c x ≡ d → of_guest u (by_kind (sight_of s (on_core s c x))) ≡ nothing
      go (Some i) p = rw (piece_seen s c x i p, owner s f c x w e i p, ne_eqb (window s w).vcpu u n) refl
      go None p = rw (window_seen s c x w p e, ne_eqb (window s w).vcpu u n) refl

  owned : (l x : ℕ) → ((w : ℕ) × (window_at s l x ≡ Some w) × ((window s w).vcpu ≡ u)) ⊎ (of_guest u (by_kind (sight s l x)) ≡ nothing)
  unfolding sight of_guest by_kind
  owned l x = go (dec_lt l (rows s Cores)) (window_at s l x) refl
    where
      whose : (w : ℕ) → window_at s l x ≡ Some w → l < rows s Cores → (b : Bool) → eqb (window s w).vcpu u ≡ b
          → ((w : ℕ) × (window_at s l x ≡ Some w) × ((window s w).vcpu ≡ u)) ⊎ (of_guest u (by_kind (sight s l x)) ≡ nothing)
      whose w e h true d = inl (w, e, eqb-true _ _ d)
      whose w e h false d = inr (rw (core_lane s {l = l} x h) (elsewhere l x w e (eqb-false _ _ d)))

      go : Dec (l < rows s Cores) → (d : Option ℕ) → window_at s l x ≡ d
          → ((w : ℕ) × (window_at s l x ≡ Some w) × ((window s w).vcpu ≡ u)) ⊎ (of_guest u (by_kind (sight s l x)) ≡ nothing)
      go (yes h) (Some w) e = whose w e h (eqb (window s w).vcpu u) refl
      go (yes h) None e = inr (rw (core_lane s {l = l} x h, outside_seen s f l x e) refl)
      go (no h) d e = inr (rw (link_seen s l x (omega arith)) refl)

module _ (s t : List ℕ) (f : Facts s) (g : Facts t) (u : ℕ) (a : HasGuest s t u) (b : HasGuest t s u) (l x w : ℕ) (e : window_at s l x ≡ Some w) (o : (window s w).vcpu ≡ u) where
  -- what s shows in a window of VCPU u, t shows
  in_window_holds : by_kind (sight s l x) ≡ by_kind (sight t l x)
  unfolding by_kind sight
  in_window_holds =
      rw (core_lane s {l = l} x (window_lane s f u l x w e), core_lane t {l = l} x (window_lane t g u l x y.y y.at)) (go (shown_there s t f g u a b l x w e o))
    where
      y : There s t f g u (guest_windows a) (guest_windows b) l x w
      y = there s t f g u a b l x w e o

      go : Same s t f g u a b l x w e o → by_kind (sight_of s (on_core s l x)) ≡ by_kind (sight_of t (on_core t l x))
      go (inl k) = ap by_kind k
      go (inr k) = rw (k.1, k.2) refl

pub guest_alone : GuestAlone
guest_alone s t u p q a b l x = go (owned s f u l x) (owned t g u l x)
  where
    f : Facts s
    f = facts s p

    g : Facts t
    g = facts t q

    go : ((w : ℕ) × (window_at s l x ≡ Some w) × ((window s w).vcpu ≡ u)) ⊎ (of_guest u (by_kind (sight s l x)) ≡ nothing)
        → ((w : ℕ) × (window_at t l x ≡ Some w) × ((window t w).vcpu ≡ u)) ⊎ (of_guest u (by_kind (sight t l x)) ≡ nothing)
        → of_guest u (by_kind (sight s l x)) ≡ of_guest u (by_kind (sight t l x))
    go (inl k) r = ap (of_guest u) (in_window_holds s t f g u a b l x k.0 k.1 k.2)
    go (inr d) (inl k) = ap (of_guest u) (sym (in_window_holds t s g f u b a l x k.0 k.1 k.2))
    go (inr d) (inr k) = d ∙ sym k
