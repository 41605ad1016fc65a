-- One VCPU whose rows stand in both of two plans: its windows pay the same charge, and what is shown of it at a tick is the same, its windows' rows aside.
use Prim.Native.Nat.{ℕ, ◌+◌, ◌<◌}
use mathlib.Core.Path.{◌≡◌, refl, sym, ap, ◌∙◌, subst}
use mathlib.Core.Logic.{◌⊎◌, inl, inr, ◌≢◌}
use mathlib.Core.Bool.{true, not, ◌&&◌, cond}
use mathlib.Core.List.{List}
use native.Mathlib.Omega.{arith}
use lib.Dec.{ltb, eqb}
use borrow.Author.Tests.{eqb-true, eq-eqb, ne_eqb}
use Rattle.plan.specs.declared.Table.TheVariants.{Vcpus, Tasks, Windows, Pieces}
use Rattle.plan.specs.declared.Piece.{Piece}
use Rattle.plan.specs.declared.Window.{Window}
use Rattle.std.specs.Prelude.{Option}
use Rattle.std.specs.Prelude.{Some, None}
use Rattle.plan.specs.Image.{rows, core, vcpu, task, window, piece}
use Rattle.plan.specs.Search.{any}
use Rattle.plan.specs.Questions.{core_of, window_core, window_end, keeps_from, keeps_core, charge, piece_core, piece_end, switch_ticks}
use Rattle.plan.specs.Dispatch.{piece_at, window_at, on_core}
use Rattle.guests.specs.Guests.{in_window, sight_of}
use Rattle.guests.specs.Claim.{HasGuest}
use Rattle.plan.proofs.Searching.{and_true}
use Rattle.plan.proofs.Tests.{any_row, row_any}
use Rattle.plan.proofs.Facts.{Facts}
use Rattle.plan.proofs.Shows.{Inside, found, piece_at_holds, bool_eq}
use Rattle.guests.proofs.Seen.{not_both, window_at_holds, window_found, piece_seen, window_seen, owner}

-- ---- windows

-- the windows of VCPU u, on a core whose switches take as long
pub record HasWindows (s t : List ℕ) (u : ℕ) : Type 0 where
  pub core_kept : u < rows s Vcpus → let c = (vcpu s u).core in ((vcpu t u).core ≡ c) × ((core t c).v ≡ (core s c).v)
  pub windows : (w : ℕ) → w < rows s Windows → (window s w).vcpu ≡ u → (x : ℕ) × (x < rows t Windows) × (window t x ≡ window s w)

pub guest_windows : {s t : List ℕ} {u : ℕ} → HasGuest s t u → HasWindows s t u
guest_windows a = record { core_kept = λ h. let c = a.core_kept h in (c.0, c.2); windows = a.windows }

module _ (s t : List ℕ) (f : Facts s) (u : ℕ) (a : HasWindows s t u) (w x : ℕ) (hw : w < rows s Windows) (e : window t x ≡ window s w) (o : (window s w).vcpu ≡ u) where
  kept : let c = (vcpu s (window s w).vcpu).core in ((vcpu t (window s w).vcpu).core ≡ c) × ((core t c).v ≡ (core s c).v)
  kept = rw o (a.core_kept (subst (λ (r : ℕ). r < rows s Vcpus) o (f.names Windows w hw)))

  same_core : window_core t x ≡ window_core s w
  unfolding window_core vcpu
  same_core = rw e kept.0

  same_end : window_end t x ≡ window_end s w
  unfolding window_end
  same_end = rw e refl

  same_switch : (core t (window_core t x)).v ≡ (core s (window_core s w)).v
  unfolding window_core
  same_switch = ap (λ (r : ℕ). (core t r).v) (ap (λ (z : Window). (vcpu t z.vcpu).core) e ∙ kept.0) ∙ kept.1

  -- the window before it stands in t too, and is another row there: one that begins where it ends would be empty
  keeps_from_holds : (y : ℕ) → y < rows s Windows → (window s y).vcpu ≡ (window s w).vcpu → window_end s y ≡ (window s w).start → any (rows t Windows) (keeps_from t x) ≡ true
  unfolding keeps_from window_end
  keeps_from_holds y l v n =
      let z = a.windows y l (v ∙ o) in
      row_any (keeps_from t x) (rows t Windows) z.0 z.1 (rw (z.2, e, eq-eqb _ _ v, eq-eqb _ _ n, ne_eqb z.0 x (other z.0 z.2)) refl)
    where
      other : (z : ℕ) → window t z ≡ window s y → z ≢ x
      other z d q =
          let c : window s y ≡ window s w = sym d ∙ ap (window t) q ∙ e in
          omega (arith, (f.window_fits w hw).0, ap (λ (m : Window). m.start) c, ap (λ (m : Window). m.length) c)

  keeps : keeps_core s w ≡ true → keeps_core t x ≡ true
  unfolding keeps_core keeps_from
  keeps k =
      let p = and_true (ltb 0 (window s w).start) (any (rows s Windows) (keeps_from s w)) k in
      let y = any_row (keeps_from s w) (rows s Windows) p.1 in
      let q = and_true (not (eqb y.0 w) && eqb (window s y.0).vcpu (window s w).vcpu) (eqb (window_end s y.0) (window s w).start) y.2 in
      let r = and_true (not (eqb y.0 w)) (eqb (window s y.0).vcpu (window s w).vcpu) q.0 in
      rw (keeps_from_holds y.0 y.1 (eqb-true _ _ r.1) (eqb-true _ _ q.1), e, p.0) refl

module _ (s t : List ℕ) (f : Facts s) (g : Facts t) (u : ℕ) (a : HasWindows s t u) (b : HasWindows t s u) where
  pub same_charge : (w x : ℕ) → w < rows s Windows → x < rows t Windows → window t x ≡ window s w → (window s w).vcpu ≡ u → charge t x ≡ charge s w
  unfolding charge
  same_charge w x hw hx e o =
      rw (
        bool_eq (keeps_core t x) (keeps_core s w) (keeps t s g u b x w hx (sym e) (ap (λ (z : Window). z.vcpu) e ∙ o)) (keeps s t f u a w x hw e o),
        same_switch s t f u a w x hw e o,
      )
      refl

  -- the window found in s is found in t
  pub record There (c x w : ℕ) : Type 0 where
    pub y : ℕ
    pub at : window_at t c x ≡ Some y
    pub same : window t y ≡ window s w
    pub charged : charge t y ≡ charge s w

  pub window_there : (c x w : ℕ) → window_at s c x ≡ Some w → (window s w).vcpu ≡ u → There c x w
  window_there c x w e o =
      let h = window_at_holds s f c x w e in
      let z = a.windows w h.row o in
      record {
        y = z.0;
        at = window_found t g
            (record {
              row = z.1;
              at_place = same_core s t f u a w z.0 h.row z.2 o ∙ h.at_place;
              low = rw z.2 h.low;
              high = rw (same_end s t f u a w z.0 h.row z.2 o) h.high;
            });
        same = z.2;
        charged = same_charge w z.0 h.row z.1 z.2 o;
      }

-- ---- pieces

-- a piece of VCPU u that s shows, t shows too
module _ (s t : List ℕ) (f : Facts s) (g : Facts t) (u : ℕ) (a : HasGuest s t u) (c x i : ℕ) (p : piece_at s c x ≡ Some i) (o : (task s (piece s i).task).vcpu ≡ u) where
  inside : Inside s f c x i
  inside = piece_at_holds s f c x i p

  abbrev k : ℕ
  k = (piece s i).task

  same_task : task t k ≡ task s k
  same_task = (a.tasks k (f.names Pieces i inside.row) o).1

  core_kept : let n = core_of s k in (core_of t k ≡ n) × ((core t n).d ≡ (core s n).d)
  unfolding core_of vcpu core
  core_kept =
      let h = a.core_kept (subst (λ (r : ℕ). r < rows s Vcpus) o (f.names Tasks k (f.names Pieces i inside.row))) in
      rw (same_task, o) (h.0, h.1)

  same_ticks : switch_ticks t k ≡ switch_ticks s k
  unfolding switch_ticks
  same_ticks = ap (λ (n : ℕ). (core t n).d) core_kept.0 ∙ core_kept.1

  abbrev stands : (j : ℕ) × (j < rows t Pieces) × (piece t j ≡ piece s i)
  stands = a.pieces i inside.row o

  pub piece_there : (j : ℕ) × (piece_at t c x ≡ Some j) × (sight_of s (on_core s c x) ≡ sight_of t (on_core t c x))
  unfolding piece_core piece_end
  piece_there =
      let z = stands in
      let q = found t g {c = c} {x = x}
      (record {
        row = z.1;
        at_place = ap (λ (y : Piece). core_of t y.task) z.2 ∙ core_kept.0 ∙ inside.at_place;
        low = rw z.2 inside.low;
        high = rw z.2 inside.high;
      }) in
      (z.0, q, piece_seen s c x i p ∙ sym (piece_seen t c x z.0 q ∙ rw (z.2, same_ticks, same_task) refl))

-- ---- so what is shown in a window of VCPU u

module _ (s t : List ℕ) (f : Facts s) (g : Facts t) (u : ℕ) (a : HasGuest s t u) (b : HasGuest t s u) (c x w : ℕ) (e : window_at s c x ≡ Some w) (o : (window s w).vcpu ≡ u) where
  pub there : There s t f g u (guest_windows a) (guest_windows b) c x w
  there = window_there s t f g u (guest_windows a) (guest_windows b) c x w e o

  abbrev pub Same : Type 0
  Same = (sight_of s (on_core s c x) ≡ sight_of t (on_core t c x))
      ⊎ ((k : ℕ) × (sight_of s (on_core s c x) ≡ in_window k u w) × (sight_of t (on_core t c x) ≡ in_window k u there.y))

  owner_there : (window t there.y).vcpu ≡ u
  owner_there = ap (λ (z : Window). z.vcpu) there.same ∙ o

  -- the same sight, or the same kind in that window
  pub shown_there : Same
  shown_there = go (piece_at s c x) (piece_at t c x) refl refl
    where
      go : (d r : Option ℕ) → piece_at s c x ≡ d → piece_at t c x ≡ r → Same
      go (Some i) r p q = inl (piece_there s t f g u a c x i p (owner s f c x w e i p ∙ o)).2
      go None (Some j) p q = absurd (not_both (piece_there t s g f u b c x j q (owner t g c x there.y there.at j q ∙ owner_there)).1 p)
      go None None p q =
          inr (
            cond (ltb x ((window s w).start + charge s w)) 1 2,
            window_seen s c x w p e ∙ rw o refl,
            window_seen t c x there.y q there.at ∙ rw (there.same, there.charged, o) refl,
          )
