-- What one plan shows of its VCPUs: the window found at a tick says whose it is, and a piece is shown only after that window's first ticks.
use Prim.Native.Nat.{ℕ, ◌+◌, ◌-◌, ◌≤◌, ◌<◌}
use mathlib.Core.Path.{◌≡◌, refl, sym, ap, ◌∙◌, subst}
use mathlib.Core.Bool.{Bool, true, false, cond, true≢false}
use mathlib.Core.List.{List}
use native.Mathlib.Omega.{arith}
use lib.Dec.{ltb}
use borrow.Author.Tests.{eq-eqb, lt-ltb, le-ltb}
use Rattle.plan.specs.declared.Table.TheVariants.{Cores, Windows}
use Rattle.std.specs.Prelude.{Option}
use Rattle.std.specs.Prelude.{Some, None}
use Rattle.plan.specs.Image.{rows, vcpu, task, window, piece}
use Rattle.plan.specs.Questions.{core_of, window_core, window_end, window_interval, charge, piece_core, switch_ticks}
use Rattle.plan.specs.Dispatch.{show, piece_at, window_at, frame_at, on_core, on_link}
use Rattle.guests.specs.Guests.{nothing, in_window, in_job, taken, sight_of, sight, hides}
use Rattle.plan.proofs.Facts.{Facts}
use Rattle.plan.proofs.Covering.{Covering, covers_found, found_covers}
use Rattle.plan.proofs.Showing.{core_piece, core_window, core_idle, link_frame, link_idle, link_lane}
use Rattle.plan.proofs.Shows.{piece_at_holds}

-- ---- one row is found, or none

found_one : {d : Option ℕ} {v w : ℕ} → d ≡ Some v → d ≡ Some w → v ≡ w
found_one a b = ap row_of (sym a ∙ b)
  where
    row_of : Option ℕ → ℕ
    row_of (Some i) = i
    row_of None = 0

pub not_both : {d : Option ℕ} {w : ℕ} → d ≡ Some w → d ≡ None → ⊥
not_both a b = true≢false (ap some (sym a ∙ b))
  where
    some : Option ℕ → Bool
    some (Some i) = true
    some None = false

-- ---- what is seen

module _ (s : List ℕ) where
  pub piece_seen : (c x i : ℕ) → piece_at s c x ≡ Some i
      → let p = piece s i in sight_of s (on_core s c x) ≡ in_job (cond (ltb x (p.start + switch_ticks s p.task)) 3 4) (task s p.task).vcpu p.task p.job
  unfolding sight_of show
  piece_seen c x i e = rw (core_piece s c x i e) (go (ltb x ((piece s i).start + switch_ticks s (piece s i).task)))
    where
      go : (b : Bool) → sight_of s (cond b (show 3 i) (show 4 i)) ≡ in_job (cond b 3 4) (task s (piece s i).task).vcpu (piece s i).task (piece s i).job
      go true = refl
      go false = refl

  pub window_seen : (c x w : ℕ) → piece_at s c x ≡ None → window_at s c x ≡ Some w
      → sight_of s (on_core s c x) ≡ in_window (cond (ltb x ((window s w).start + charge s w)) 1 2) (window s w).vcpu w
  unfolding sight_of show
  window_seen c x w e d = rw (core_window s c x w e d) (go (ltb x ((window s w).start + charge s w)))
    where
      go : (b : Bool) → sight_of s (cond b (show 1 w) (show 2 w)) ≡ in_window (cond b 1 2) (window s w).vcpu w
      go true = refl
      go false = refl

  -- a link shows no VCPU
  pub link_seen : (l x : ℕ) → rows s Cores ≤ l → sight s l x ≡ nothing
  unfolding sight sight_of show
  link_seen l x h = rw (link_lane s {l = l} x h) (go (frame_at s (l - rows s Cores) x) refl)
    where
      go : (d : Option ℕ) → frame_at s (l - rows s Cores) x ≡ d → sight_of s (on_link s (l - rows s Cores) x) ≡ nothing
      go (Some f) e = rw (link_frame s (l - rows s Cores) x f e) refl
      go None e = rw (link_idle s (l - rows s Cores) x e) refl

module _ (s : List ℕ) (f : Facts s) where
  -- window w covers tick x of core c
  abbrev pub Within : ℕ → ℕ → ℕ → Type 0
  Within c x w = Covering (rows s Windows) (window_core s) (λ w. (window s w).start) (window_end s) c x w

  pub window_at_holds : (c x w : ℕ) → window_at s c x ≡ Some w → Within c x w
  unfolding window_at
  window_at_holds c x w e = found_covers (rows s Windows) (window_core s) (λ w. (window s w).start) (window_end s) c x w e

  pub window_found : {c x w : ℕ} → Within c x w → window_at s c x ≡ Some w
  unfolding window_at window_interval
  window_found h = covers_found (rows s Windows) (window_core s) (λ w. (window s w).start) (window_end s) f.window_apart h

  -- a piece found lies in the window found, which is of its VCPU, after that window's first ticks
  pub record Around (c x i : ℕ) : Type 0 where
    pub w : ℕ
    pub at : window_at s c x ≡ Some w
    pub owner : (window s w).vcpu ≡ (task s (piece s i).task).vcpu
    pub later : (window s w).start + charge s w ≤ x

  pub around : (c x i : ℕ) → piece_at s c x ≡ Some i → Around c x i
  unfolding window_core piece_core core_of
  around c x i e =
      let h = piece_at_holds s f c x i e in
      let q = f.piece_inside i h.row in
      record {
        w = q.0;
        at = window_found
            (record {
              row = q.1;
              at_place = ap (λ (r : ℕ). (vcpu s r).core) q.2 ∙ h.at_place;
              low = omega (arith, q.3, h.low);
              high = omega (arith, q.4, h.high);
            });
        owner = q.2;
        later = omega (arith, q.3, h.low);
      }

  -- where no window is, nothing is shown
  pub outside_seen : (c x : ℕ) → window_at s c x ≡ None → sight_of s (on_core s c x) ≡ nothing
  unfolding sight_of show
  outside_seen c x e = go (piece_at s c x) refl
    where
      go : (d : Option ℕ) → piece_at s c x ≡ d → sight_of s (on_core s c x) ≡ nothing
      go (Some i) p = absurd (not_both (around c x i p).at e)
      go None p = rw (core_idle s c x p e) refl

  module _ (c x w : ℕ) (e : window_at s c x ≡ Some w) where
    pub owner : (i : ℕ) → piece_at s c x ≡ Some i → (task s (piece s i).task).vcpu ≡ (window s w).vcpu
    owner i p = let a = around c x i p in sym a.owner ∙ ap (λ (y : ℕ). (window s y).vcpu) (found_one a.at e)

    later : (i : ℕ) → piece_at s c x ≡ Some i → (window s w).start + charge s w ≤ x
    later i p = let a = around c x i p in subst (λ (y : ℕ). (window s y).start + charge s y ≤ x) (found_one a.at e) a.later

    -- in a window's first ticks its VCPU switch is shown
    pub switch_seen : x < (window s w).start + charge s w → sight_of s (on_core s c x) ≡ in_window 1 (window s w).vcpu w
    switch_seen l = go (piece_at s c x) refl
      where
        go : (d : Option ℕ) → piece_at s c x ≡ d → sight_of s (on_core s c x) ≡ in_window 1 (window s w).vcpu w
        go (Some i) p = absurd (omega (arith, later i p))
        go None p = window_seen s c x w p e ∙ rw (lt-ltb x ((window s w).start + charge s w) l) refl

    -- after them, by those who do not look into its VCPU, that it has the core
    pub taken_seen : (window s w).start + charge s w ≤ x → hides (window s w).vcpu (sight_of s (on_core s c x)) ≡ taken (window s w).vcpu
    unfolding hides
    taken_seen l = go (piece_at s c x) refl
      where
        go : (d : Option ℕ) → piece_at s c x ≡ d → hides (window s w).vcpu (sight_of s (on_core s c x)) ≡ taken (window s w).vcpu
        go (Some i) p = rw (piece_seen s c x i p, owner i p, eq-eqb (window s w).vcpu (window s w).vcpu refl) refl
        go None p = rw (window_seen s c x w p e, le-ltb x ((window s w).start + charge s w) l, eq-eqb (window s w).vcpu (window s w).vcpu refl) refl
