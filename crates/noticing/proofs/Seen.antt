-- A sight tells kind and, of a window, row.
use Prim.Native.Nat.{ℕ}
use mathlib.Core.Path.{◌≡◌, refl, sym, ap, ◌∙◌}
use mathlib.Core.Bool.{Bool, true, false, ◌&&◌, ◌||◌, cond, true≢false}
use mathlib.Core.List.{List}
use lib.Dec.{eqb}
use Rattle.plan.specs.declared.Piece.{Piece}
use Rattle.std.specs.Prelude.{Option}
use Rattle.std.specs.Prelude.{Some, None}
use Rattle.plan.specs.Dispatch.{Shown, show, piece_at, window_at, on_core}
use Rattle.plan.specs.Image.{task, window, piece}
use Rattle.guests.specs.Guests.{Sight, nothing, in_window, in_job, taken, sight_of, hides}
use Rattle.guests.proofs.Seen.{piece_seen, window_seen}
use Rattle.plan.proofs.Showing.{core_idle}

-- ---- the parts of a sight

-- is it of a window, of a job
of_window : Sight → Bool
of_window nothing = false
of_window (in_window k u w) = true
of_window (in_job k u t j) = false
of_window (taken u) = false

of_job : Sight → Bool
of_job nothing = false
of_job (in_window k u w) = false
of_job (in_job k u t j) = true
of_job (taken u) = false

kind_of : Sight → ℕ
kind_of nothing = 0
kind_of (in_window k u w) = k
kind_of (in_job k u t j) = k
kind_of (taken u) = 0

row_of : Sight → ℕ
row_of nothing = 0
row_of (in_window k u w) = w
row_of (in_job k u t j) = 0
row_of (taken u) = 0

module _ (s : List ℕ) (sh : Shown) where
  -- a window's sight has the shown kind and row, a job's the shown kind
  parts : (of_window (sight_of s sh) ≡ true → sh ≡ show (kind_of (sight_of s sh)) (row_of (sight_of s sh))) × (of_job (sight_of s sh) ≡ true → sh.kind ≡ kind_of (sight_of s sh))
  unfolding sight_of show of_window of_job kind_of row_of
  parts = go (eqb sh.kind 1 || eqb sh.kind 2) (eqb sh.kind 3 || eqb sh.kind 4)
    where
      p : Piece
      p = piece s sh.row

      of : Bool → Bool → Sight
      of a b = cond a (in_window sh.kind (window s sh.row).vcpu sh.row) (cond b (in_job sh.kind (task s p.task).vcpu p.task p.job) nothing)

      go : (a b : Bool) → (of_window (of a b) ≡ true → sh ≡ show (kind_of (of a b)) (row_of (of a b))) × (of_job (of a b) ≡ true → sh.kind ≡ kind_of (of a b))
      go true b = (λ _. refl, λ e. absurd (true≢false (sym e)))
      go false true = (λ e. absurd (true≢false (sym e)), λ _. refl)
      go false false = (λ e. absurd (true≢false (sym e)), λ e. absurd (true≢false (sym e)))

  pub shows_window : {k u w : ℕ} → sight_of s sh ≡ in_window k u w → sh ≡ show k w
  unfolding of_window kind_of row_of
  shows_window {k} {u} {w} e = parts.0 (ap of_window e) ∙ ap (λ (g : Sight). show (kind_of g) (row_of g)) e

  pub shows_job : {k u m j : ℕ} → sight_of s sh ≡ in_job k u m j → sh.kind ≡ k
  unfolding of_job kind_of
  shows_job e = parts.1 (ap of_job e) ∙ ap kind_of e

-- a core that shows no VCPU idles
pub shows_idle : (s : List ℕ) (c x : ℕ) → sight_of s (on_core s c x) ≡ nothing → on_core s c x ≡ show 0 0
unfolding of_window of_job
shows_idle s c x e = go (window_at s c x) (piece_at s c x) refl refl
  where
    go : (d r : Option ℕ) → window_at s c x ≡ d → piece_at s c x ≡ r → on_core s c x ≡ show 0 0
    go d (Some i) p q = absurd (true≢false (ap of_job (sym (piece_seen s c x i q) ∙ e)))
    go (Some w) None p q = absurd (true≢false (ap of_window (sym (window_seen s c x w q p) ∙ e)))
    go None None p q = core_idle s c x q p

-- ---- what is not hidden

unfoldable pub is_taken : Sight → Bool
is_taken nothing = false
is_taken (in_window k u w) = false
is_taken (in_job k u t j) = false
is_taken (taken u) = true

not_taken : (b : Bool) (u : ℕ) (g x : Sight) → cond b (taken u) g ≡ x → is_taken x ≡ false → g ≡ x
unfolding is_taken
not_taken true u g x e n = absurd (true≢false (ap is_taken e ∙ n))
not_taken false u g x e n = e

-- what is seen, unless it is that VCPU v has the core, is what is shown
pub through : (v : ℕ) (g x : Sight) → hides v g ≡ x → is_taken x ≡ false → g ≡ x
unfolding hides
through v nothing x e n = e
through v (in_window k u w) x e n = not_taken (eqb u v && eqb k 2) u (in_window k u w) x e n
through v (in_job k u t j) x e n = not_taken (eqb u v) u (in_job k u t j) x e n
through v (taken u) x e n = e
