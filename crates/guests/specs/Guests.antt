-- What a guest shows (paper 02, request 11): kind and row of a tick, with task and job in place of the piece's row.
use Rattle.std.specs.Prelude.{ℕ, ◌&&◌, ◌||◌, cond, List, eqb}
use Rattle.plan.specs.Image.{task, window, piece}
use Rattle.plan.specs.Dispatch.{Shown, shown_at}

pub data Sight : Type 0 where
  -- no VCPU's: the core idles, or a link sends or idles
  nothing : Sight
  -- kind 1 or 2, the VCPU, the window's row
  in_window : ℕ → ℕ → ℕ → Sight
  -- kind 3 or 4, the VCPU, the task and the job
  in_job : ℕ → ℕ → ℕ → ℕ → Sight
  -- this VCPU has the core, and no more is seen of it: what `hides` leaves
  taken : ℕ → Sight

module _ (s : List ℕ) where
  unfoldable pub sight_of : Shown → Sight
  sight_of sh =
      let p = piece s sh.row in
      cond (eqb sh.kind 1 || eqb sh.kind 2) (in_window sh.kind (window s sh.row).vcpu sh.row)
      (cond (eqb sh.kind 3 || eqb sh.kind 4) (in_job sh.kind (task s p.task).vcpu p.task p.job)
      nothing)

  -- on lane l at tick x
  unfoldable pub sight : ℕ → ℕ → Sight
  sight l x = sight_of (shown_at s l x)

-- what VCPU u shows
unfoldable pub of_guest : ℕ → Sight → Sight
of_guest u nothing = nothing
of_guest u (in_window k v w) = cond (eqb v u) (in_window k v w) nothing
of_guest u (in_job k v t j) = cond (eqb v u) (in_job k v t j) nothing
of_guest u (taken v) = cond (eqb v u) (taken v) nothing

-- what is seen by those who do not look into VCPU v: that it has the core, and its VCPU switch
unfoldable pub hides : ℕ → Sight → Sight
hides v nothing = nothing
hides v (in_window k u w) = cond (eqb u v && eqb k 2) (taken u) (in_window k u w)
hides v (in_job k u t j) = cond (eqb u v) (taken u) (in_job k u t j)
hides v (taken u) = taken u

-- windows without their rows
unfoldable pub by_kind : Sight → Sight
by_kind nothing = nothing
by_kind (in_window k u w) = in_window k u 0
by_kind (in_job k u t j) = in_job k u t j
by_kind (taken u) = taken u

-- All of the above, for a proof by computation: `unfolding seeing` opens it.
unfoldable pub seeing : Unit {0}
unfolding sight_of sight of_guest hides by_kind
seeing = tt
