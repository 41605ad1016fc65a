-- A guest must not notice what is changed in another (paper 02, request 11): two plans that differ in one VCPU's tasks and pieces.
use Rattle.std.specs.Prelude.{ℕ, ◌+◌, ◌*◌, ◌%◌, ◌≤◌, ◌<◌, ◌≡◌, ◌≢◌, List, get_or}
use Rattle.plan.specs.declared.Table.{Table}
use Rattle.plan.specs.declared.Table.TheVariants.{Cores, Vcpus, Tasks, Windows, Pieces}
use Rattle.plan.specs.declared.LaneState.{LaneState}
use Rattle.plan.specs.Image.{cycle_ticks, precision, rows, core, vcpu, task, window, piece}
use Rattle.plan.specs.Questions.{answer_of, accepted}
use Rattle.plan.specs.Dispatch.{Shown, show}
use Rattle.plan.specs.Runs.{Call, seen, moved_by, Ready, Named, InBounds, RunHolds}
use Rattle.guests.specs.Guests.{Sight, sight_of, sight, of_guest, hides, by_kind}

-- ---- the premises

-- What plan s has stands in plan t, but for the tasks and pieces of VCPU v: cores, VCPUs and tasks in the same row, windows and pieces in any.
-- (No window and no piece stands twice in an accepted plan, so none has to be counted.)
pub record Carries (s t : List ℕ) (v : ℕ) : Type 0 where
  pub cores : (r : ℕ) → r < rows s Cores → (r < rows t Cores) × (core t r ≡ core s r)
  pub vcpus : (r : ℕ) → r < rows s Vcpus → (r < rows t Vcpus) × (vcpu t r ≡ vcpu s r)
  pub windows : (w : ℕ) → w < rows s Windows → (x : ℕ) × (x < rows t Windows) × (window t x ≡ window s w)
  pub tasks : (k : ℕ) → k < rows s Tasks → (task s k).vcpu ≢ v → (k < rows t Tasks) × (task t k ≡ task s k)
  pub pieces : (i : ℕ) → i < rows s Pieces → (task s (piece s i).task).vcpu ≢ v → (j : ℕ) × (j < rows t Pieces) × (piece t j ≡ piece s i)

-- Two accepted plans, equal but for the tasks and pieces of VCPU v. Links, streams, frames, buffers and chains are not asked about.
pub record Alike (s t : List ℕ) (v : ℕ) : Type 0 where
  pub plan : answer_of s ≡ accepted
  pub changed : answer_of t ≡ accepted
  pub cycle : cycle_ticks s ≡ cycle_ticks t
  pub precisions : precision s ≡ precision t
  pub there : Carries s t v
  pub back : Carries t s v

-- ---- a run of a plan

-- what it starts from, the delays of its frames, its calls
pub record Run (s : List ℕ) : Type 0 where
  pub words : List ℕ
  pub row : List LaneState
  pub cycle : ℕ
  pub ready : Ready s words row cycle
  pub delay : ℕ → ℕ → ℕ
  pub bounds : InBounds s delay
  pub calls : List Call
  pub named : Named s calls

module _ {s : List ℕ} (a : Run s) where
  -- how often lane l has moved, and what its i-th move shows
  abbrev pub moves : ℕ → ℕ
  moves l = moved_by s a.words a.row a.cycle a.calls l

  abbrev pub shows : ℕ → ℕ → Shown
  shows l i = get_or (seen a.words a.row a.calls l) i (show 0 0)

  -- the ticks at its i-th move, by each node's clock
  abbrev pub ticks : ℕ → ℕ
  ticks i = a.cycle * cycle_ticks s + i

  -- demand 3 holds of it, node n's clock being `ahead n` ticks ahead
  abbrev pub Holds : (ℕ → ℕ) → Type 0
  Holds ahead = RunHolds s a.words a.row a.cycle ahead a.delay a.calls

-- ---- the claim

-- two sights that are the same to all but VCPU v
pub record SameBut (v : ℕ) (g h : Sight) : Type 0 where
  -- every other VCPU shows the same
  pub others : (u : ℕ) → u ≢ v → of_guest u g ≡ of_guest u h
  -- and more, from which it follows: the core idles in both or in neither, VCPU v has it in both or in neither, and its VCPU switch is the same
  pub beside : hides v g ≡ hides v h

-- two runs under the same clocks
pub record RunsUnnoticed (s t : List ℕ) (v : ℕ) (a : Run s) (b : Run t) (ahead : ℕ → ℕ) : Type 0 where
  pub holds : Holds a ahead × Holds b ahead
  -- in the same tick of a cycle a core's lane shows the same to all but VCPU v
  pub shown : (l i j : ℕ) → l < rows s Cores → i < moves a l → j < moves b l → i % cycle_ticks s ≡ j % cycle_ticks t
      → SameBut v (sight_of s (shows a l i)) (sight_of t (shows b l j))
  -- Moves at the same ticks by its node's clock are in the same tick of a cycle, and at the same true time: ticks less those that the clock is ahead, and as true
  -- time may be below 0 these stand on the other side.
  pub moment : (l i j : ℕ) → l < rows s Cores → ticks a i ≡ ticks b j
      → (i % cycle_ticks s ≡ j % cycle_ticks t) × (ticks a i + ahead (core t l).node ≡ ticks b j + ahead (core s l).node)

-- at every tick, on every lane; and in any two runs, by all clocks within the precision
pub record Unnoticed (s t : List ℕ) (v : ℕ) : Type 0 where
  pub at_ticks : (l x : ℕ) → SameBut v (sight s l x) (sight t l x)
  pub in_runs : (a : Run s) (b : Run t) (ahead : ℕ → ℕ) → ((n : ℕ) → ahead n ≤ precision s) → RunsUnnoticed s t v a b ahead

-- proved in proofs/Unnoticed.antt
abbrev pub GuestsUnnoticed : Type 0
GuestsUnnoticed = (s t : List ℕ) (v : ℕ) → Alike s t v → Unnoticed s t v

-- ---- one guest alone

-- What plan s has of VCPU u stands in plan t: its core, with the same d and v, its tasks by number, its windows and pieces in any row.
pub record HasGuest (s t : List ℕ) (u : ℕ) : Type 0 where
  pub core_kept : u < rows s Vcpus → let c = (vcpu s u).core in ((vcpu t u).core ≡ c) × ((core t c).d ≡ (core s c).d) × ((core t c).v ≡ (core s c).v)
  pub windows : (w : ℕ) → w < rows s Windows → (window s w).vcpu ≡ u → (x : ℕ) × (x < rows t Windows) × (window t x ≡ window s w)
  pub tasks : (k : ℕ) → k < rows s Tasks → (task s k).vcpu ≡ u → (k < rows t Tasks) × (task t k ≡ task s k)
  pub pieces : (i : ℕ) → i < rows s Pieces → (task s (piece s i).task).vcpu ≡ u → (j : ℕ) × (j < rows t Pieces) × (piece t j ≡ piece s i)

-- What a guest shows hangs on its own rows alone: more than the request asks, since any number of other VCPUs may change, and their windows too. These may shift
-- the rows of its windows, which are left out here. Proved in proofs/Alone.antt.
abbrev pub GuestAlone : Type 0
GuestAlone =
    (s t : List ℕ) (u : ℕ) → answer_of s ≡ accepted → answer_of t ≡ accepted → HasGuest s t u → HasGuest t s u
    → (l x : ℕ) → of_guest u (by_kind (sight s l x)) ≡ of_guest u (by_kind (sight t l x))

-- ---- the premises can be met; proved in proofs/Witness.antt

-- They ask nothing of tables 6 to 10: accepted plans with equal H and P and equal rows in tables 1 to 5 meet them.
abbrev pub EqualRows : {Row : Type 0} → List ℕ → List ℕ → Table → (List ℕ → ℕ → Row) → Type 0
EqualRows s t table row = (rows s table ≡ rows t table) × ((r : ℕ) → r < rows s table → row t r ≡ row s r)

abbrev pub OthersFree : Type 0
OthersFree =
    (s t : List ℕ) (v : ℕ) → answer_of s ≡ accepted → answer_of t ≡ accepted → cycle_ticks s ≡ cycle_ticks t → precision s ≡ precision t
    → EqualRows s t Cores core → EqualRows s t Vcpus vcpu → EqualRows s t Tasks task → EqualRows s t Windows window → EqualRows s t Pieces piece
    → Alike s t v

-- And there are two plans that meet them, of which VCPU v shows something else at some tick.
abbrev pub NotEmpty : Type 0
NotEmpty = (s : List ℕ) × (t : List ℕ) × (v : ℕ) × Alike s t v × (l : ℕ) × (x : ℕ) × (of_guest v (sight s l x) ≢ of_guest v (sight t l x))
