-- A lane's table read at a tick (paper 01, "Dispatch"; demand 2): it shows, tick for tick, what the plan's rows say.
use Rattle.std.specs.Prelude.{ℕ, zero, suc, ◌+◌, ◌*◌, ◌<◌, ◌≡◌, ◌≢◌, cond, List, get_or, leb}
use Rattle.plan.specs.Image.{cycle_ticks}
use Rattle.plan.specs.Dispatch.{Shown, show, shown_at, entry_count, build_answer, built}

-- words that begin with a table
module _ (words : List ℕ) where
  -- H and n
  unfoldable pub ticks_in : ℕ
  ticks_in = get_or words 0 0

  unfoldable pub entries_in : ℕ
  entries_in = get_or words 1 0

  -- entry e: its first tick, and what it shows
  unfoldable pub first_tick : ℕ → ℕ
  first_tick e = get_or words (2 + 3 * e) 0

  unfoldable pub shown_by : ℕ → Shown
  shown_by e = show (get_or words (2 + 3 * e + 1) 0) (get_or words (2 + 3 * e + 2) 0)

  -- of the first n entries the last that begins no later than tick t
  unfoldable pub last_entry : ℕ → ℕ → ℕ
  last_entry t zero = 0
  last_entry t (suc e) = cond (leb (first_tick e) t) e (last_entry t e)

  unfoldable pub look_up : ℕ → Shown
  look_up t = shown_by (last_entry t entries_in)

-- the words tell what a lane shows
pub record Tells (s : List ℕ) (lane : ℕ) (words : List ℕ) : Type 0 where
  pub ticks : ticks_in words ≡ cycle_ticks s
  pub count : entries_in words ≡ entry_count s lane
  pub looked_up : (t : ℕ) → t < cycle_ticks s → look_up words t ≡ shown_at s lane t
  pub first : first_tick words 0 ≡ 0
  pub last : (e : ℕ) → e < entry_count s lane → first_tick words e < cycle_ticks s
  pub rise : (e : ℕ) → suc e < entry_count s lane → first_tick words e < first_tick words (suc e)
  pub differ : (e : ℕ) → suc e < entry_count s lane → shown_by words e ≢ shown_by words (suc e)

-- after a build that gives 0 they do; proved in proofs/Reading.antt
abbrev pub BuiltTells : Type 0
BuiltTells = (s : List ℕ) (lane : ℕ) (words : List ℕ) → (build_answer s lane words).number ≡ 0 → Tells s lane (built s lane words)
