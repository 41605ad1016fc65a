-- What two load tools in C see of two plans that differ in one VCPU (paper 02, request 11): kind and row in the 28 bytes of a lane's record.
use Rattle.std.specs.Prelude.{ℕ, ◌+◌, ◌-◌, ◌*◌, ◌%◌, ◌^◌, ◌<◌, ◌≡◌, true, List, ◌∷◌, ◌++◌, [], length, take, drop}
use Rattle.plan.specs.declared.Table.TheVariants.{Cores}
use Rattle.plan.specs.Image.{cycle_ticks, rows}
use Rattle.plan.specs.Dispatch.{show, lanes}
use Rattle.plan.specs.Boundary.{state_of}
use Rattle.plan.specs.Runs.{Call, steps, Named}
use Rattle.writing.specs.AllTables.{all_number, all_bytes}
use Rattle.loading.specs.Loaded.{AreBytes, Loaded, gives_bytes, after_bytes, first_in, started_row}
use Rattle.guests.specs.Guests.{Sight, nothing, in_window, in_job, sight_of, hides}
use Rattle.guests.specs.Claim.{Alike, SameBut}

-- A load tool that has plan s loaded: the bytes of its words and of its records at the start, the calls that it has made, and its last call, which gave 0
-- and stepped lane l.
pub record Tool (s : List ℕ) (l : ℕ) : Type 0 where
  pub words : List ℕ
  pub row : List ℕ
  pub cycle : ℕ
  pub first : ℕ → ℕ
  pub loaded : Loaded s words row cycle first
  pub earlier : List Call
  pub last : Call
  pub named : Named s (earlier ++ last ∷ [])
  pub gave : gives_bytes words (after_bytes words row earlier) last ≡ 0
  pub stepped : steps last l ≡ true

module _ {s : List ℕ} {l : ℕ} (a : Tool s l) where
  -- the bytes of all records before the last call, and after it
  abbrev pub held : List ℕ
  held = after_bytes a.words a.row a.earlier

  abbrev pub left : List ℕ
  left = after_bytes a.words a.row (a.earlier ++ a.last ∷ [])

  -- the tick that the call showed: that of the lane's record, before it
  abbrev pub tick : ℕ
  tick = (state_of (take 28 (drop (28 * l) held))).tick

  -- what it showed: the record's kind and row, after it, named by the plan's rows
  abbrev pub sees : Sight
  sees = let st = state_of (take 28 (drop (28 * l) left)) in sight_of s (show st.kind st.row)

  -- the record's bytes 20 to 27, kind and row
  abbrev pub shown : List ℕ
  shown = take 8 (drop (28 * l + 20) left)

-- In the same tick both show the same to all but VCPU v. So the eight bytes are the same where the core idles and in a window, unless VCPU v has it and is past its
-- switch; in a job of another VCPU the first four are, the kind.
pub record ToolsUnnoticed (s t : List ℕ) (v l : ℕ) (a : Tool s l) (b : Tool t l) : Type 0 where
  pub same : SameBut v (sees a) (sees b)
  pub idle : sees a ≡ nothing → shown a ≡ shown b
  pub windows : (k u w : ℕ) → hides v (sees a) ≡ in_window k u w → shown a ≡ shown b
  pub jobs : (k u m j : ℕ) → hides v (sees a) ≡ in_job k u m j → take 4 (shown a) ≡ take 4 (shown b)

-- whatever calls they have made, from whatever cycles; proved in proofs/Tools.antt
abbrev pub UnnoticedThroughC : Type 0
UnnoticedThroughC =
    (s t : List ℕ) (v : ℕ) → Alike s t v → (l : ℕ) → l < rows s Cores → (a : Tool s l) (b : Tool t l) → tick a ≡ tick b → ToolsUnnoticed s t v l a b

-- There are such tools of every accepted plan: of the words that an rd_build_all over any bytes left, if it gave 0, and the row that an rd_start of each lane left, over any
-- 28 bytes for each, at every tick up to the calendar's end. Proved in proofs/Begun.antt.
abbrev pub ToolsThere : Type 0
ToolsThere =
    (s b row : List ℕ) (c n l : ℕ) → AreBytes b → all_number s b ≡ 0 → length row ≡ 28 * lanes s → c < 2 ^ 64 → c * cycle_ticks s + n < 2 ^ 64 * cycle_ticks s - 1 → l < lanes s
    → (a : Tool s l) × (a.words ≡ all_bytes s b) × (a.row ≡ started_row row (first_in (all_bytes s b)) c (lanes s)) × (a.cycle ≡ c) × (tick a ≡ n % cycle_ticks s)
