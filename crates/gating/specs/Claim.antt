-- What a caller reads in the words, or the bytes, of a gate list: the link's gates, which say what its dispatch table says. Proved in proofs/Reading.antt.
use Rattle.std.specs.Prelude.{ℕ, zero, suc, ◌+◌, ◌/◌, ◌%◌, ◌^◌, ◌<◌, ◌≡◌, ◌↔◌, List, ◌∷◌, [], get_or, drop}
use Rattle.plan.specs.declared.Table.TheVariants.{Cores}
use Rattle.plan.specs.Image.{rows, cycle_ticks}
use Rattle.plan.specs.Questions.{queue_of}
use Rattle.plan.specs.Dispatch.{build_answer, built}
use Rattle.plan.specs.Boundary.{words_of}
use Rattle.lanes.specs.LookUp.{look_up}
use Rattle.gates.specs.Gates.{Gate, gate, gate_answer, gated, gate_bytes}
use Rattle.gates.specs.Claim.{open_at, ticks_of, Proper}

-- m gates, a pair of words each; the count, and so many
unfoldable pub pairs_in : ℕ → List ℕ → List Gate
pairs_in zero words = []
pairs_in (suc m) words = gate (get_or words 0 0) (get_or words 1 0) ∷ pairs_in m (drop 2 words)

unfoldable pub gates_in : List ℕ → List Gate
gates_in words = pairs_in (get_or words 0 0) (drop 1 words)

-- A gate list beside a dispatch table: intervals of at least 1 that sum to H, neighbouring octets that differ, and at each tick bit q of the octet is 1
-- exactly where the table shows the sending of a frame of queue q.
pub record Tells (s list table : List ℕ) : Type 0 where
  pub proper : Proper (gates_in list)
  pub cycle : ticks_of (gates_in list) ≡ cycle_ticks s
  pub octet : (t : ℕ) → t < cycle_ticks s → open_at (gates_in list) t < 256
  pub bit : (t q : ℕ) → t < cycle_ticks s
      → open_at (gates_in list) t / 2 ^ q % 2 ≡ 1 ↔ (((look_up table t).kind ≡ 5) × (queue_of s (look_up table t).row ≡ q))

-- a link's list and its lane's table, wherever both are written
abbrev pub ListTells : Type 0
ListTells =
    (s : List ℕ) (l : ℕ) (words lent : List ℕ) → (gate_answer s l words).number ≡ 0 → (build_answer s (rows s Cores + l) lent).number ≡ 0
    → Tells s (gated s l words) (built s (rows s Cores + l) lent)

-- read as words, the bytes afterwards are the words that a list over words leaves
abbrev pub GatedBytes : Type 0
GatedBytes = (s : List ℕ) (l : ℕ) (b : List ℕ) → words_of (gate_bytes s l b) ≡ gated s l (words_of b)
