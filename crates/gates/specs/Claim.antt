-- What a gate list says, and that the gates of a link say what its dispatch table does (paper 02, request 13). Proved in proofs/Matching.antt.
use Rattle.std.specs.Prelude.{ℕ, ◌+◌, ◌-◌, ◌*◌, ◌/◌, ◌%◌, ◌^◌, ◌≤◌, ◌<◌, ◌≡◌, ◌↔◌, ◌≢◌, cond, List, ◌∷◌, [], length, take, ltb}
use Rattle.plan.specs.declared.Table.TheVariants.{Cores, Frames}
use Rattle.plan.specs.Image.{cycle_ticks, rows, frame}
use Rattle.plan.specs.Questions.{answer_of, accepted, queue_of, stay}
use Rattle.plan.specs.Reading.{Apart, AllHold, piece_meanings, stream_meanings, buffer_meanings}
use Rattle.plan.specs.Held.{Sound}
use Rattle.plan.specs.Dispatch.{shown_at}
use Rattle.gates.specs.Gates.{Gate, gate_words, octet_at, gates}

-- the octet at a tick; all ticks together
unfoldable pub open_at : List Gate → ℕ → ℕ
open_at [] t = 0
open_at (g ∷ gs) t = cond (ltb t g.interval) g.octet (open_at gs (t - g.interval))

unfoldable pub ticks_of : List Gate → ℕ
ticks_of [] = 0
ticks_of (g ∷ gs) = g.interval + ticks_of gs

-- intervals of at least 1, and neighbouring octets that differ
abbrev pub Proper : List Gate → Type 0
Proper [] = Unit {0}
Proper (g ∷ []) = 1 ≤ g.interval
Proper (g ∷ h ∷ gs) = (1 ≤ g.interval) × (g.octet ≢ h.octet) × Proper (h ∷ gs)

-- a gate list of link l: besides, intervals sum to H and the octets are the link's in every tick
pub record GatesOf (s : List ℕ) (l : ℕ) (gs : List Gate) : Type 0 where
  pub proper : Proper gs
  pub cycle : ticks_of gs ≡ cycle_ticks s
  pub matches : (t : ℕ) → t < cycle_ticks s → open_at gs t ≡ octet_at s l t

-- a link's octet: bit q is 1 exactly where the link's dispatch table shows a frame of queue q
pub record OctetOf (s : List ℕ) (l t : ℕ) : Type 0 where
  pub bit : (q : ℕ) → octet_at s l t / 2 ^ q % 2 ≡ 1 ↔ (((shown_at s (rows s Cores + l) t).kind ≡ 5) × (queue_of s (shown_at s (rows s Cores + l) t).row ≡ q))
  pub fits : octet_at s l t < 256

-- the gates are a gate list of their link, and there is no other
abbrev pub GatesMatch : Type 0
GatesMatch = (s : List ℕ) → answer_of s ≡ accepted → (l : ℕ) → GatesOf s l (gates s l) × ((t : ℕ) → OctetOf s l t)

abbrev pub GatesOnly : Type 0
GatesOnly = (s : List ℕ) → answer_of s ≡ accepted → (l : ℕ) (gs : List Gate) → GatesOf s l gs → gs ≡ gates s l

-- how many words they take: one and two for each gate. There are no more gates than ticks.
abbrev pub GateWords : Type 0
GateWords = (s : List ℕ) → answer_of s ≡ accepted → (l : ℕ) → (length (gate_words s l) ≡ 1 + 2 * length (gates s l)) × (length (gates s l) ≤ cycle_ticks s)

-- Stays of one stream on a link are apart in every plan that passes 1 to 24 and 32, whether 41 asks or not: what it asks of them no answer hangs on. Proved
-- in proofs/Own.antt.
abbrev pub OwnApart : Type 0
OwnApart =
    (s : List ℕ) → Sound s → AllHold (piece_meanings s) → AllHold (take 8 (stream_meanings s)) → AllHold (buffer_meanings s)
    → (f g : ℕ) → f < rows s Frames → g < rows s Frames → f ≢ g → (frame s f).stream ≡ (frame s g).stream
    → (frame s f).link ≡ (frame s g).link → Apart (stay s f) (stay s g)
