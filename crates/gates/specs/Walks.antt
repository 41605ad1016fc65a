-- A walk along the frames of a link, row by row: which gates are found, and which of them are left to find.
use Rattle.std.specs.Prelude.{ℕ, ◌+◌, ◌-◌, ◌*◌, ◌≤◌, ◌<◌, ◌≡◌, List, ◌++◌, [], length}
use Rattle.plan.specs.declared.Table.TheVariants.{Frames}
use Rattle.plan.specs.Image.{cycle_ticks, rows, frame}
use Rattle.plan.specs.Questions.{answer_of, accepted, frame_end}
use Rattle.gates.specs.Gates.{Gate, octet_at, gates_from, gates, gate_words}

module _ (s : List ℕ) (l : ℕ) where
  -- from tick t up to tick u the link's octet is o
  abbrev pub Stretch : ℕ → ℕ → ℕ → Type 0
  Stretch t u o = (x : ℕ) → t ≤ x → x < u → octet_at s l x ≡ o

  -- up to tick t the link's gates are these, and then octet o since tick `since`
  pub record Goes (found : List Gate) (o since t : ℕ) : Type 0 where
    pub within : t ≤ cycle_ticks s
    pub begun : since ≤ t
    pub none : t ≡ 0 → found ≡ []
    pub goes : 1 ≤ t → found ++ gates_from s l o (t - since) t (cycle_ticks s - t) ≡ gates s l

  -- of the first n frames, the link's end by tick t; of the others, none of the link's starts before it
  pub record Past (n t : ℕ) : Type 0 where
    pub behind : (f : ℕ) → f < n → (frame s f).link ≡ l → frame_end s f ≤ t
    pub ahead : (f : ℕ) → n ≤ f → f < rows s Frames → (frame s f).link ≡ l → t ≤ (frame s f).start

-- Two gates for each frame, and one more, are the most; so 2,051 words suffice for any list. Proved in proofs/Walking.antt.
abbrev pub GatesFew : Type 0
GatesFew = (s : List ℕ) → answer_of s ≡ accepted → (l : ℕ) → length (gates s l) ≤ 2 * rows s Frames + 1

abbrev pub RoomForGates : Type 0
RoomForGates = (s : List ℕ) → answer_of s ≡ accepted → (l : ℕ) → length (gate_words s l) ≤ 2051
