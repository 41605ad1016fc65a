-- The timer beside the counter that it follows (paper 02, request 12): a true counter, which does not wrap, and what holds of any list of
-- readings, writes and register reads while it counts.
use Rattle.std.specs.Prelude.{◌≡◌, ℕ, zero, suc, ◌+◌, ◌-◌, ◌^◌, ◌<◌, ◌≤◌, Bool, true, false, ◌||◌, ◌↔◌, List, [], ◌∷◌, ◌==◌, ◌≢◌}
use Rattle.timer.specs.declared.Timer.{Timer}
use Rattle.timer.specs.Registers.{wrap, reading, written, bit0}

-- ticks pass; the counter is read; a word is written to an address; a register is read
pub data Event : Type 0 where
  passes : ℕ → Event
  read_in : Event
  writes : ℕ → ℕ → Event
  reads : ℕ → Event

-- the timer, all ticks that the counter has counted, and how many these were at the last reading
pub record World : Type 0 where
  pub timer : Timer
  pub ticks : ℕ
  pub read : ℕ

-- does the counter come to c in the n ticks after tick `from`? Each tick is looked at.
unfoldable pub came : ℕ → ℕ → ℕ → Bool
came c from zero = false
came c from (suc n) = came c from n || wrap (from + suc n) == c

-- that is: is there such a tick?
pub record Comes (c from n : ℕ) : Type 0 where
  pub tick : ℕ
  pub later : from < tick
  pub by_then : tick ≤ from + n
  pub equal : wrap tick ≡ c

abbrev pub CameMeans : Type 0
CameMeans = (c from n : ℕ) → came c from n ≡ true ↔ Comes c from n

-- what a reading leaves: by the registers, and by a timer that looks at every tick since the last reading for the compare that it then has
unfoldable pub counted : World → Timer
counted w = reading w.timer (wrap w.ticks)

unfoldable pub watched : World → Timer
watched w =
    record {
      count = wrap w.ticks;
      compare = w.timer.compare;
      matched = came w.timer.compare w.read (w.ticks - w.read) || w.timer.matched;
      enabled = w.timer.enabled;
    }

module _ (left : World → Timer) where
  unfoldable pub next : World → Event → World
  next w (passes n) = record { timer = w.timer; ticks = w.ticks + n; read = w.read }
  next w read_in = record { timer = left w; ticks = w.ticks; read = w.ticks }
  next w (writes a x) = record { timer = written w.timer a x; ticks = w.ticks; read = w.read }
  next w (reads a) = w

  unfoldable pub after : World → List Event → World
  after w [] = w
  after w (e ∷ es) = after (next w e) es

-- the timer shows the count of the last reading, and its registers are words: so it is after every reading
pub record Follows (w : World) : Type 0 where
  pub count : w.timer.count ≡ wrap w.read
  pub compare : w.timer.compare < 2 ^ 32
  pub past : w.read ≤ w.ticks

abbrev pub ReadFollows : Type 0
ReadFollows = (w : World) → w.timer.compare < 2 ^ 32 → Follows (next counted w read_in)

-- each reading comes fewer than 2^32 ticks after the one before; words are written
abbrev pub Near : World → List Event → Type 0
Near w [] = Unit {0}
Near w (passes n ∷ es) = Near (next counted w (passes n)) es
Near w (read_in ∷ es) = (w.ticks < w.read + 2 ^ 32) × Near (next counted w read_in) es
Near w (writes a x ∷ es) = (x < 2 ^ 32) × Near (next counted w (writes a x)) es
Near w (reads a ∷ es) = Near w es

-- Over any list of events all registers are those of the timer that looks at every tick. Where compare is written between two readings, the later one goes by
-- the compare written last.
abbrev pub TimerTrue : Type 0
TimerTrue = (w : World) (es : List Event) → Follows w → Near w es → after counted w es ≡ after watched w es

-- ---- the request's sentences

-- an event that is no reading; one that writes no compare; one that does not clear the match
abbrev pub NoReading : Event → Type 0
NoReading (passes n) = Unit {0}
NoReading read_in = ⊥
NoReading (writes a x) = Unit {0}
NoReading (reads a) = Unit {0}

abbrev pub KeepsCompare : Event → Type 0
KeepsCompare (passes n) = Unit {0}
KeepsCompare read_in = Unit {0}
KeepsCompare (writes a x) = a ≡ 4 → ⊥
KeepsCompare (reads a) = Unit {0}

abbrev pub KeepsMatch : Event → Type 0
KeepsMatch (passes n) = Unit {0}
KeepsMatch read_in = Unit {0}
KeepsMatch (writes a x) = a ≡ 8 → bit0 x ≢ true
KeepsMatch (reads a) = Unit {0}

abbrev pub Each : (Event → Type 0) → List Event → Type 0
Each P [] = Unit {0}
Each P (e ∷ es) = P e × Each P es

-- No match is missed, and none is made up. In any world, so after any events, a reading is made; others follow in which fewer than 2^32 ticks pass
-- and compare is not written; a second reading is made. Then the match is set exactly if the counter came to compare after the first reading,
-- or if it was set before the second.
abbrev pub NoneMissed : Type 0
NoneMissed =
    (w : World) (es : List Event) → w.timer.compare < 2 ^ 32 → Each NoReading es → Each KeepsCompare es
    → let first = next counted w read_in in let last = after counted first es in
    last.ticks < first.ticks + 2 ^ 32
    → (next counted last read_in).timer.matched ≡ (came w.timer.compare first.ticks (last.ticks - first.ticks) || last.timer.matched)

-- a match stays set until it is cleared, whatever else happens
abbrev pub StaysSet : Type 0
StaysSet = (w : World) (es : List Event) → Each KeepsMatch es → w.timer.matched ≡ true → (after counted w es).timer.matched ≡ true

-- A match that was cleared stays cleared until the counter comes to compare again: through any readings, while the counter has not come to compare since
-- the last one before it was cleared. (What a compare that is written meanwhile does, TimerTrue says.)
abbrev pub StaysCleared : Type 0
StaysCleared =
    (w : World) (x : ℕ) (es : List Event) → Follows w → bit0 x ≡ true
    → let cleared = next counted w (writes 8 x) in let end = after counted cleared es in
    Each KeepsCompare es → Near cleared es → came w.timer.compare w.read (end.ticks - w.read) ≡ false → end.timer.matched ≡ false
