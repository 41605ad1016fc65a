-- A loop that steps by the timer, which drives the steps (paper 02, request 12), as examples/timer_loop.c makes it: no tick is lost and none is made up, as late as
-- the loop may come round while fewer than 2^32 ticks pass.
use Rattle.std.specs.Prelude.{◌≡◌, ℕ, zero, suc, ◌+◌, ◌-◌, ◌/◌, ◌^◌, ◌<◌, ◌≤◌, Bool, false, cond, List, [], ◌∷◌, nat_le}
use Rattle.timer.specs.declared.Timer.{Timer}
use Rattle.timer.specs.Registers.{wrap, minus, fresh, reading, written, interrupts}

-- the timer, all ticks that the true counter has counted, how many of them the loop has brought in, and the steps that it has made
pub record Loop : Type 0 where
  pub timer : Timer
  pub ticks : ℕ
  pub brought : ℕ
  pub steps : ℕ

-- a fresh block, a reading at tick b, compare set on from there, the match let interrupt; a step is due every so many ticks
unfoldable pub begin : ℕ → ℕ → Loop
begin every b =
    record {
      timer = written (written (reading fresh (wrap b)) 4 (wrap (wrap b + every))) 12 1;
      ticks = b;
      brought = b;
      steps = 0;
    }

module _ (l : Loop) where
  -- is compare on the way from count to the counter?
  unfoldable pub on_way : Bool
  on_way = nat_le (minus l.timer.compare l.timer.count) (minus (wrap l.ticks) l.timer.count)

  -- a reading: the counter is brought in, but no further than compare
  unfoldable pub brings : Timer
  brings = reading l.timer (cond on_way l.timer.compare (wrap l.ticks))

  unfoldable pub raised : Bool
  raised = interrupts brings

  -- a turn: where the reading raises the interrupt, one step is made, the match is cleared, and compare is set on
  unfoldable pub turn : ℕ → Loop
  turn every =
      record {
        timer = cond raised (written (written brings 8 1) 4 (wrap (l.timer.compare + every))) brings;
        ticks = l.ticks;
        brought = cond on_way (l.brought + minus l.timer.compare l.timer.count) l.ticks;
        steps = cond raised (suc l.steps) l.steps;
      }

-- ticks pass; the loop makes a turn
pub data Event : Type 0 where
  passes : ℕ → Event
  turns : Event

module _ (every : ℕ) where
  unfoldable pub next : Loop → Event → Loop
  next l (passes n) = record { timer = l.timer; ticks = l.ticks + n; brought = l.brought; steps = l.steps }
  next l turns = turn l every

  unfoldable pub after : Loop → List Event → Loop
  after l [] = l
  after l (e ∷ es) = after (next l e) es

  -- at each turn fewer than 2^32 ticks are to be brought in
  abbrev pub InTime : Loop → List Event → Type 0
  InTime l [] = Unit {0}
  InTime l (passes n ∷ es) = InTime (next l (passes n)) es
  InTime l (turns ∷ es) = (l.ticks < l.brought + 2 ^ 32) × InTime (turn l every) es

  -- turns up to the first that raises no interrupt, as that loop makes them; k of them at most, which only ends the definition
  unfoldable pub take_all : ℕ → Loop → Loop
  take_all zero l = l
  take_all (suc k) l = cond (raised l) (take_all k (turn l every)) (turn l every)

  -- rounds: each time so many ticks pass, then such turns are made
  unfoldable pub rounds : Loop → List ℕ → Loop
  rounds l [] = l
  rounds l (n ∷ ns) = rounds (take_all (suc n) (next l (passes n))) ns

-- The count is that of the ticks brought in, which are no more than have passed; so many steps are made as are due in them. A turn that raises no interrupt brings in
-- all that have passed, and once they are a turn changes nothing.
pub record Drives (every b : ℕ) (l : Loop) : Type 0 where
  pub count : l.timer.count ≡ wrap l.brought
  pub passed : l.brought ≤ l.ticks
  pub exact : l.steps ≡ (l.brought - b) / every
  pub quiet : l.ticks < l.brought + 2 ^ 32 → raised l ≡ false → (turn l every).brought ≡ l.ticks
  pub rests : l.brought ≡ l.ticks → turn l every ≡ l

-- from a beginning at any tick b, over any list of ticks and turns
abbrev pub NoneLost : Type 0
NoneLost =
    (every b : ℕ) → 1 ≤ every → every < 2 ^ 32 → (es : List Event) → InTime every (begin every b) es
    → Drives every b (after every (begin every b) es)

-- ---- in rounds

unfoldable pub total : List ℕ → ℕ
total [] = 0
total (n ∷ ns) = n + total ns

-- fewer than 2^32 each time
abbrev pub Below : List ℕ → Type 0
Below [] = Unit {0}
Below (n ∷ ns) = (n < 2 ^ 32) × Below ns

-- so many ticks have passed, all are brought in, and so many steps are made as are due in them
pub record UpToDate (every b passed : ℕ) (l : Loop) : Type 0 where
  pub ticks : l.ticks ≡ b + passed
  pub brought : l.brought ≡ l.ticks
  pub steps : l.steps ≡ passed / every

-- after every round; and in the next one, of n ticks, a bound of n + 1 turns is enough: a greater one makes no other turns
abbrev pub KeepsUp : Type 0
KeepsUp =
    (every b : ℕ) → 1 ≤ every → every < 2 ^ 32 → (ns : List ℕ) → Below ns
    → let l = rounds every (begin every b) ns in
    UpToDate every b (total ns) l × ((n k : ℕ) → n < 2 ^ 32 → take_all every (suc n + k) (next every l (passes n)) ≡ take_all every (suc n) (next every l (passes n)))
