-- A load tool that steps by the tick timer (paper 02, request 12: it drives the steps), through C: the loop of timer's Driving as examples/timer_loop.c makes
-- it, over the bytes that it lends, and where the lanes then stand.
use Rattle.std.specs.Prelude.{ℕ, zero, suc, ◌+◌, ◌-◌, ◌*◌, ◌/◌, ◌%◌, ◌<◌, ◌≤◌, ◌^◌, ◌≡◌, Bool, cond, List, ◌∷◌, [], leb, eqb, length, take, drop, replicate}
use Rattle.plan.specs.Image.{cycle_ticks}
use Rattle.plan.specs.Dispatch.{lanes, shown_at}
use Rattle.plan.specs.Boundary.{state_of, step_all_number, step_all_bytes}
use Rattle.loading.specs.Loaded.{Loaded, shown_bytes}
use Rattle.timer.specs.Registers.{wrap, minus}
use Rattle.timer.specs.Driving.{begin, Event, passes, turns, after, InTime, total, Below}
use Rattle.timerblock.specs.Blocks.{started_bytes, reading_bytes, register_number, written_bytes, interrupt_word}

-- the timer's block, the row of records, all ticks that the counter has counted, and what the calls of rd_step_all gave, the last one first
pub record Tool : Type 0 where
  pub block : List ℕ
  pub row : List ℕ
  pub ticks : ℕ
  pub numbers : List ℕ

-- rd_timer_value of rd_timer_read
unfoldable pub value : List ℕ → ℕ → ℕ
value b a = register_number b a / 2 ^ 32

-- ws are the words of all lanes' tables; a step is due every so many ticks
module _ (ws : List ℕ) (every : ℕ) where
  -- rd_timer_start of a block, rd_timer_reading at tick b, rd_timer_write of compare and enable
  unfoldable pub begin_c : ℕ → List ℕ → List ℕ → Tool
  begin_c b block row =
      record {
        block = written_bytes (written_bytes (reading_bytes (started_bytes block) (wrap b)) 4 (wrap (wrap b + every))) 12 1;
        row = row;
        ticks = b;
        numbers = [];
      }

  -- rd_timer_read of count and compare, and rd_timer_reading of compare where it is on the way to the counter, else of the counter
  unfoldable pub read_c : Tool → List ℕ
  read_c d =
      let count = value d.block 0 in
      let compare = value d.block 4 in
      let now = wrap d.ticks in
      reading_bytes d.block (cond (leb (minus compare count) (minus now count)) compare now)

  -- rd_timer_interrupt after it
  unfoldable pub raised_c : Tool → Bool
  raised_c d = eqb (interrupt_word (read_c d)) 1

  -- and, where that gives 1, rd_step_all, rd_timer_write of 1 to status, rd_timer_read of compare, and rd_timer_write of it, set on
  unfoldable pub turn_c : Tool → Tool
  turn_c d =
      let cleared = written_bytes (read_c d) 8 1 in
      cond (raised_c d)
      (record {
        block = written_bytes cleared 4 (wrap (value cleared 4 + every));
        row = step_all_bytes ws d.row;
        ticks = d.ticks;
        numbers = step_all_number ws d.row ∷ d.numbers;
      })
      (record { block = read_c d; row = d.row; ticks = d.ticks; numbers = d.numbers })

  unfoldable pub next_c : Tool → Event → Tool
  next_c d (passes n) = record { block = d.block; row = d.row; ticks = d.ticks + n; numbers = d.numbers }
  next_c d turns = turn_c d

  unfoldable pub after_c : Tool → List Event → Tool
  after_c d [] = d
  after_c d (e ∷ es) = after_c (next_c d e) es

  -- rounds: so many ticks pass, then turns are made up to the first that raises no interrupt; the bound only ends the definition (timer's KeepsUp)
  unfoldable pub take_all_c : ℕ → Tool → Tool
  take_all_c zero d = d
  take_all_c (suc k) d = cond (raised_c d) (take_all_c k (turn_c d)) (turn_c d)

  unfoldable pub rounds_c : Tool → List ℕ → Tool
  rounds_c d [] = d
  rounds_c d (n ∷ ns) = rounds_c (take_all_c (suc n) (next_c d (passes n))) ns

-- A load tool that has plan s loaded from cycle c on has called rd_step_all n times: each call gave 0, each lane's record stands at tick n mod H of cycle c + n / H, and shows what
-- the plan has at the tick before.
pub record Stand (s : List ℕ) (c n : ℕ) (d : Tool) : Type 0 where
  pub gave : d.numbers ≡ replicate n 0
  pub cycle : (l : ℕ) → l < lanes s → (state_of (take 28 (drop (28 * l) d.row))).cycle ≡ c + n / cycle_ticks s
  pub tick : (l : ℕ) → l < lanes s → (state_of (take 28 (drop (28 * l) d.row))).tick ≡ n % cycle_ticks s
  pub shown : (i l : ℕ) → n ≡ suc i → l < lanes s → take 8 (drop (28 * l + 20) d.row) ≡ shown_bytes (shown_at s l (i % cycle_ticks s))

-- With a plan loaded, a block of any 16 bytes and a beginning at any tick b, over any list of ticks and turns in time: rd_step_all was called once for each step that is due
-- in the ticks brought in (brought of timer's Driving), and the lanes stand there, up to the calendar's end.
abbrev pub TimerDrives : Type 0
TimerDrives =
    (s ws row : List ℕ) (c : ℕ) (first : ℕ → ℕ) → Loaded s ws row c first
    → (every b : ℕ) → 1 ≤ every → every < 2 ^ 32 → (block : List ℕ) → length block ≡ 16
    → (es : List Event) → InTime every (begin every b) es
    → let l = after every (begin every b) es in let n = (l.brought - b) / every in
    c * cycle_ticks s + n < 2 ^ 64 * cycle_ticks s → Stand s c n (after_c ws every (begin_c ws every b block row) es)

-- In rounds: after each of them the lanes stand where all ticks that have passed say, if fewer than 2^32 pass from one round to the next.
abbrev pub RoundsDrive : Type 0
RoundsDrive =
    (s ws row : List ℕ) (c : ℕ) (first : ℕ → ℕ) → Loaded s ws row c first
    → (every b : ℕ) → 1 ≤ every → every < 2 ^ 32 → (block : List ℕ) → length block ≡ 16
    → (ns : List ℕ) → Below ns
    → let n = total ns / every in
    c * cycle_ticks s + n < 2 ^ 64 * cycle_ticks s → Stand s c n (rounds_c ws every (begin_c ws every b block row) ns)
