-- The timer's block beside the counter (paper 02, request 12): the events of timer's Ticks as a C caller makes them, over the block's bytes.
use Rattle.std.specs.Prelude.{ℕ, ◌+◌, ◌*◌, ◌<◌, ◌^◌, ◌≡◌, List, ◌∷◌, [], length}
use Rattle.timer.specs.declared.Timer.{Timer}
use Rattle.timer.specs.Registers.{wrap, fresh, interrupts, read_number, bit_word, read_value}
use Rattle.timer.specs.Ticks.{Event, passes, read_in, writes, reads, World, counted, watched, next, after, Follows, Near, Each}
use Rattle.timerblock.specs.Blocks.{timer_of, started_bytes, reading_bytes, register_number, written_bytes, interrupt_word}

-- the block's bytes, and all ticks that the counter has counted
pub record Board : Type 0 where
  pub block : List ℕ
  pub ticks : ℕ

-- ticks pass; rd_timer_reading of the counter's 32 bits; rd_timer_write; rd_timer_read
unfoldable pub calls : Board → Event → Board
calls d (passes n) = record { block = d.block; ticks = d.ticks + n }
calls d read_in = record { block = reading_bytes d.block (wrap d.ticks); ticks = d.ticks }
calls d (writes a x) = record { block = written_bytes d.block a x; ticks = d.ticks }
calls d (reads a) = d

unfoldable pub all_calls : Board → List Event → Board
all_calls d [] = d
all_calls d (e ∷ es) = all_calls (calls d e) es

-- 16 bytes stand for a timer
pub record StandsFor (b : List ℕ) (t : Timer) : Type 0 where
  pub size : length b ≡ 16
  pub timer : timer_of b ≡ t

-- the board is that of the world: its block stands for the world's timer, and its counter has counted as many ticks
pub record IsBoard (w : World) (d : Board) : Type 0 where
  pub block : StandsFor d.block w.timer
  pub ticks : d.ticks ≡ w.ticks

-- each register fits its width; words are written
pub record InWidth (t : Timer) : Type 0 where
  pub count : t.count < 2 ^ 32
  pub compare : t.compare < 2 ^ 32

abbrev pub WritesWord : Event → Type 0
WritesWord (passes n) = Unit {0}
WritesWord read_in = Unit {0}
WritesWord (writes a x) = x < 2 ^ 32
WritesWord (reads a) = Unit {0}

-- after any list of calls the block stands for the timer of the same events, of which timer's claims speak
abbrev pub TimerThroughC : Type 0
TimerThroughC =
    (w : World) (d : Board) (es : List Event) → InWidth w.timer → Each WritesWord es → IsBoard w d → IsBoard (after counted w es) (all_calls d es)

-- what rd_timer_read and rd_timer_interrupt give of it is what the timer has
abbrev pub BlockTells : Type 0
BlockTells =
    (b : List ℕ) (t : Timer) → StandsFor b t
    → ((a : ℕ) → register_number b a ≡ read_number a + 2 ^ 32 * read_value t a) × (interrupt_word b ≡ bit_word (interrupts t))

-- such a board is what rd_timer_start of any 16 bytes and a reading leave, whatever the counter has counted; so over any list of calls, each reading fewer than 2^32 ticks after the one before, its block
-- stands for the timer that looks at every tick
abbrev pub BoardTrue : Type 0
BoardTrue =
    (b : List ℕ) (n : ℕ) → length b ≡ 16
    → let w = next counted (record { timer = fresh; ticks = n; read = 0 }) read_in in let d = calls (record { block = started_bytes b; ticks = n }) read_in in
    IsBoard w d × Follows w × InWidth w.timer × ((es : List Event) → Near w es → IsBoard (after watched w es) (all_calls d es))
