-- The tick timer's block as C lends it (paper 02, request 12): 16 bytes, the registers as four words. A block of another length has no register: a start, a reading, a
-- register read or write on it gives 38 and changes nothing, and no interrupt is raised.
use Rattle.std.specs.Prelude.{ℕ, ◌+◌, ◌*◌, ◌^◌, Bool, ◌&&◌, cond, List, ◌++◌, length, eqb}
use Rattle.plan.specs.Image.{word_at}
use Rattle.plan.specs.Boundary.{bytes_of}
use Rattle.timer.specs.declared.Timer.{Timer}
use Rattle.timer.specs.Registers.{fresh, reading, interrupts, read_number, write_number, bit0, bit_word, read_value, written}

-- the timer that a block's bytes stand for: of status and enable only bit 0 counts
unfoldable pub timer_of : List ℕ → Timer
timer_of b = record { count = word_at b 0; compare = word_at b 4; matched = bit0 (word_at b 8); enabled = bit0 (word_at b 12) }

-- a timer's bytes: the other bits are 0
unfoldable pub timer_bytes : Timer → List ℕ
timer_bytes t = bytes_of 4 t.count ++ bytes_of 4 t.compare ++ bytes_of 4 (bit_word t.matched) ++ bytes_of 4 (bit_word t.enabled)

unfoldable pub is_block : List ℕ → Bool
is_block b = eqb (length b) 16

module _ (b : List ℕ) where
  -- 38 of the block itself: all that a start and a reading ask
  unfoldable pub block_number : ℕ
  block_number = cond (is_block b) 0 38

  -- the bytes after a start, which makes a block fresh, and after a reading
  unfoldable pub started_bytes : List ℕ
  started_bytes = cond (is_block b) (timer_bytes fresh) b

  unfoldable pub reading_bytes : ℕ → List ℕ
  reading_bytes new = cond (is_block b) (timer_bytes (reading (timer_of b) new)) b

  -- a register read: number + 2^32 × value
  unfoldable pub register_number : ℕ → ℕ
  register_number a = cond (is_block b) (read_number a + 2 ^ 32 * read_value (timer_of b) a) 38

  -- a register write: its number, and the bytes afterwards
  unfoldable pub writing_number : ℕ → ℕ
  writing_number a = cond (is_block b) (write_number a) 38

  unfoldable pub written_bytes : ℕ → ℕ → List ℕ
  written_bytes a x = cond (eqb (writing_number a) 0) (timer_bytes (written (timer_of b) a x)) b

  -- 1 while the interrupt is raised, else 0
  unfoldable pub interrupt_word : ℕ
  interrupt_word = bit_word (is_block b && interrupts (timer_of b))

-- All of the above, for a proof by computation: `unfolding blocks` opens it.
unfoldable pub blocks : Unit {0}
unfolding timer_of timer_bytes is_block block_number started_bytes reading_bytes register_number writing_number written_bytes interrupt_word
blocks = tt
