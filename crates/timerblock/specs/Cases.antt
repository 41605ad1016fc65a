-- Cases of the timer's block, by computation: blocks of any bytes, other bits, refusals, other lengths.
use Rattle.std.specs.Prelude.{ℕ, ◌+◌, ◌*◌, ◌-◌, ◌^◌, ◌≡◌, refl, List, ◌∷◌, map, [], replicate}
use Rattle.plan.specs.Image.{word_at}
use Rattle.plan.specs.Boundary.{bytes_of}
use Rattle.timer.specs.Registers.{registers}
use Rattle.timerblock.specs.Blocks.{block_number, started_bytes, reading_bytes, register_number, writing_number, written_bytes, interrupt_word, blocks}

-- a block by its words, written out
block : ℕ → ℕ → ℕ → ℕ → List ℕ
block c d e f = c ∷ 0 ∷ 0 ∷ 0 ∷ d ∷ 0 ∷ 0 ∷ 0 ∷ e ∷ 0 ∷ 0 ∷ 0 ∷ f ∷ 0 ∷ 0 ∷ 0 ∷ []

-- all bits set, of 16 bytes and of others
ones : ℕ → List ℕ
ones n = replicate n 255

-- a call over bytes, what it gives, and the bytes that it leaves
data Case : Type 0 where
  start : List ℕ → ℕ → List ℕ → Case
  reading : List ℕ → ℕ → ℕ → List ℕ → Case
  read : List ℕ → ℕ → ℕ → Case
  write : List ℕ → ℕ → ℕ → ℕ → List ℕ → Case
  interrupt : List ℕ → ℕ → Case

cases : List Case
cases =
    start (ones 16) 0 (block 0 0 0 0)
    ∷ start (ones 15) 38 (ones 15)
    ∷ start (ones 17) 38 (ones 17)
    ∷ start [] 38 []
    ∷ reading (block 3 5 0 1) 4 0 (block 4 5 0 1)
    ∷ reading (block 3 5 0 1) 5 0 (block 5 5 1 1)
    ∷ reading (ones 16) 2 0 (2 ∷ 0 ∷ 0 ∷ 0 ∷ 255 ∷ 255 ∷ 255 ∷ 255 ∷ 1 ∷ 0 ∷ 0 ∷ 0 ∷ 1 ∷ 0 ∷ 0 ∷ 0 ∷ [])  -- other bits become 0
    ∷ reading (block 3 5 254 254) 4 0 (block 4 5 0 0)
    ∷ reading (block 0 0 0 0) (1 + 256 * 2 + 65536 * 3 + 16777216 * 4) 0 (1 ∷ 2 ∷ 3 ∷ 4 ∷ 0 ∷ 0 ∷ 0 ∷ 0 ∷ 0 ∷ 0 ∷ 0 ∷ 0 ∷ 0 ∷ 0 ∷ 0 ∷ 0 ∷ [])
    ∷ reading (ones 15) 2 38 (ones 15)
    ∷ reading (ones 32) 2 38 (ones 32)
    ∷ read (block 3 5 1 1) 0 (2 ^ 32 * 3)
    ∷ read (block 3 5 1 1) 4 (2 ^ 32 * 5)
    ∷ read (ones 16) 4 (2 ^ 32 * (2 ^ 32 - 1))
    ∷ read (ones 16) 8 (2 ^ 32)  -- other bits read 0
    ∷ read (ones 16) 12 (2 ^ 32)
    ∷ read (block 3 5 254 254) 8 0
    ∷ read (ones 16) 16 38
    ∷ read (ones 16) 1 38
    ∷ read (ones 15) 0 38
    ∷ read (ones 17) 0 38
    ∷ write (block 3 5 1 1) 4 7 0 (block 3 7 1 1)
    ∷ write (block 3 5 1 1) 8 0 0 (block 3 5 1 1)
    ∷ write (block 3 5 1 1) 8 1 0 (block 3 5 0 1)
    ∷ write (block 3 5 1 1) 12 2 0 (block 3 5 1 0)
    ∷ write (block 3 5 255 3) 8 0 0 (block 3 5 1 1)  -- other bits become 0
    ∷ write (ones 16) 0 7 39 (ones 16)  -- a refusal leaves them
    ∷ write (ones 16) 2 7 38 (ones 16)
    ∷ write (ones 16) 16 7 38 (ones 16)
    ∷ write (ones 15) 0 7 38 (ones 15)  -- 38 is asked first
    ∷ write (ones 17) 4 7 38 (ones 17)
    ∷ interrupt (block 3 5 1 1) 1
    ∷ interrupt (block 3 5 1 0) 0
    ∷ interrupt (block 3 5 0 1) 0
    ∷ interrupt (block 3 5 3 5) 1
    ∷ interrupt (ones 16) 1
    ∷ interrupt (ones 15) 0
    ∷ interrupt (ones 17) 0
    ∷ []

-- the case with what the definitions give
computed : Case → Case
computed (start b n r) = start b (block_number b) (started_bytes b)
computed (reading b c n r) = reading b c (block_number b) (reading_bytes b c)
computed (read b a r) = read b a (register_number b a)
computed (write b a x n r) = write b a x (writing_number b a) (written_bytes b a x)
computed (interrupt b r) = interrupt b (interrupt_word b)

all_right : map computed cases ≡ cases
unfolding registers blocks word_at bytes_of block ones cases computed
all_right = refl
