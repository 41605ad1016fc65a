-- The tick timer's registers (paper 02, request 12): a fresh block, readings, register reads and writes, the interrupt; 38 and 39.
use Rattle.std.specs.Prelude.{ℕ, ◌+◌, ◌-◌, ◌%◌, ◌^◌, Bool, false, cond, not, ◌&&◌, ◌||◌, ◌==◌, nat_le}
use Rattle.timer.specs.declared.Timer.{Timer}

-- the counter has 32 bits: its count after n ticks
unfoldable pub wrap : ℕ → ℕ
wrap n = n % 2 ^ 32

-- a count less another, modulo 2^32
unfoldable pub minus : ℕ → ℕ → ℕ
minus a b = wrap (a + (2 ^ 32 - b))

-- a fresh block holds 0 everywhere
unfoldable pub fresh : Timer
fresh = record { count = 0; compare = 0; matched = false; enabled = false }

module _ (t : Timer) where
  -- is compare less the old count from 1 to the ticks gone by, the new count less the old one?
  unfoldable pub reached : ℕ → Bool
  reached new = nat_le 1 (minus t.compare t.count) && nat_le (minus t.compare t.count) (minus new t.count)

  -- a reading brings in the counter's new value; exactly then the match is set, else it stays
  unfoldable pub reading : ℕ → Timer
  reading new = record { count = new; compare = t.compare; matched = reached new || t.matched; enabled = t.enabled }

  -- the interrupt is raised while both bits are 1
  unfoldable pub interrupts : Bool
  interrupts = t.matched && t.enabled

-- 38: is the address 0, 4, 8 or 12?
unfoldable pub is_register : ℕ → Bool
is_register a = a == 0 || a == 4 || a == 8 || a == 12

-- a register read asks 38; a write asks 38, then 39: is it not to count?
unfoldable pub read_number : ℕ → ℕ
read_number a = cond (is_register a) 0 38

unfoldable pub write_number : ℕ → ℕ
write_number a = cond (is_register a) (cond (a == 0) 39 0) 38

-- bit 0 of a word, and the word of which it is the only bit
unfoldable pub bit0 : ℕ → Bool
bit0 x = x % 2 == 1

unfoldable pub bit_word : Bool → ℕ
bit_word b = cond b 1 0

module _ (t : Timer) (a : ℕ) where
  -- the word of the register at address a: count, compare, status, enable; a refused read gives 0
  unfoldable pub read_value : ℕ
  read_value =
      cond (a == 0) t.count
      (cond (a == 4) t.compare
      (cond (a == 8) (bit_word t.matched)
      (cond (a == 12) (bit_word t.enabled) 0)))

  -- the timer after word x is written to it: 1 in bit 0 of status clears the match, 0 does not; a refused write changes nothing
  unfoldable pub written : ℕ → Timer
  written x =
      cond (a == 4) (record { count = t.count; compare = x; matched = t.matched; enabled = t.enabled })
      (cond (a == 8) (record { count = t.count; compare = t.compare; matched = t.matched && not (bit0 x); enabled = t.enabled })
      (cond (a == 12) (record { count = t.count; compare = t.compare; matched = t.matched; enabled = bit0 x }) t))

-- All of the above, for a proof by computation: `unfolding registers` opens it.
unfoldable pub registers : Unit {0}
unfolding wrap minus fresh reached reading interrupts is_register read_number write_number bit0 bit_word read_value written
registers = tt
