-- A block's bytes (specs/Blocks.antt): a timer's words stored, and what each call leaves, of a block and of bytes that are none.
use Prim.Native.Nat.{ℕ, ◌+◌, ◌*◌, ◌^◌}
use mathlib.Core.Path.{◌≡◌, refl, sym, ◌∙◌}
use mathlib.Core.Logic.{◌≢◌}
use mathlib.Core.Bool.{true, false}
use mathlib.Core.List.{List, ◌++◌}
use native.Mathlib.Omega.{arith}
use lib.ListN.{length, length-append}
use lib.Seq.{sets}
use borrow.Author.Tests.{eq-eqb, ne_eqb}
use Rattle.plan.specs.Boundary.{bytes_of}
use Rattle.words.proofs.Bytes.{bytes_length, grow, covers}
use Rattle.timer.specs.declared.Timer.{Timer}
use Rattle.timer.specs.Registers.{fresh, reading, interrupts, read_number, write_number, bit_word, read_value, written}
use Rattle.timerblock.specs.Blocks.{timer_of, timer_bytes, is_block, block_number, started_bytes, reading_bytes, register_number, writing_number, written_bytes, interrupt_word}

module _ (b : List ℕ) where
  -- four words stored one by one
  pub timer_stored :
      (t : Timer)
      → length b ≡ 16
      → sets
      (sets
      (sets (sets b 0 (bytes_of 4 t.count)) 4 (bytes_of 4 t.compare))
      8
      (bytes_of 4 (bit_word t.matched)))
      12
      (bytes_of 4 (bit_word t.enabled))
      ≡ timer_bytes t
  unfolding timer_bytes
  timer_stored t l =
      let c : List ℕ = bytes_of 4 t.count in
      let d : List ℕ = c ++ bytes_of 4 t.compare in
      let e : List ℕ = d ++ bytes_of 4 (bit_word t.matched) in
      let f : List ℕ = e ++ bytes_of 4 (bit_word t.enabled) in
      let n : length f ≡ 16 = simp (length-append, bytes_length) in
      sym
      (grow b e _ _ 12 (simp (length-append, bytes_length))
      (grow b d _ _ 8 (simp (length-append, bytes_length)) (grow b c _ _ 4 (simp bytes_length) refl)))
      ∙ covers b f (omega arith)

  -- a block
  module _ (l : length b ≡ 16) where
    is_block_holds : is_block b ≡ true
    unfolding is_block
    is_block_holds = eq-eqb (length b) 16 l

    pub number_yes : 0 ≡ block_number b
    unfolding block_number
    number_yes = rw is_block_holds refl

    pub started_yes : timer_bytes fresh ≡ started_bytes b
    unfolding started_bytes
    started_yes = rw is_block_holds refl

    pub reading_yes : (new : ℕ) → timer_bytes (reading (timer_of b) new) ≡ reading_bytes b new
    unfolding reading_bytes
    reading_yes new = rw is_block_holds refl

    pub register_yes : (a : ℕ) → read_number a + 2 ^ 32 * read_value (timer_of b) a ≡ register_number b a
    unfolding register_number
    register_yes a = rw is_block_holds refl

    pub writing_yes : (a : ℕ) → write_number a ≡ writing_number b a
    unfolding writing_number
    writing_yes a = rw is_block_holds refl

    pub interrupt_yes : bit_word (interrupts (timer_of b)) ≡ interrupt_word b
    unfolding interrupt_word
    interrupt_yes = rw is_block_holds refl

  -- bytes that are none
  module _ (l : length b ≢ 16) where
    no_block : is_block b ≡ false
    unfolding is_block
    no_block = ne_eqb (length b) 16 l

    pub number_no : 38 ≡ block_number b
    unfolding block_number
    number_no = rw no_block refl

    pub started_no : b ≡ started_bytes b
    unfolding started_bytes
    started_no = rw no_block refl

    pub reading_no : (new : ℕ) → b ≡ reading_bytes b new
    unfolding reading_bytes
    reading_no new = rw no_block refl

    pub register_no : (a : ℕ) → 38 ≡ register_number b a
    unfolding register_number
    register_no a = rw no_block refl

    pub writing_no : (a : ℕ) → 38 ≡ writing_number b a
    unfolding writing_number
    writing_no a = rw no_block refl

    pub interrupt_no : 0 ≡ interrupt_word b
    unfolding interrupt_word bit_word
    interrupt_no = rw no_block refl

  -- the bytes after a write
  pub write_done : (a x : ℕ) → writing_number b a ≡ 0 → timer_bytes (written (timer_of b) a x) ≡ written_bytes b a x
  unfolding written_bytes
  write_done a x e = rw (eq-eqb (writing_number b a) 0 e) refl

  pub write_refused : (a x : ℕ) → writing_number b a ≢ 0 → b ≡ written_bytes b a x
  unfolding written_bytes
  write_refused a x e = rw (ne_eqb (writing_number b a) 0 e) refl
