-- A block's bytes stand for its timer over any list of calls: `TimerThroughC`, `BlockTells`, `BoardTrue` (specs/Claim.antt).
use Prim.Native.Nat.{ℕ, ◌+◌, ◌-◌, ◌*◌, ◌<◌, ◌^◌}
use mathlib.Core.Path.{◌≡◌, refl, sym, ap, ◌∙◌, subst}
use mathlib.Core.Bool.{Bool, true, false}
use mathlib.Core.List.{List, ◌∷◌, []}
use native.Mathlib.Omega.{arith}
use lib.ListN.{length}
use lib.Dec.{eqb}
use borrow.Author.Tests.{eqb-true, eqb-false}
use Rattle.plan.specs.Image.{word_at}
use Rattle.plan.specs.Boundary.{bytes_of}
use Rattle.words.proofs.Words.{low_word}
use Rattle.timer.specs.declared.Timer.{Timer}
use Rattle.timer.specs.Registers.{wrap, fresh, reading, interrupts, read_number, read_value, written, bit0, bit_word}
use Rattle.timer.specs.Ticks.{Event, passes, read_in, writes, reads, World, counted, next, after, Near, Each}
use Rattle.timer.proofs.Accesses.{refused_none}
use Rattle.timer.proofs.Missing.{count_kept, compare_word, follows_read, timer_true}
use Rattle.timerblock.specs.Blocks.{timer_of, timer_bytes, started_bytes, reading_bytes, writing_number, written_bytes}
use Rattle.timerblock.specs.Claim.{Board, calls, all_calls, StandsFor, IsBoard, InWidth, WritesWord, TimerThroughC, BlockTells, BoardTrue}
use Rattle.timerblock.proofs.Blocks.{started_yes, reading_yes, register_yes, writing_yes, interrupt_yes, write_done, write_refused}

-- ---- there and back

timer_length : (t : Timer) → length (timer_bytes t) ≡ 16
unfolding timer_bytes bytes_of
timer_length t = refl

bit_small : (b : Bool) → bit_word b < 2 ^ 32
unfolding bit_word
bit_small true = omega arith
bit_small false = omega arith

bit_back : (b : Bool) → bit0 (bit_word b) ≡ b
unfolding bit0 bit_word
bit_back true = refl
bit_back false = refl

-- a timer's bytes stand for it
timer_back : (t : Timer) → t.count < 2 ^ 32 → t.compare < 2 ^ 32 → timer_of (timer_bytes t) ≡ t
unfolding timer_of timer_bytes word_at bytes_of
timer_back t l m =
    rw (
      low_word t.count l,
      low_word t.compare m,
      low_word (bit_word t.matched) (bit_small t.matched),
      low_word (bit_word t.enabled) (bit_small t.enabled),
      bit_back t.matched,
      bit_back t.enabled,
    )
    refl

-- ---- one call

pub reading_width : (t : Timer) (n : ℕ) → n < 2 ^ 32 → InWidth t → InWidth (reading t n)
unfolding reading
reading_width t n l w = record { count = l; compare = w.compare }

pub written_width : (t : Timer) (a x : ℕ) → x < 2 ^ 32 → InWidth t → InWidth (written t a x)
written_width t a x l w =
    record { count = subst (λ (c : ℕ). c < 2 ^ 32) (sym (count_kept t a x)) w.count; compare = compare_word t a x l w.compare }

pub wrap_word : (n : ℕ) → wrap n < 2 ^ 32
unfolding wrap
wrap_word n = omega arith

pub fresh_width : InWidth fresh
unfolding fresh
fresh_width = record { count = omega arith; compare = omega arith }

-- bytes written anew stand for the timer that was written
anew : (b : List ℕ) (t : Timer) → InWidth t → b ≡ timer_bytes t → StandsFor b t
anew b t w e =
    record { size = ap length e ∙ timer_length t; timer = ap timer_of e ∙ timer_back t w.count w.compare }

pub stands_fresh : (b : List ℕ) → length b ≡ 16 → StandsFor (started_bytes b) fresh
stands_fresh b l = anew (started_bytes b) fresh fresh_width (sym (started_yes b l))

module _ (b : List ℕ) (t : Timer) (i : StandsFor b t) where
  pub stands_reading : (n : ℕ) → InWidth (reading t n) → StandsFor (reading_bytes b n) (reading t n)
  stands_reading n w =
      anew (reading_bytes b n) (reading t n) w
      (sym (reading_yes b i.size n) ∙ ap (λ (u : Timer). timer_bytes (reading u n)) i.timer)

  pub stands_written : (a x : ℕ) → InWidth (written t a x) → StandsFor (written_bytes b a x) (written t a x)
  stands_written a x w = go (eqb (writing_number b a) 0) refl
    where
      go : (y : Bool) → eqb (writing_number b a) 0 ≡ y → StandsFor (written_bytes b a x) (written t a x)
      go true e =
          anew (written_bytes b a x) (written t a x) w
          (sym (write_done b a x (eqb-true _ _ e)) ∙ ap (λ (u : Timer). timer_bytes (written u a x)) i.timer)
      go false e =
          let h = eqb-false (writing_number b a) 0 e in
          let s = sym (write_refused b a x h) in
          record {
            size = ap length s ∙ i.size;
            timer = ap timer_of s ∙ i.timer ∙ refused_none t a x (λ z. h (sym (writing_yes b i.size a) ∙ z));
          }

-- ---- any list of calls

read_width : (w : World) → InWidth w.timer → InWidth (next counted w read_in).timer
unfolding next counted
read_width w v = reading_width w.timer (wrap w.ticks) (wrap_word w.ticks) v

module _ (w : World) (d : Board) (i : IsBoard w d) where
  board_read : InWidth w.timer → IsBoard (next counted w read_in) (calls d read_in)
  unfolding calls next counted
  board_read v =
      rw i.ticks
      (record { block = stands_reading d.block w.timer i.block (wrap w.ticks) (reading_width w.timer (wrap w.ticks) (wrap_word w.ticks) v); ticks = refl })

  board_write : (a x : ℕ) → x < 2 ^ 32 → InWidth w.timer → IsBoard (next counted w (writes a x)) (calls d (writes a x))
  unfolding calls next
  board_write a x l v = record { block = stands_written d.block w.timer i.block a x (written_width w.timer a x l v); ticks = i.ticks }

  board_pass : (n : ℕ) → IsBoard (next counted w (passes n)) (calls d (passes n))
  unfolding calls next
  board_pass n = record { block = i.block; ticks = ap (λ (k : ℕ). k + n) i.ticks }

pub timer_through_c : TimerThroughC
unfolding after all_calls next calls
timer_through_c w d [] v n i = i
timer_through_c w d (passes k ∷ es) v n i = timer_through_c (next counted w (passes k)) (calls d (passes k)) es v n.1 (board_pass w d i k)
timer_through_c w d (read_in ∷ es) v n i =
    timer_through_c (next counted w read_in) (calls d read_in) es (read_width w v) n.1 (board_read w d i v)
timer_through_c w d (writes a x ∷ es) v n i =
    timer_through_c (next counted w (writes a x)) (calls d (writes a x)) es (written_width w.timer a x n.0 v) n.1 (board_write w d i a x n.0 v)
timer_through_c w d (reads a ∷ es) v n i = timer_through_c w d es v n.1 i

pub block_tells : BlockTells
block_tells b t i = (
  λ a. sym (register_yes b i.size a) ∙ ap (λ (u : Timer). read_number a + 2 ^ 32 * read_value u a) i.timer,
  sym (interrupt_yes b i.size) ∙ ap (λ (u : Timer). bit_word (interrupts u)) i.timer,
)

-- ---- from a start on

near_words : (w : World) (es : List Event) → Near w es → Each WritesWord es
near_words w [] n = tt
near_words w (passes k ∷ es) n = (tt, near_words (next counted w (passes k)) es n)
near_words w (read_in ∷ es) n = (tt, near_words (next counted w read_in) es n.1)
near_words w (writes a x ∷ es) n = (n.0, near_words (next counted w (writes a x)) es n.1)
near_words w (reads a ∷ es) n = (tt, near_words w es n)

pub board_true : BoardTrue
unfolding fresh
board_true b n l =
    let o : World = record { timer = fresh; ticks = n; read = 0 } in
    let w = next counted o read_in in
    let d = calls (record { block = started_bytes b; ticks = n }) read_in in
    let i = board_read o (record { block = started_bytes b; ticks = n }) (record { block = stands_fresh b l; ticks = refl }) fresh_width in
    let f = follows_read o (omega arith) in
    let v = read_width o fresh_width in
    (i, f, v, λ es m. subst (λ (x : World). IsBoard x (all_calls d es)) (timer_true w es f m) (timer_through_c w d es v (near_words w es m) i))

-- the premise lets events of every kind through, and every word
pub calls_of_every_kind : Each WritesWord (passes 1 ∷ read_in ∷ writes 4 (2 ^ 32 - 1) ∷ reads 0 ∷ [])
calls_of_every_kind = (tt, (tt, (omega arith, (tt, tt))))
