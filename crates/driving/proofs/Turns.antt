-- The loop through C is timer's loop: its block stands for the loop's timer, and its records are those after the loop's steps.
use Prim.Native.Nat.{ℕ, zero, suc, ◌+◌, ◌*◌, ◌/◌, ◌<◌, ◌≤◌, ◌^◌}
use mathlib.Core.Path.{◌≡◌, refl, sym, ap, ◌∙◌}
use mathlib.Core.Bool.{Bool, true, false, cond}
use mathlib.Core.List.{List, ◌∷◌, []}
use native.Mathlib.Omega.{arith}
use lib.Dec.{eqb}
use lib.ListN.{length, replicate}
use Rattle.plan.specs.Boundary.{step_all_number, step_all_bytes}
use Rattle.plan.specs.Runs.{all_lanes}
use Rattle.loading.specs.Loaded.{leaves_bytes, after_bytes}
use Rattle.timer.specs.declared.Timer.{Timer}
use Rattle.timer.specs.Registers.{wrap, minus, fresh, reading, interrupts, is_register, read_number, bit_word, read_value, written}
use Rattle.timer.specs.Driving.{Loop, begin, on_way, brings, raised, turn, Event, passes, turns, next, after, InTime, take_all, rounds, Below}
use Rattle.timer.proofs.Turning.{Waits, begun, waits_turn, turn_near, waits_pass, Up, begun_up, next_up, up_near}
use Rattle.timerblock.specs.Blocks.{started_bytes, reading_bytes, written_bytes, interrupt_word}
use Rattle.timerblock.specs.Claim.{StandsFor, InWidth}
use Rattle.timerblock.proofs.Through.{block_tells, reading_width, written_width, wrap_word, fresh_width, stands_fresh, stands_reading, stands_written}
use Rattle.driving.specs.Driven.{Tool, value, begin_c, read_c, raised_c, turn_c, next_c, after_c, take_all_c, rounds_c}

-- ---- what the loop reads of a block

module _ (b : List ℕ) (t : Timer) (i : StandsFor b t) where
  -- the value of a register that there is
  value_is : (a : ℕ) → read_number a ≡ 0 → value b a ≡ read_value t a
  unfolding value
  value_is a e =
      ap (λ (n : ℕ). n / 2 ^ 32) ((block_tells b t i).0 a ∙ ap (λ (n : ℕ). n + 2 ^ 32 * read_value t a) e) ∙ omega arith

  value_count : value b 0 ≡ t.count
  unfolding read_number is_register read_value
  value_count = value_is 0 refl

  value_compare : value b 4 ≡ t.compare
  unfolding read_number is_register read_value
  value_compare = value_is 4 refl

  bit_is : (x : Bool) → eqb (bit_word x) 1 ≡ x
  unfolding bit_word
  bit_is true = refl
  bit_is false = refl

  interrupt_is : eqb (interrupt_word b) 1 ≡ interrupts t
  interrupt_is = ap (λ (n : ℕ). eqb n 1) (block_tells b t i).1 ∙ bit_is (interrupts t)

-- ---- the records

module _ (ws : List ℕ) where
  -- what n calls gave, the last one first
  unfoldable pub given : ℕ → List ℕ → List ℕ
  given zero row = []
  given (suc n) row = step_all_number ws (after_bytes ws row (replicate n all_lanes)) ∷ given n row

  -- a call after n others
  after_more : (n : ℕ) (row : List ℕ) → after_bytes ws row (replicate (suc n) all_lanes) ≡ step_all_bytes ws (after_bytes ws row (replicate n all_lanes))
  unfolding after_bytes leaves_bytes
  after_more zero row = refl
  after_more (suc n) row = after_more n (step_all_bytes ws row)

  given_more : (n : ℕ) (row r ns : List ℕ) → r ≡ after_bytes ws row (replicate n all_lanes) → ns ≡ given n row → step_all_number ws r ∷ ns ≡ given (suc n) row
  unfolding given
  given_more n row r ns e f = rw (e, f) refl

-- ---- the loop

pub record Is (ws row : List ℕ) (l : Loop) (d : Tool) : Type 0 where
  pub block : StandsFor d.block l.timer
  pub ticks : d.ticks ≡ l.ticks
  pub records : d.row ≡ after_bytes ws row (replicate l.steps all_lanes)
  pub numbers : d.numbers ≡ given ws l.steps row

small : (x : Bool) (a b : ℕ) → a < 2 ^ 32 → b < 2 ^ 32 → cond x a b < 2 ^ 32
small true a b l m = l
small false a b l m = m

module _ (ws row : List ℕ) (every b : ℕ) (h : 1 ≤ every) (n : every < 2 ^ 32) where
  is_begun : (block : List ℕ) → length block ≡ 16 → Is ws row (begin every b) (begin_c ws every b block row)
  unfolding begin begin_c after_bytes given
  is_begun block z =
      let x = wrap (wrap b + every) in
      let l = wrap_word (wrap b + every) in
      let f = reading fresh (wrap b) in
      let c = written f 4 x in
      let u = reading_width fresh (wrap b) (wrap_word b) fresh_width in
      let v = written_width f 4 x l u in
      let i = stands_reading (started_bytes block) fresh (stands_fresh block z) (wrap b) u in
      let j = stands_written (reading_bytes (started_bytes block) (wrap b)) f i 4 x v in
      record {
        block = stands_written (written_bytes (reading_bytes (started_bytes block) (wrap b)) 4 x) c j 12 1 (written_width c 12 1 (omega arith) v);
        ticks = refl;
        records = refl;
        numbers = refl;
      }

  -- ---- a turn

  module _ (l : Loop) (d : Tool) (w : Waits every b l) (i : Is ws row l d) where
    -- what is brought in
    to : ℕ
    to = cond (on_way l) l.timer.compare (wrap l.ticks)

    read_is : read_c ws every d ≡ reading_bytes d.block to
    unfolding read_c on_way to
    read_is = rw (value_count d.block l.timer i.block, value_compare d.block l.timer i.block, i.ticks) refl

    width : InWidth l.timer
    width = rw w.timer (record { count = wrap_word l.brought; compare = wrap_word w.due })

    brings_width : InWidth (brings l)
    unfolding brings to
    brings_width = reading_width l.timer to (small (on_way l) l.timer.compare (wrap l.ticks) width.compare (wrap_word l.ticks)) width

    cleared : List ℕ
    cleared = written_bytes (read_c ws every d) 8 1

    cleared_width : InWidth (written (brings l) 8 1)
    cleared_width = written_width (brings l) 8 1 (omega arith) brings_width

    stands_read : StandsFor (read_c ws every d) (brings l)
    unfolding brings to
    stands_read = rw read_is (stands_reading d.block l.timer i.block to brings_width)

    stands_cleared : StandsFor cleared (written (brings l) 8 1)
    unfolding cleared
    stands_cleared = stands_written (read_c ws every d) (brings l) stands_read 8 1 cleared_width

    -- clearing leaves compare as it was
    value_on : value cleared 4 ≡ l.timer.compare
    unfolding brings reading written
    value_on = value_compare cleared (written (brings l) 8 1) stands_cleared

    stands_on : StandsFor (written_bytes cleared 4 (wrap (value cleared 4 + every))) (written (written (brings l) 8 1) 4 (wrap (l.timer.compare + every)))
    stands_on =
        let x = wrap (l.timer.compare + every) in
        rw value_on
        (stands_written cleared (written (brings l) 8 1) stands_cleared 4 x (written_width (written (brings l) 8 1) 4 x (wrap_word (l.timer.compare + every)) cleared_width))

    pub raised_is : raised_c ws every d ≡ raised l
    unfolding raised_c raised
    raised_is = interrupt_is (read_c ws every d) (brings l) stands_read

    pub is_turned : Is ws row (turn l every) (turn_c ws every d)
    unfolding turn turn_c cleared
    is_turned = rw raised_is (go (raised l))
      where
        go : (x : Bool)
            → Is ws row
            (record {
              timer = cond x (written (written (brings l) 8 1) 4 (wrap (l.timer.compare + every))) (brings l);
              ticks = l.ticks;
              brought = cond (on_way l) (l.brought + minus l.timer.compare l.timer.count) l.ticks;
              steps = cond x (suc l.steps) l.steps;
            })
            (cond x
            (record {
              block = written_bytes cleared 4 (wrap (value cleared 4 + every));
              row = step_all_bytes ws d.row;
              ticks = d.ticks;
              numbers = step_all_number ws d.row ∷ d.numbers;
            })
            (record { block = read_c ws every d; row = d.row; ticks = d.ticks; numbers = d.numbers }))
        go true =
            record {
              block = stands_on;
              ticks = i.ticks;
              records = ap (step_all_bytes ws) i.records ∙ sym (after_more ws l.steps row);
              numbers = given_more ws l.steps row d.row d.numbers i.records i.numbers;
            }
        go false = record { block = stands_read; ticks = i.ticks; records = i.records; numbers = i.numbers }

  is_passed : (l : Loop) (d : Tool) (k : ℕ) → Is ws row l d → Is ws row (next every l (passes k)) (next_c ws every d (passes k))
  unfolding next next_c
  is_passed l d k i = record { block = i.block; ticks = ap (λ (m : ℕ). m + k) i.ticks; records = i.records; numbers = i.numbers }

  is_after : (l : Loop) (d : Tool) (es : List Event) → Waits every b l → Is ws row l d → InTime every l es → Is ws row (after every l es) (after_c ws every d es)
  unfolding after after_c next next_c
  is_after l d [] w i t = i
  is_after l d (passes k ∷ es) w i t = is_after (next every l (passes k)) (next_c ws every d (passes k)) es (waits_pass every b h n l k w) (is_passed l d k i) t
  is_after l d (turns ∷ es) w i t = is_after (turn l every) (turn_c ws every d) es (waits_turn every b h n l w t.0) (is_turned l d w i) t.1

  -- after any list of ticks and turns
  pub is_loop : (block : List ℕ) → length block ≡ 16 → (es : List Event) → InTime every (begin every b) es
      → Is ws row (after every (begin every b) es) (after_c ws every (begin_c ws every b block row) es)
  is_loop block z es t = is_after (begin every b) (begin_c ws every b block row) es (begun every b h n) (is_begun block z) t

  -- ---- rounds

  is_taken : (k : ℕ) (l : Loop) (d : Tool) → Waits every b l → l.ticks < l.brought + 2 ^ 32 → Is ws row l d → Is ws row (take_all every k l) (take_all_c ws every k d)
  unfolding take_all take_all_c
  is_taken zero l d w p i = i
  is_taken (suc k) l d w p i =
      rw (raised_is l d w i)
      (go (raised l) (is_taken k (turn l every) (turn_c ws every d) (waits_turn every b h n l w p) (turn_near every b h n l w p) (is_turned l d w i)))
    where
      go : (x : Bool) → Is ws row (take_all every k (turn l every)) (take_all_c ws every k (turn_c ws every d))
          → Is ws row (cond x (take_all every k (turn l every)) (turn l every)) (cond x (take_all_c ws every k (turn_c ws every d)) (turn_c ws every d))
      go true j = j
      go false j = is_turned l d w i

  is_rounds : (ns : List ℕ) (l : Loop) (d : Tool) (t : ℕ) → Up every b h n t l → Is ws row l d → Below ns → Is ws row (rounds every l ns) (rounds_c ws every d ns)
  unfolding rounds rounds_c
  is_rounds [] l d t u i m = i
  is_rounds (k ∷ ns) l d t u i m =
      is_rounds ns (take_all every (suc k) (next every l (passes k))) (take_all_c ws every (suc k) (next_c ws every d (passes k))) (t + k) (next_up every b h n l k t u m.0)
      (is_taken (suc k) (next every l (passes k)) (next_c ws every d (passes k)) (waits_pass every b h n l k u.waits) (up_near every b h n l k t u m.0) (is_passed l d k i))
      m.1

  -- after any rounds
  pub is_round : (block : List ℕ) → length block ≡ 16 → (ns : List ℕ) → Below ns → Is ws row (rounds every (begin every b) ns) (rounds_c ws every (begin_c ws every b block row) ns)
  is_round block z ns m = is_rounds ns (begin every b) (begin_c ws every b block row) 0 (begun_up every b h n) (is_begun block z) m
