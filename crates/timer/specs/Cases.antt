-- Worked cases of the tick timer (paper 02, request 12), each table proved by one computation: of its registers, beside the counter, and of a loop that steps by it.
use Rattle.std.specs.Prelude.{◌≡◌, ℕ, zero, suc, ◌-◌, ◌*◌, ◌^◌, List, [], ◌∷◌, map, refl}
use Rattle.timer.specs.declared.Timer.{Timer}
use Rattle.timer.specs.Registers.{fresh, reading, interrupts, read_number, write_number, bit_word, read_value, written, registers}
use Rattle.timer.specs.Ticks.{passes, read_in, writes, World, came, counted, watched, next, after}
use Rattle.timer.specs.Driving as Loops

-- ---- registers

-- a call: a reading of a new count, a word written to an address
data Call : Type 0 where
  reading_of : ℕ → Call
  write : ℕ → ℕ → Call

call : Timer → Call → Timer
call t (reading_of n) = reading t n
call t (write a x) = written t a x

calls : Timer → List Call → Timer
calls t [] = t
calls t (c ∷ cs) = calls (call t c) cs

-- count, compare, status and enable, as read, and the interrupt
shown : Timer → List ℕ
shown t = read_value t 0 ∷ read_value t 4 ∷ read_value t 8 ∷ read_value t 12 ∷ bit_word (interrupts t) ∷ []

-- a case and what is expected: what a fresh block shows after calls; the number and value of a register read with compare 7 and count 5; a write's number
data Case : Type 0 where
  shows : List Call → List ℕ → Case
  gives : ℕ → ℕ → ℕ → Case
  numbers : ℕ → ℕ → Case

cases : List Case
cases =
    shows [] (0 ∷ 0 ∷ 0 ∷ 0 ∷ 0 ∷ [])
    ∷ shows (write 4 5 ∷ reading_of 4 ∷ []) (4 ∷ 5 ∷ 0 ∷ 0 ∷ 0 ∷ [])
    ∷ shows (write 4 5 ∷ reading_of 5 ∷ []) (5 ∷ 5 ∷ 1 ∷ 0 ∷ 0 ∷ [])  -- the last of the ticks gone by
    ∷ shows (write 4 1 ∷ reading_of 5 ∷ []) (5 ∷ 1 ∷ 1 ∷ 0 ∷ 0 ∷ [])  -- the first
    ∷ shows (write 4 1 ∷ reading_of (2 ^ 32 - 1) ∷ []) ((2 ^ 32 - 1) ∷ 1 ∷ 1 ∷ 0 ∷ 0 ∷ [])  -- as many ticks as can be seen
    ∷ shows (reading_of 5 ∷ write 4 4 ∷ reading_of 4 ∷ []) (4 ∷ 4 ∷ 1 ∷ 0 ∷ 0 ∷ [])
    ∷ shows (reading_of 5 ∷ write 4 5 ∷ reading_of 9 ∷ []) (9 ∷ 5 ∷ 0 ∷ 0 ∷ 0 ∷ [])  -- compare is the old count: 2^32 ticks on
    ∷ shows (reading_of 5 ∷ write 4 5 ∷ reading_of 4 ∷ []) (4 ∷ 5 ∷ 0 ∷ 0 ∷ 0 ∷ [])
    ∷ shows (reading_of 5 ∷ write 4 5 ∷ reading_of 5 ∷ []) (5 ∷ 5 ∷ 0 ∷ 0 ∷ 0 ∷ [])  -- no tick has gone by
    ∷ shows (write 4 0 ∷ reading_of (2 ^ 32 - 1) ∷ reading_of 0 ∷ []) (0 ∷ 0 ∷ 1 ∷ 0 ∷ 0 ∷ [])  -- past the wrap
    ∷ shows (reading_of (2 ^ 32 - 2) ∷ write 4 1 ∷ reading_of 0 ∷ []) (0 ∷ 1 ∷ 0 ∷ 0 ∷ 0 ∷ [])
    ∷ shows (reading_of (2 ^ 32 - 2) ∷ write 4 1 ∷ reading_of 1 ∷ []) (1 ∷ 1 ∷ 1 ∷ 0 ∷ 0 ∷ [])
    ∷ shows (reading_of (2 ^ 32 - 2) ∷ write 4 (2 ^ 32 - 1) ∷ reading_of 1 ∷ []) (1 ∷ (2 ^ 32 - 1) ∷ 1 ∷ 0 ∷ 0 ∷ [])
    ∷ shows (write 4 5 ∷ reading_of 9 ∷ reading_of 10 ∷ []) (10 ∷ 5 ∷ 1 ∷ 0 ∷ 0 ∷ [])  -- it stays
    ∷ shows (write 4 5 ∷ reading_of 9 ∷ write 4 7 ∷ reading_of 9 ∷ []) (9 ∷ 7 ∷ 1 ∷ 0 ∷ 0 ∷ [])
    ∷ shows (write 4 5 ∷ reading_of 9 ∷ write 8 0 ∷ []) (9 ∷ 5 ∷ 1 ∷ 0 ∷ 0 ∷ [])  -- 0 does not clear it
    ∷ shows (write 4 5 ∷ reading_of 9 ∷ write 8 2 ∷ []) (9 ∷ 5 ∷ 1 ∷ 0 ∷ 0 ∷ [])
    ∷ shows (write 4 5 ∷ reading_of 9 ∷ write 8 3 ∷ []) (9 ∷ 5 ∷ 0 ∷ 0 ∷ 0 ∷ [])  -- 1 in bit 0 does
    ∷ shows (write 4 5 ∷ reading_of 9 ∷ write 8 1 ∷ reading_of 10 ∷ []) (10 ∷ 5 ∷ 0 ∷ 0 ∷ 0 ∷ [])  -- and it stays so
    ∷ shows (write 4 5 ∷ reading_of 9 ∷ write 8 1 ∷ reading_of 5 ∷ []) (5 ∷ 5 ∷ 1 ∷ 0 ∷ 0 ∷ [])  -- until the counter comes to compare again
    ∷ shows (write 8 1 ∷ []) (0 ∷ 0 ∷ 0 ∷ 0 ∷ 0 ∷ [])  -- it cannot be set by a write
    ∷ shows (write 12 3 ∷ []) (0 ∷ 0 ∷ 0 ∷ 1 ∷ 0 ∷ [])  -- other bits read 0
    ∷ shows (write 12 1 ∷ write 4 5 ∷ reading_of 9 ∷ []) (9 ∷ 5 ∷ 1 ∷ 1 ∷ 1 ∷ [])  -- both bits
    ∷ shows (write 12 1 ∷ write 4 5 ∷ reading_of 9 ∷ write 12 2 ∷ []) (9 ∷ 5 ∷ 1 ∷ 0 ∷ 0 ∷ [])
    ∷ shows (reading_of 9 ∷ write 0 3 ∷ write 1 3 ∷ write 13 1 ∷ write 16 1 ∷ []) (9 ∷ 0 ∷ 0 ∷ 0 ∷ 0 ∷ [])  -- refused
    ∷ gives 0 0 5
    ∷ gives 4 0 7
    ∷ gives 1 38 0
    ∷ gives 16 38 0
    ∷ gives (2 ^ 32 - 4) 38 0
    ∷ numbers 0 39
    ∷ numbers 4 0
    ∷ numbers 8 0
    ∷ numbers 12 0
    ∷ numbers 2 38
    ∷ numbers 16 38
    ∷ []

-- the case with what the definitions give in place of what is expected
computed : Case → Case
computed (shows cs r) = shows cs (shown (calls fresh cs))
computed (gives a n v) = gives a (read_number a) (read_value (reading (written fresh 4 7) 5) a)
computed (numbers a n) = numbers a (write_number a)

all_right : map computed cases ≡ cases
unfolding registers call calls shown cases computed
all_right = refl

-- ---- beside the counter

-- a timer that is read at tick `from`, and then gets a compare
read_at : ℕ → ℕ → World
read_at c from = after counted (record { timer = fresh; ticks = from; read = 0 }) (read_in ∷ writes 4 c ∷ [])

-- a compare, the tick of a reading, the ticks after it and whether the counter comes to compare in them; then the match by differences of counts and by a look at
-- each tick
data Look : Type 0 where
  look : ℕ → ℕ → ℕ → ℕ → ℕ → ℕ → Look

looks : List Look
looks =
    look 5 0 4 0 0 0
    ∷ look 5 0 5 1 1 1
    ∷ look 5 4 1 1 1 1  -- the first tick
    ∷ look 5 5 3 0 0 0  -- the reading's own tick is not among them
    ∷ look 0 (2 ^ 32 - 2) 1 0 0 0
    ∷ look 0 (2 ^ 32 - 2) 2 1 1 1  -- over the wrap
    ∷ look 7 (5 * 2 ^ 32) 7 1 1 1  -- after five wraps
    ∷ []

looked : Look → Look
looked (look c from n x y z) =
    let w = read_at c from in
    look c from n (bit_word (came c from n)) (bit_word (after counted w (passes n ∷ read_in ∷ [])).timer.matched)
    (bit_word (after watched w (passes n ∷ read_in ∷ [])).timer.matched)

all_looked : map looked looks ≡ looks
unfolding registers came counted watched next after read_at looks looked
all_looked = refl

-- ---- a loop that steps by the timer

turns_then : ℕ → List Loops.Event → List Loops.Event
turns_then zero es = es
turns_then (suc k) es = Loops.turns ∷ turns_then k es

-- a step every so many ticks, from tick b on, over ticks and turns, or over rounds: count, compare, status, ticks brought in since b, and steps
data Run : Type 0 where
  run : ℕ → ℕ → List Loops.Event → List ℕ → Run
  round : ℕ → ℕ → List ℕ → List ℕ → Run

runs : List Run
runs =
    run 3 0 [] (0 ∷ 3 ∷ 0 ∷ 0 ∷ 0 ∷ [])
    ∷ run 3 0 (Loops.passes 2 ∷ Loops.turns ∷ []) (2 ∷ 3 ∷ 0 ∷ 2 ∷ 0 ∷ [])
    ∷ run 3 0 (Loops.passes 3 ∷ Loops.turns ∷ []) (3 ∷ 6 ∷ 0 ∷ 3 ∷ 1 ∷ [])
    ∷ run 3 0 (Loops.passes 3 ∷ Loops.turns ∷ Loops.turns ∷ []) (3 ∷ 6 ∷ 0 ∷ 3 ∷ 1 ∷ [])  -- one step for a match
    ∷ run 3 0 (Loops.passes 11 ∷ Loops.turns ∷ []) (3 ∷ 6 ∷ 0 ∷ 3 ∷ 1 ∷ [])  -- late: no further than compare at a time
    ∷ run 3 0 (Loops.passes 11 ∷ turns_then 4 []) (11 ∷ 12 ∷ 0 ∷ 11 ∷ 3 ∷ [])
    ∷ run 3 (2 ^ 32 - 5) (Loops.passes 20 ∷ turns_then 7 []) (15 ∷ 16 ∷ 0 ∷ 20 ∷ 6 ∷ [])  -- over the wrap
    ∷ run 5 (2 ^ 32 - 5) (Loops.passes 5 ∷ Loops.turns ∷ []) (0 ∷ 5 ∷ 0 ∷ 5 ∷ 1 ∷ [])  -- compare at the wrap
    ∷ run 1 (2 ^ 32 - 2) (Loops.passes 2 ∷ turns_then 2 (Loops.passes 1 ∷ Loops.turns ∷ [])) (1 ∷ 2 ∷ 0 ∷ 3 ∷ 3 ∷ [])
    ∷ run (2 ^ 32 - 1) 7 (Loops.passes (2 ^ 32 - 1) ∷ Loops.turns ∷ Loops.passes (2 ^ 32 - 1) ∷ Loops.turns ∷ []) (5 ∷ 4 ∷ 0 ∷ (2 * (2 ^ 32 - 1)) ∷ 2 ∷ [])
    ∷ round 3 (2 ^ 32 - 5) (4 ∷ 0 ∷ 9 ∷ 1 ∷ []) (9 ∷ 10 ∷ 0 ∷ 14 ∷ 4 ∷ [])
    ∷ round 1 (2 ^ 32 - 2) (3 ∷ 1 ∷ []) (2 ∷ 3 ∷ 0 ∷ 4 ∷ 4 ∷ [])
    ∷ []

told : ℕ → Loops.Loop → List ℕ
told b l = l.timer.count ∷ l.timer.compare ∷ bit_word l.timer.matched ∷ (l.brought - b) ∷ l.steps ∷ []

ran : Run → Run
ran (run every b es r) = run every b es (told b (Loops.after every (Loops.begin every b) es))
ran (round every b ns r) = round every b ns (told b (Loops.rounds every (Loops.begin every b) ns))

all_ran : map ran runs ≡ runs
unfolding registers Loops.begin Loops.on_way Loops.brings Loops.raised Loops.turn Loops.next Loops.after Loops.take_all Loops.rounds turns_then runs told ran
all_ran = refl
