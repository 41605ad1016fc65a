-- The premises of specs/Ticks.antt and specs/Driving.antt can be met, by events of every kind; and what its claims leave open is shown to be so: too many ticks between two readings, a compare
-- written between them, a match that is cleared before its tick was read.
use Rattle.std.proofs.Common.{◌≡◌, ◌-◌, ◌^◌, Bool, true, false, ◌||◌, List, [], ◌∷◌, sym, refl, true≢false, arith}
use Rattle.timer.specs.Registers.{fresh, registers}
use Rattle.timer.specs.Driving as Driving
use Rattle.timer.specs.Driving.{begin, turns, Drives, rounds, total, Below, UpToDate}
use Rattle.timer.specs.Ticks.{Event, passes, read_in, writes, reads, World, came, Comes, counted, next, after, Follows, Near, NoReading, KeepsCompare, KeepsMatch, Each}
use Rattle.timer.proofs.Missing.{none_missed}
use Rattle.timer.proofs.Turning.{none_lost, keeps_up}

-- ---- premises

-- read at tick 0, with compare 5
unfoldable pub begun : World
begun = after counted (record { timer = fresh; ticks = 0; read = 0 }) (read_in ∷ writes 4 5 ∷ [])

pub begun_follows : Follows begun
unfolding begun counted next after registers
begun_follows = record { count = refl; compare = omega arith; past = omega arith }

-- every kind of event between two readings, 2^32 - 1 ticks among them; a write to count is refused
abbrev pub quietly : List Event
quietly = passes 3 ∷ writes 8 0 ∷ writes 12 1 ∷ writes 0 7 ∷ reads 0 ∷ passes (2 ^ 32 - 4) ∷ []

pub quietly_between : Each NoReading quietly × Each KeepsCompare quietly × Each KeepsMatch quietly
unfolding registers
quietly_between = (
  (tt, (tt, (tt, (tt, (tt, (tt, tt)))))),
  (tt, ((λ e. omega arith), ((λ e. omega arith), ((λ e. omega arith), (tt, (tt, tt)))))),
  (tt, ((λ e f. true≢false (sym f)), ((λ e f. omega arith), ((λ e f. omega arith), (tt, (tt, tt)))))),
)

-- so the request's sentence speaks of two readings that are 2^32 - 1 ticks apart
pub seen_late : (next counted (after counted (next counted begun read_in) quietly) read_in).timer.matched ≡ (came 5 0 (2 ^ 32 - 1) || false)
unfolding begun counted next after registers
seen_late = none_missed begun quietly (omega arith) quietly_between.0 quietly_between.1 (omega arith)

-- readings and a compare among them
abbrev pub near_by : List Event
near_by = passes 3 ∷ writes 8 0 ∷ reads 0 ∷ passes (2 ^ 32 - 4) ∷ read_in ∷ writes 4 (2 ^ 32 - 1) ∷ passes (2 ^ 32 - 1) ∷ read_in ∷ read_in ∷ []

pub near_by_near : Near begun near_by
unfolding begun counted next after registers
near_by_near = (omega arith, (omega arith, (omega arith, (omega arith, (omega arith, tt)))))

abbrev pub with_readings : List Event
with_readings = passes 3 ∷ read_in ∷ reads 8 ∷ writes 12 1 ∷ read_in ∷ []

pub readings_kept : Each KeepsCompare with_readings × Each KeepsMatch with_readings
readings_kept = ((tt, (tt, (tt, ((λ e. omega arith), (tt, tt))))), (tt, (tt, (tt, ((λ e f. omega arith), (tt, tt))))))

-- a loop that steps as seldom as it may, and comes as late as it may, in turns and in rounds
pub late : Below ((2 ^ 32 - 1) ∷ 0 ∷ 7 ∷ [])
late = (omega arith, (omega arith, (omega arith, tt)))

pub seldom : let e = 2 ^ 32 - 1 in Drives e 7 (Driving.after e (begin e 7) (Driving.passes e ∷ turns ∷ []))
unfolding begin Driving.next
seldom = none_lost (2 ^ 32 - 1) 7 (omega arith) (omega arith) (Driving.passes (2 ^ 32 - 1) ∷ turns ∷ []) (omega arith, tt)

pub seldom_up : let e = 2 ^ 32 - 1 in UpToDate e 7 (total (e ∷ 0 ∷ 7 ∷ [])) (rounds e (begin e 7) (e ∷ 0 ∷ 7 ∷ []))
seldom_up = (keeps_up (2 ^ 32 - 1) 7 (omega arith) (omega arith) ((2 ^ 32 - 1) ∷ 0 ∷ 7 ∷ []) late).0

-- ---- what is left open

-- the match after events
unfoldable pub match_after : List Event → Bool
match_after es = (after counted begun es).timer.matched

-- 2^32 ticks pass: the counter comes to compare, and the reading does not see it; one tick fewer, and it does
pub too_many : Comes 5 0 (2 ^ 32) × (match_after (passes (2 ^ 32) ∷ read_in ∷ []) ≡ false)
unfolding match_after begun counted next after registers
too_many = (record { tick = 5; later = omega arith; by_then = omega arith; equal = refl }, refl)

pub just_seen : match_after (passes (2 ^ 32 - 1) ∷ read_in ∷ []) ≡ true
unfolding match_after begun counted next after registers
just_seen = refl

-- compare is written between two readings: the later one goes by what was written last, for all ticks since the earlier one. So the tick at which the counter came to
-- the old compare is not seen, and the one at which it came to the new compare, before that was written, is.
pub old_compare : match_after (passes 7 ∷ writes 4 9 ∷ read_in ∷ []) ≡ false
unfolding match_after begun counted next after registers
old_compare = refl

pub new_compare : match_after (passes 7 ∷ writes 4 2 ∷ read_in ∷ []) ≡ true
unfolding match_after begun counted next after registers
new_compare = refl

-- cleared after the counter came to compare, but before that was read: the next reading sets it
pub cleared_sooner : match_after (passes 7 ∷ writes 8 1 ∷ read_in ∷ []) ≡ true
unfolding match_after begun counted next after registers
cleared_sooner = refl
