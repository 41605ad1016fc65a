-- What `queued` (demand 3; plan's Runs.antt) says is not empty, and the lowest delay is needed in it as it stands: with a delay of one tick less a frame comes
-- to its queue where another is still being sent.
use Prim.Native.Nat.{ℕ, zero, suc, ◌≤◌, ◌<◌}
use mathlib.Core.Path.{◌≡◌, refl}
use mathlib.Core.Bool.{Bool, true, not}
use mathlib.Core.List.{List}
use native.Mathlib.Omega.{arith}
use native.Mathlib.Decide.{dec_lt}
use lib.ListN.{replicate}
use borrow.Author.Tests.{not-true}
use Rattle.plan.specs.declared.Table.TheVariants.{Frames}
use Rattle.plan.specs.declared.LaneState.{LaneState}
use Rattle.plan.specs.Image.{precision, rows, link, frame}
use Rattle.plan.specs.Search.{all, count}
use Rattle.plan.specs.Questions.{same_queue}
use Rattle.plan.specs.Dispatch.{Shown, tables_below, first_word, starts_at, dispatch}
use Rattle.plan.specs.Runs as Run
use Rattle.plan.specs.Runs.{all_lanes, seen, First, Done, Ready, Kept, InBounds, running}
use Rattle.plan.specs.Cases.{bytes, queueing, sharing}
use Rattle.plan.proofs.Searching.{all_yes}
use Rattle.plan.proofs.Tables.{count_mono}
use Rattle.plan.proofs.Demand.{demand_3}
use Rattle.plan.proofs.Witness.{has_start}

-- two streams that share queue 3 of link 1; link 0's lowest delay is 1 (plan's Cases.antt)
abbrev two : List ℕ
two = bytes (queueing 1 3)

words : List ℕ
words = tables_below two 5

row : List LaneState
row = starts_at (first_word two) 5 5

ready : Ready two words row 5
unfolding dispatch bytes queueing words row
ready = has_start two refl 5 (omega arith)

shown : ℕ → List Shown
shown = seen words row (replicate 8 all_lanes)

-- node 0's clock is ahead, as far as may be
ahead : ℕ → ℕ
ahead zero = 1
ahead (suc n) = 0

near : (n : ℕ) → ahead n ≤ precision two
unfolding dispatch bytes queueing ahead
near zero = omega arith
near (suc n) = omega arith

sends : ℕ → ℕ → Bool
sends f = Run.in_cycle two 5 ahead shown 0 (Run.sends two 5 ahead shown f)

first_by : (test : ℕ → Bool) (i : ℕ) → test i ≡ true → all i (λ j. not (test j)) ≡ true → First test i
first_by test i e h = record { passes = e; none_before = λ j l. not-true (test j) (all_yes (λ j. not (test j)) i h j l) }

not_yet : (test : ℕ → Bool) → count 5 test < 2 → (e : ℕ) → Done 2 test e → 5 < e
not_yet test h e d = go (dec_lt 5 e)
  where
    go : Dec (5 < e) → 5 < e
    go (yes l) = l
    go (no l) = absurd (omega (arith, count_mono test e 5 (omega arith), d.so_many))

-- stream 1's frame is in the queue at tick 5, whatever the delays
queue_met : (delay : ℕ → ℕ → ℕ) → Run.InQueue two 5 ahead shown delay 0 0 5
unfolding running bytes queueing words row shown sends ahead
queue_met delay = record { come = (4, record { passes = refl; so_many = refl }, omega arith); not_sent = not_yet (sends 0) (omega arith) }

-- so with any delays within their bounds no other frame of its queue is
kept : (delay : ℕ → ℕ → ℕ) → InBounds two delay → Kept two 5 ahead shown delay 8
unfolding dispatch bytes queueing words row shown
kept delay bounds = (demand_3 two words row 5 ready ahead near delay bounds (replicate 8 all_lanes) tt).kept_all 8 refl

no_other : (delay : ℕ → ℕ → ℕ) → InBounds two delay → (z g : ℕ) → g < rows two Frames → same_queue two 0 g ≡ true
    → Run.InQueue two 5 ahead shown delay z g 5 → (0 ≡ z) × (0 ≡ g)
unfolding dispatch bytes queueing
no_other delay bounds z g l e q = (kept delay bounds).queued 0 z 0 g 5 (omega arith) l (omega arith) e (queue_met delay) q

-- where a frame crosses in no time, stream 0's is there too, on its way from link 0
quick : ℕ → ℕ → ℕ
quick f y = 0

also_there : Run.InQueue two 5 ahead shown quick 0 2 5
unfolding running bytes queueing words row shown sends ahead quick
also_there = record { come = (6, first_by (sends 1) 6 refl refl, omega arith); not_sent = not_yet (sends 2) (omega arith) }

queue_shared : ((link two (frame two 1).link).lowest ≡ 1) × ¬ (Kept two 5 ahead shown quick 8)
unfolding dispatch bytes queueing
queue_shared = (refl, λ k. absurd (let z = (k.queued 0 0 0 2 5 (omega arith) (omega arith) (omega arith) refl (queue_met quick) also_there).1 in omega arith))

-- ---- a frame of hop 0 is in its queue before it is sent: from its sender's end, 8, on, though it is sent at 10 (plan's Cases.antt)

abbrev shared : List ℕ
shared = bytes (sharing 6 2)

shared_shown : ℕ → List Shown
shared_shown = seen (tables_below shared 3) (starts_at (first_word shared) 5 3) (replicate 12 all_lanes)

waits_there : (delay : ℕ → ℕ → ℕ) → Run.InQueue shared 5 ahead shared_shown delay 0 1 9
unfolding running bytes sharing shared_shown ahead
waits_there delay = record { come = (8, record { passes = refl; so_many = refl }, omega arith); not_sent = λ e d. later e d (dec_lt 9 e) }
  where
    test : ℕ → Bool
    test = Run.in_cycle shared 5 ahead shared_shown 0 (Run.sends shared 5 ahead shared_shown 1)

    later : (e : ℕ) → Done 2 test e → Dec (9 < e) → 9 < e
    later e d (yes l) = l
    later e d (no l) = absurd (let z : count 9 test ≡ 0 = refl in omega (arith, count_mono test e 9 (omega arith), d.so_many))
