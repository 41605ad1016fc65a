-- A loop that steps by the timer loses no tick: `NoneLost`, `KeepsUp` (specs/Driving.antt).
use Rattle.std.proofs.Common.{◌≡◌, ℕ, zero, suc, ◌+◌, ◌-◌, ◌*◌, ◌/◌, ◌^◌, ◌<◌, ◌≤◌, Bool, true, false, cond, leb, List, [], ◌∷◌, sym, refl, ap, ◌∙◌, subst, true≢false, add-zero, add_assoc, suc-mul, suc-add, zero-add, zero-mul, arith, le-leb, leb-false, leb-true}
use lib.Arith.{digits_div}
use borrow.Author.Tests.{lt-leb}
use Rattle.timer.specs.declared.Timer.{Timer}
use Rattle.timer.specs.Registers.{wrap, minus, fresh, reached, reading, interrupts, written, bit0}
use Rattle.timer.specs.Driving.{Loop, begin, on_way, brings, raised, turn, Event, passes, turns, next, after, InTime, take_all, rounds, Drives, NoneLost, total, Below, UpToDate, KeepsUp}
use Rattle.timer.proofs.Counts.{gone_by, wrap_on}

-- The timer of a loop: its count is that of the ticks brought in, compare that of the tick at which the next step is due; the match is
-- not set, and may interrupt.
abbrev pub waiting : ℕ → ℕ → Timer
waiting brought due = record { count = wrap brought; compare = wrap due; matched = false; enabled = true }

-- so many steps were due up to the ticks brought in, and no more: the next one at `due`
pub record Waits (every b : ℕ) (l : Loop) : Type 0 where
  pub due : ℕ
  pub timer : l.timer ≡ waiting l.brought due
  pub next_due : due ≡ b + l.steps * every + every
  pub made : b + l.steps * every ≤ l.brought
  pub not_yet : l.brought < due
  pub passed : l.brought ≤ l.ticks

module _ (every brought due ticks steps : ℕ) (l : brought < due) (m : due ≤ brought + every) (n : every < 2 ^ 32) (o : brought ≤ ticks) (p : ticks < brought + 2 ^ 32) where
  abbrev loop : Loop
  loop = record { timer = waiting brought due; ticks = ticks; brought = brought; steps = steps }

  until : minus (wrap due) (wrap brought) ≡ due - brought
  until = gone_by brought due (omega arith) (omega arith)

  gone : minus (wrap ticks) (wrap brought) ≡ ticks - brought
  gone = gone_by brought ticks o p

  -- the step is due: one is made, and the next is due `every` ticks later
  loud_way : due ≤ ticks → on_way loop ≡ true
  unfolding on_way
  loud_way d = rw (until, gone) (le-leb (due - brought) (ticks - brought) (omega arith))

  loud_brings : due ≤ ticks → brings loop ≡ record { count = wrap due; compare = wrap due; matched = true; enabled = true }
  unfolding brings reading reached
  loud_brings d = rw (loud_way d, until, le-leb 1 (due - brought) (omega arith), le-leb (due - brought) (due - brought) (omega arith)) refl

  loud_raised : due ≤ ticks → raised loop ≡ true
  unfolding raised interrupts
  loud_raised d = rw (loud_brings d) refl

  loud : due ≤ ticks → turn loop every ≡ record { timer = waiting due (due + every); ticks = ticks; brought = due; steps = suc steps }
  unfolding turn written bit0
  loud d =
      let e : brought + (due - brought) ≡ due = omega arith in
      rw (loud_raised d, loud_brings d, loud_way d, until, e, wrap_on due every) refl

  -- it is not: all ticks are brought in
  quiet_way : ticks < due → on_way loop ≡ false
  unfolding on_way
  quiet_way d = rw (until, gone) (lt-leb (due - brought) (ticks - brought) (omega arith))

  quiet_brings : ticks < due → brings loop ≡ waiting ticks due
  unfolding brings reading reached
  quiet_brings d =
      rw (quiet_way d, until, gone, le-leb 1 (due - brought) (omega arith), lt-leb (due - brought) (ticks - brought) (omega arith)) refl

  quiet_raised : ticks < due → raised loop ≡ false
  unfolding raised interrupts
  quiet_raised d = rw (quiet_brings d) refl

  quiet : ticks < due → turn loop every ≡ record { timer = waiting ticks due; ticks = ticks; brought = ticks; steps = steps }
  unfolding turn
  quiet d = rw (quiet_raised d, quiet_brings d, quiet_way d) refl

-- ---- over any list of ticks and turns

module _ (every b : ℕ) (h : 1 ≤ every) (n : every < 2 ^ 32) where
  pub begun : Waits every b (begin every b)
  unfolding begin written reading reached fresh minus wrap bit0
  begun =
      record {
        due = b + every;
        timer = rw (wrap_on b every) refl;
        next_due = omega (arith, zero-mul every);
        made = omega (arith, zero-mul every);
        not_yet = omega arith;
        passed = omega arith;
      }

  -- a loop that waits, with its timer written out
  module _ (l : Loop) (w : Waits every b l) where
    shown : l ≡ record { timer = waiting l.brought w.due; ticks = l.ticks; brought = l.brought; steps = l.steps }
    shown = ap (λ (t : Timer). record { timer = t; ticks = l.ticks; brought = l.brought; steps = l.steps }) w.timer

    near : w.due ≤ l.brought + every
    near = omega (arith, w.next_due, w.made)

    module _ (p : l.ticks < l.brought + 2 ^ 32) where
      turn_loud : w.due ≤ l.ticks
          → turn l every ≡ record { timer = waiting w.due (w.due + every); ticks = l.ticks; brought = w.due; steps = suc l.steps }
      turn_loud d =
          ap (λ (k : Loop). turn k every) shown ∙ loud every l.brought w.due l.ticks l.steps w.not_yet near n w.passed p d

      turn_quiet : l.ticks < w.due
          → turn l every ≡ record { timer = waiting l.ticks w.due; ticks = l.ticks; brought = l.ticks; steps = l.steps }
      turn_quiet d =
          ap (λ (k : Loop). turn k every) shown ∙ quiet every l.brought w.due l.ticks l.steps w.not_yet near n w.passed p d

      turn_raised : w.due ≤ l.ticks → raised l ≡ true
      turn_raised d = ap raised shown ∙ loud_raised every l.brought w.due l.ticks l.steps w.not_yet near n w.passed p d

      turn_unraised : l.ticks < w.due → raised l ≡ false
      turn_unraised d = ap raised shown ∙ quiet_raised every l.brought w.due l.ticks l.steps w.not_yet near n w.passed p d

      -- a turn goes one of these two ways
      by_turn : (P : Loop → Type 0)
          → (w.due ≤ l.ticks → P (record { timer = waiting w.due (w.due + every); ticks = l.ticks; brought = w.due; steps = suc l.steps }))
          → (l.ticks < w.due → P (record { timer = waiting l.ticks w.due; ticks = l.ticks; brought = l.ticks; steps = l.steps }))
          → P (turn l every)
      by_turn P f g = go (leb w.due l.ticks) refl
        where
          go : (x : Bool) → leb w.due l.ticks ≡ x → P (turn l every)
          go true e = let d = leb-true w.due l.ticks e in subst P (sym (turn_loud d)) (f d)
          go false e = let d = leb-false w.due l.ticks e in subst P (sym (turn_quiet d)) (g d)

      pub waits_turn : Waits every b (turn l every)
      waits_turn =
          by_turn (Waits every b)
          (λ d.
          record {
            due = w.due + every;
            timer = refl;
            next_due = omega (arith, w.next_due, suc-mul l.steps every);
            made = omega (arith, w.next_due, suc-mul l.steps every);
            not_yet = omega arith;
            passed = d;
          })
          (λ d.
          record {
            due = w.due;
            timer = refl;
            next_due = w.next_due;
            made = omega (arith, w.made, w.passed);
            not_yet = d;
            passed = omega arith;
          })

      -- one that raises no interrupt brings all ticks in
      brought_in : raised l ≡ false → (turn l every).brought ≡ l.ticks
      brought_in r = by_turn (λ k. k.brought ≡ l.ticks) (λ d. absurd (true≢false (sym (turn_raised d) ∙ r))) (λ d. refl)

      -- and one that raises it brings in one tick at least
      further : (k : ℕ) → l.ticks < l.brought + suc k → raised l ≡ true → (turn l every).ticks < (turn l every).brought + k
      further k s r = by_turn (λ m. m.ticks < m.brought + k) (λ d. omega (arith, w.not_yet)) (λ d. absurd (true≢false (sym r ∙ turn_unraised d)))

      forward : l.brought ≤ (turn l every).brought
      forward = by_turn (λ k. l.brought ≤ k.brought) (λ d. omega (arith, w.not_yet)) (λ d. w.passed)

  same_ticks : (l : Loop) → (turn l every).ticks ≡ l.ticks
  unfolding turn
  same_ticks l = refl

  -- once all ticks are brought in, a turn changes nothing
  idle : (l : Loop) → Waits every b l → l.brought ≡ l.ticks → turn l every ≡ l
  idle l w e =
      turn_quiet l w (omega arith) (omega (arith, w.not_yet))
      ∙ ap (λ (k : ℕ). record { timer = waiting k w.due; ticks = l.ticks; brought = k; steps = l.steps }) (sym e)
      ∙ sym (shown l w)

  pub waits_pass : (l : Loop) (k : ℕ) → Waits every b l → Waits every b (next every l (passes k))
  unfolding next
  waits_pass l k w =
      record {
        due = w.due;
        timer = w.timer;
        next_due = w.next_due;
        made = w.made;
        not_yet = w.not_yet;
        passed = omega (arith, w.passed);
      }

  waits_after : (l : Loop) (es : List Event) → Waits every b l → InTime every l es → Waits every b (after every l es)
  unfolding after next
  waits_after l [] w i = w
  waits_after l (passes k ∷ es) w i = waits_after (next every l (passes k)) es (waits_pass l k w) i
  waits_after l (turns ∷ es) w i = waits_after (turn l every) es (waits_turn l w i.0) i.1

  exact : (l : Loop) → Waits every b l → l.steps ≡ (l.brought - b) / every
  exact l w =
      let r : ℕ = l.brought - (b + l.steps * every) in
      let e : l.steps * every + r ≡ l.brought - b = omega (arith, w.made) in
      sym (digits_div l.steps {m = every} {r = r} (omega (arith, w.made, w.not_yet, w.next_due))) ∙ ap (λ (z : ℕ). z / every) e

  drives : (l : Loop) → Waits every b l → Drives every b l
  drives l w = record { count = ap (λ (t : Timer). t.count) w.timer; passed = w.passed; exact = exact l w; quiet = brought_in l w; rests = idle l w }

  -- ---- rounds

  -- what the turns of a round leave, where at most k ticks are to be brought in, less one
  record Taken (l m : Loop) : Type 0 where
    pub waits : Waits every b m
    pub ticks : m.ticks ≡ l.ticks
    pub brought : m.brought ≡ l.ticks

  module _ (l : Loop) (w : Waits every b l) (p : l.ticks < l.brought + 2 ^ 32) where
    pub turn_near : (turn l every).ticks < (turn l every).brought + 2 ^ 32
    turn_near = omega (arith, same_ticks l, forward l w p)

    last_turn : raised l ≡ false → Taken l (turn l every)
    last_turn r = record { waits = waits_turn l w p; ticks = same_ticks l; brought = brought_in l w p r }

    turned_taken : (m : Loop) → Taken (turn l every) m → Taken l m
    turned_taken m t = record { waits = t.waits; ticks = t.ticks ∙ same_ticks l; brought = t.brought ∙ same_ticks l }

  taken : (k : ℕ) (l : Loop) → Waits every b l → l.ticks < l.brought + 2 ^ 32 → l.ticks < l.brought + k → Taken l (take_all every k l)
  unfolding take_all
  taken zero l w p s = absurd (omega (arith, w.passed))
  taken (suc k) l w p s =
      go (raised l) refl (λ r. turned_taken l w p (take_all every k (turn l every)) (taken k (turn l every) (waits_turn l w p) (turn_near l w p) (further l w p k s r)))
    where
      go : (x : Bool) → raised l ≡ x → (raised l ≡ true → Taken l (take_all every k (turn l every))) → Taken l (cond x (take_all every k (turn l every)) (turn l every))
      go true r h = h r
      go false r h = last_turn l w p r

  -- a greater bound changes nothing
  enough : (k j : ℕ) (l : Loop) → Waits every b l → l.ticks < l.brought + 2 ^ 32 → l.ticks < l.brought + k → take_all every (k + j) l ≡ take_all every k l
  unfolding take_all
  enough zero j l w p s = absurd (omega (arith, w.passed))
  enough (suc k) j l w p s = ap (λ (i : ℕ). take_all every i l) (suc-add k j) ∙ go (raised l) refl (λ r. enough k j (turn l every) (waits_turn l w p) (turn_near l w p) (further l w p k s r))
    where
      go : (x : Bool) → raised l ≡ x → (raised l ≡ true → take_all every (k + j) (turn l every) ≡ take_all every k (turn l every))
          → cond x (take_all every (k + j) (turn l every)) (turn l every) ≡ cond x (take_all every k (turn l every)) (turn l every)
      go true r h = h r
      go false r h = refl

  -- all ticks are brought in, d of them since b
  date : (l : Loop) (d : ℕ) → Waits every b l → l.ticks ≡ b + d → l.brought ≡ l.ticks → UpToDate every b d l
  date l d w t e = record { ticks = t; brought = e; steps = exact l w ∙ ap (λ (x : ℕ). x / every) (omega arith) }

  -- k more pass
  module _ (l : Loop) (k d : ℕ) (w : Waits every b l) (u : UpToDate every b d l) (m : k < 2 ^ 32) where
    round_near : (next every l (passes k)).ticks < (next every l (passes k)).brought + 2 ^ 32
    unfolding next
    round_near = omega (arith, u.brought)

    round_few : (next every l (passes k)).ticks < (next every l (passes k)).brought + suc k
    unfolding next
    round_few = omega (arith, u.brought)

    round_ticks : (next every l (passes k)).ticks ≡ b + (d + k)
    unfolding next
    round_ticks = omega (arith, u.ticks)

    round_taken : Taken (next every l (passes k)) (take_all every (suc k) (next every l (passes k)))
    round_taken = taken (suc k) (next every l (passes k)) (waits_pass l k w) round_near round_few

    round_done : UpToDate every b (d + k) (take_all every (suc k) (next every l (passes k)))
    round_done =
        let t = round_taken in
        date (take_all every (suc k) (next every l (passes k))) (d + k) t.waits (t.ticks ∙ round_ticks) (t.brought ∙ sym t.ticks)

  pub record Up (d : ℕ) (l : Loop) : Type 0 where
    pub waits : Waits every b l
    pub dated : UpToDate every b d l

  pub begun_up : Up 0 (begin every b)
  unfolding begin
  begun_up = record { waits = begun; dated = date (begin every b) 0 begun (omega arith) refl }

  -- a round more
  module _ (l : Loop) (k d : ℕ) (u : Up d l) (m : k < 2 ^ 32) where
    pub up_near : (next every l (passes k)).ticks < (next every l (passes k)).brought + 2 ^ 32
    up_near = round_near l k d u.waits u.dated m

    pub next_up : Up (d + k) (take_all every (suc k) (next every l (passes k)))
    next_up = record { waits = (round_taken l k d u.waits u.dated m).waits; dated = round_done l k d u.waits u.dated m }

  up : (ns : List ℕ) (l : Loop) (d : ℕ) → Up d l → Below ns → Up (d + total ns) (rounds every l ns)
  unfolding rounds total
  up [] l d u m = subst (λ (x : ℕ). Up x l) (sym (add-zero d)) u
  up (k ∷ ns) l d u m =
      let e = take_all every (suc k) (next every l (passes k)) in
      subst (λ (x : ℕ). Up x (rounds every e ns)) (add_assoc d k (total ns)) (up ns e (d + k) (next_up l k d u m.0) m.1)

pub none_lost : NoneLost
none_lost every b h n es i = drives every b h n (after every (begin every b) es) (waits_after every b h n (begin every b) es (begun every b h n) i)

pub keeps_up : KeepsUp
keeps_up every b h n ns m =
    let l = begin every b in
    let u = subst (λ (d : ℕ). Up every b h n d (rounds every l ns)) (zero-add (total ns)) (up every b h n ns l 0 (begun_up every b h n) m) in
    let e = rounds every l ns in (
      u.dated,
      λ i k s.
          enough every b h n (suc i) k (next every e (passes i)) (waits_pass every b h n e i u.waits)
          (round_near every b h n e i (total ns) u.waits u.dated s) (round_few every b h n e i (total ns) u.waits u.dated s),
    )
