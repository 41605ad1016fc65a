-- What holds of any list of events (specs/Ticks.antt): `ReadFollows`, `TimerTrue`, `NoneMissed`, `StaysSet`, `StaysCleared`.
use Rattle.std.proofs.Common.{◌≡◌, ℕ, ◌+◌, ◌-◌, ◌^◌, ◌<◌, ◌≤◌, Bool, true, false, cond, not, ◌&&◌, ◌||◌, eqb, List, [], ◌∷◌, sym, refl, ap, ◌∙◌, true≢false, arith, eqb-true}
use mathlib.Core.Bool.{or-true, and-true, and-false}
use Rattle.timer.specs.declared.Timer.{Timer}
use Rattle.timer.specs.Registers.{wrap, reached, reading, written, bit0}
use Rattle.timer.specs.Ticks.{Event, passes, read_in, writes, reads, World, came, counted, watched, next, after, Follows, ReadFollows, Near, TimerTrue, NoReading, KeepsCompare, KeepsMatch, Each, NoneMissed, StaysSet, StaysCleared}
use Rattle.timer.proofs.Watching.{reached_came, seen, never}

-- ---- a write

-- what holds of each outcome that is taken holds of the one chosen
chosen : (P : Timer → Type 0) (p q r : Bool) (t u v w : Timer) → (p ≡ true → P t) → (q ≡ true → P u) → P v → P w → P (cond p t (cond q u (cond r v w)))
chosen P true q r t u v w f g h k = f refl
chosen P false true r t u v w f g h k = g refl
chosen P false false true t u v w f g h k = h
chosen P false false false t u v w f g h k = k

module _ (t : Timer) (a x : ℕ) where
  pub count_kept : (written t a x).count ≡ t.count
  unfolding written
  count_kept = chosen (λ u. u.count ≡ t.count) (eqb a 4) (eqb a 8) (eqb a 12) _ _ _ _ (λ e. refl) (λ e. refl) refl refl

  pub compare_word : x < 2 ^ 32 → t.compare < 2 ^ 32 → (written t a x).compare < 2 ^ 32
  unfolding written
  compare_word l m = chosen (λ u. u.compare < 2 ^ 32) (eqb a 4) (eqb a 8) (eqb a 12) _ _ _ _ (λ e. l) (λ e. m) m m

  compare_kept : (a ≡ 4 → ⊥) → (written t a x).compare ≡ t.compare
  unfolding written
  compare_kept h = chosen (λ u. u.compare ≡ t.compare) (eqb a 4) (eqb a 8) (eqb a 12) _ _ _ _ (λ e. absurd (h (eqb-true a 4 e))) (λ e. refl) refl refl

  -- a match that is set stays, unless 1 is written to bit 0 of status; one that is not stays so
  not_cleared : (b : Bool) → bit0 x ≡ b → (bit0 x ≡ true → ⊥) → t.matched && not b ≡ t.matched
  not_cleared true e h = absurd (h e)
  not_cleared false e h = and-true t.matched

  match_kept : (a ≡ 8 → bit0 x ≡ true → ⊥) → t.matched ≡ true → (written t a x).matched ≡ true
  unfolding written
  match_kept h m =
      chosen (λ u. u.matched ≡ true) (eqb a 4) (eqb a 8) (eqb a 12) _ _ _ _ (λ e. m) (λ e. not_cleared (bit0 x) refl (h (eqb-true a 8 e)) ∙ m) m m

  unset_kept : t.matched ≡ false → (written t a x).matched ≡ false
  unfolding written
  unset_kept m =
      chosen (λ u. u.matched ≡ false) (eqb a 4) (eqb a 8) (eqb a 12) _ _ _ _ (λ e. m) (λ e. ap (λ (y : Bool). y && not (bit0 x)) m) m m

-- ---- any events

pub follows_read : ReadFollows
unfolding next counted reading
follows_read w l = record { count = refl; compare = l; past = omega arith }

follows_write : (w : World) (a x : ℕ) → x < 2 ^ 32 → Follows w → Follows (next counted w (writes a x))
unfolding next
follows_write w a x l f =
    record { count = count_kept w.timer a x ∙ f.count; compare = compare_word w.timer a x l f.compare; past = f.past }

follows_pass : (w : World) (n : ℕ) → Follows w → Follows (next counted w (passes n))
unfolding next
follows_pass w n f = record { count = f.count; compare = f.compare; past = omega (arith, f.past) }

-- a reading by differences of counts leaves what a look at every tick leaves
same_reading : (w : World) → Follows w → w.ticks < w.read + 2 ^ 32 → counted w ≡ watched w
unfolding counted watched reading
same_reading w f m = rw (reached_came w f m) refl

same_next : (w : World) → Follows w → w.ticks < w.read + 2 ^ 32 → next counted w read_in ≡ next watched w read_in
unfolding next
same_next w f m = rw (same_reading w f m) refl

pub timer_true : TimerTrue
unfolding after next
timer_true w [] f n = refl
timer_true w (passes k ∷ es) f n = timer_true (next counted w (passes k)) es (follows_pass w k f) n
timer_true w (read_in ∷ es) f n =
    timer_true (next counted w read_in) es (follows_read w f.compare) n.1 ∙ ap (λ (z : World). after watched z es) (same_next w f n.0)
timer_true w (writes a x ∷ es) f n = timer_true (next counted w (writes a x)) es (follows_write w a x n.0 f) n.1
timer_true w (reads a ∷ es) f n = timer_true w es f n

-- ---- between two readings

-- what events that are no reading and write no compare leave as it was; ticks do not fall
record Kept (v w : World) : Type 0 where
  pub count : w.timer.count ≡ v.timer.count
  pub compare : w.timer.compare ≡ v.timer.compare
  pub read : w.read ≡ v.read
  pub ticks : v.ticks ≤ w.ticks

kept_next : (v w : World) (e : Event) → NoReading e → KeepsCompare e → Kept v w → Kept v (next counted w e)
unfolding next
kept_next v w (passes n) b c k = record { count = k.count; compare = k.compare; read = k.read; ticks = omega (arith, k.ticks) }
kept_next v w read_in b c k = absurd b
kept_next v w (writes a x) b c k =
    record { count = count_kept w.timer a x ∙ k.count; compare = compare_kept w.timer a x c ∙ k.compare; read = k.read; ticks = k.ticks }
kept_next v w (reads a) b c k = k

kept_after : (v w : World) (es : List Event) → Each NoReading es → Each KeepsCompare es → Kept v w → Kept v (after counted w es)
unfolding after
kept_after v w [] b c k = k
kept_after v w (e ∷ es) b c k = kept_after v (next counted w e) es b.1 c.1 (kept_next v w e b.0 c.0 k)

follows_kept : (v w : World) → Kept v w → Follows v → Follows w
follows_kept v w k f =
    record {
      count = k.count ∙ f.count ∙ ap wrap (sym k.read);
      compare = omega (arith, k.compare, f.compare);
      past = omega (arith, k.read, k.ticks, f.past);
    }

-- the match after a reading
match_is : (w : World) → Follows w → w.ticks < w.read + 2 ^ 32
    → (next counted w read_in).timer.matched ≡ (came w.timer.compare w.read (w.ticks - w.read) || w.timer.matched)
unfolding next watched
match_is w f m = ap (λ (t : Timer). t.matched) (same_reading w f m)

pub none_missed : NoneMissed
unfolding next counted reading
none_missed w es l b c m =
    let first = next counted w read_in in
    let last = after counted first es in
    let k = kept_after first first es b c (record { count = refl; compare = refl; read = refl; ticks = omega arith }) in
    match_is last (follows_kept first last k (follows_read w l)) (omega (arith, k.read, m)) ∙ (rw (k.compare, k.read) refl)

-- ---- set until it is cleared

set_next : (w : World) (e : Event) → KeepsMatch e → w.timer.matched ≡ true → (next counted w e).timer.matched ≡ true
unfolding next counted reading
set_next w (passes n) k m = m
set_next w read_in k m = ap (λ (b : Bool). reached w.timer (wrap w.ticks) || b) m ∙ or-true (reached w.timer (wrap w.ticks))
set_next w (writes a x) k m = match_kept w.timer a x k m
set_next w (reads a) k m = m

pub stays_set : StaysSet
unfolding after
stays_set w [] k m = m
stays_set w (e ∷ es) k m = stays_set (next counted w e) es k.1 (set_next w e k.0 m)

-- ---- and from then on

grows : (w : World) (es : List Event) → w.ticks ≤ (after counted w es).ticks
unfolding after next
grows w [] = omega arith
grows w (passes n ∷ es) = let g = grows (next counted w (passes n)) es in omega arith
grows w (read_in ∷ es) = grows (next counted w read_in) es
grows w (writes a x ∷ es) = grows (next counted w (writes a x)) es
grows w (reads a ∷ es) = grows w es

-- where the counter does not come to c from `from` to `to`, it does not on a part of that way
part : (c from to a b : ℕ) → came c from (to - from) ≡ false → from ≤ a → a ≤ b → b ≤ to → came c a (b - a) ≡ false
part c from to a b h l m n =
    never c a (b - a)
    (λ k. true≢false (sym (seen c from (to - from)
    (record { tick = k.tick; later = omega (arith, k.later); by_then = omega (arith, k.by_then); equal = k.equal })) ∙ h))

-- a reading on that way leaves the match as it is
unset_read : (w : World) (to : ℕ) → Follows w → w.ticks < w.read + 2 ^ 32 → came w.timer.compare w.read (to - w.read) ≡ false → w.ticks ≤ to
    → w.timer.matched ≡ false → (next counted w read_in).timer.matched ≡ false
unset_read w to f n h l m =
    match_is w f n ∙ (rw (part w.timer.compare w.read to w.read w.ticks h (omega arith) f.past l, m) refl)

unset_after : (w : World) (es : List Event) → Follows w → Each KeepsCompare es → Near w es
    → came w.timer.compare w.read ((after counted w es).ticks - w.read) ≡ false → w.timer.matched ≡ false
    → (after counted w es).timer.matched ≡ false
unfolding after next counted reading
unset_after w [] f k n h m = m
unset_after w (passes i ∷ es) f k n h m = unset_after (next counted w (passes i)) es (follows_pass w i f) k.1 n h m
unset_after w (read_in ∷ es) f k n h m =
    let v = next counted w read_in in
    let end = (after counted v es).ticks in
    let g = grows v es in
    unset_after v es (follows_read w f.compare) k.1 n.1
    (part w.timer.compare w.read end w.ticks end h f.past g (omega arith)) (unset_read w end f n.0 h g m)
unset_after w (writes a x ∷ es) f k n h m =
    let v = next counted w (writes a x) in
    unset_after v es (follows_write w a x n.0 f) k.1 n.1
    (ap (λ (c : ℕ). came c w.read ((after counted v es).ticks - w.read)) (compare_kept w.timer a x k.0) ∙ h) (unset_kept w.timer a x m)
unset_after w (reads a ∷ es) f k n h m = unset_after w es f k.1 n h m

-- 1 in bit 0 of status
clears : (t : Timer) (x : ℕ) → bit0 x ≡ true → (written t 8 x).matched ≡ false
unfolding written
clears t x e = rw e (and-false t.matched)

pub stays_cleared : StaysCleared
unfolding next
stays_cleared w x es f e k n h =
    let v = next counted w (writes 8 x) in
    let c = compare_kept w.timer 8 x (λ z. omega arith) in
    unset_after v es
    (record { count = count_kept w.timer 8 x ∙ f.count; compare = omega (arith, c, f.compare); past = f.past }) k n
    (ap (λ (c : ℕ). came c w.read ((after counted v es).ticks - w.read)) c ∙ h) (clears w.timer x e)
