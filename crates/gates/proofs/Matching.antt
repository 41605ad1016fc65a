-- Gate lists (paper 02, request 13): the gates of a link are a gate list of it, and the only one (specs/Claim.antt).
use Prim.Native.Nat.{ℕ, zero, suc, ◌+◌, ◌-◌, ◌*◌, ◌/◌, ◌%◌, ◌^◌, ◌≤◌, ◌<◌}
use mathlib.Core.Path.{◌≡◌, refl, sym, ap, ◌∙◌, subst}
use mathlib.Core.Logic.{◌↔◌, ◌≢◌}
use mathlib.Core.Bool.{Bool, true, false, cond}
use mathlib.Core.List.{List, ◌∷◌, ◌++◌, []}
use native.Mathlib.Nat.{zero-add, add-zero, suc-add, pow-succ', one-le-pow, pow-le-pow_right, mul-div-mul_left, mul-mod_right, div-eq_of_lt}
use native.Mathlib.Omega.{arith}
use native.Mathlib.Decide.{dec_lt}
use lib.ListN.{length}
use lib.Dec.{ltb, eqb}
use borrow.Author.Tests.{eqb-true, eqb-false, eq-eqb, ne_eqb, lt-ltb, le-ltb}
use Rattle.plan.specs.declared.Table.TheVariants.{Cores, Frames}
use Rattle.std.specs.Prelude.{Option}
use Rattle.std.specs.Prelude.{Some, None}
use Rattle.plan.specs.Image.{cycle_ticks, rows}
use Rattle.plan.specs.Questions.{answer_of, accepted, queue_of}
use Rattle.plan.specs.Dispatch.{show, frame_at, on_link, shown_at}
use Rattle.gates.specs.Gates.{Gate, gate, pairs, gate_words, octet_of, octet_at, gates_from, gates}
use Rattle.gates.specs.Claim.{open_at, ticks_of, Proper, OctetOf, GatesMatch, GatesOnly, GateWords}
use Rattle.plan.proofs.Facts.{Facts, QueueFacts, facts, queue_facts}
use Rattle.plan.proofs.Searching.{first_at}
use Rattle.plan.proofs.Showing.{link_lane}

-- ---- bits

by_one : (n : ℕ) → n / 1 ≡ n
by_one n = omega arith

-- the only bit of 2^p is bit p
bit_of : (p q : ℕ) → (2 ^ p / 2 ^ q % 2 ≡ 1) ↔ (p ≡ q)
bit_of zero zero = (λ _. refl, λ _. refl)
bit_of zero (suc q) =
    let big : 1 < 2 ^ suc q = rw (pow-succ' 2 q) (omega (arith, one-le-pow q 2 (omega arith))) in
    (λ h. absurd (let z : 1 / 2 ^ suc q ≡ 0 = div-eq_of_lt big in let w : 1 / 2 ^ suc q % 2 ≡ 1 = h in omega (arith, rw z at w)), λ e. absurd (omega arith))
bit_of (suc p) zero = (
  λ h. absurd (let z : 2 ^ suc p % 2 ≡ 0 = rw (pow-succ' 2 p) (mul-mod_right 2 (2 ^ p)) in let w : 2 ^ suc p / 1 % 2 ≡ 1 = h in omega (arith, rw (by_one (2 ^ suc p)) at w)),
  λ e. absurd (omega arith),
)
bit_of (suc p) (suc q) =
    let k = bit_of p q in
    let e : 2 ^ suc p / 2 ^ suc q ≡ 2 ^ p / 2 ^ q = rw (pow-succ' 2 p, pow-succ' 2 q) (mul-div-mul_left (2 ^ p) (2 ^ q) (omega arith)) in
    (λ h. ap suc (k.0 (rw e at h)), λ h. rw e (k.1 (omega arith)))

-- ---- the gates of a link

module _ (s : List ℕ) (l : ℕ) where
  -- a tick with the octet so far, and one with another
  pub gates_on : (o k t n : ℕ) → octet_at s l t ≡ o → gates_from s l o k t (suc n) ≡ gates_from s l o (k + 1) (t + 1) n
  unfolding gates_from
  gates_on o k t n e = rw (eq-eqb (octet_at s l t) o e, gates_from) refl

  pub gates_off : (o k t n : ℕ) → octet_at s l t ≢ o → gates_from s l o k t (suc n) ≡ gate o k ∷ gates_from s l (octet_at s l t) 1 (t + 1) n
  unfolding gates_from
  gates_off o k t n e = rw (ne_eqb (octet_at s l t) o e, gates_from) refl

  pub gates_next : (o k t n : ℕ) → gates_from s l o k t (suc n) ≡ cond (eqb (octet_at s l t) o) (gates_from s l o (k + 1) (t + 1) n) (gate o k ∷ gates_from s l (octet_at s l t) 1 (t + 1) n)
  gates_next o k t n = go (eqb (octet_at s l t) o) refl
    where
      go : (b : Bool) → eqb (octet_at s l t) o ≡ b
          → gates_from s l o k t (suc n) ≡ cond b (gates_from s l o (k + 1) (t + 1) n) (gate o k ∷ gates_from s l (octet_at s l t) 1 (t + 1) n)
      go true e = gates_on o k t n (eqb-true _ _ e)
      go false e = gates_off o k t n (eqb-false _ _ e)

  -- the same of j ticks with one octet: what a loop over a lane's stretches needs
  pub gates_on_for : (j o k t n : ℕ) → ((i : ℕ) → i < j → octet_at s l (t + i) ≡ o) → gates_from s l o k t (j + n) ≡ gates_from s l o (k + j) (t + j) n
  gates_on_for zero o k t n h = simp (zero-add, add-zero)
  gates_on_for (suc j) o k t n h =
      let a : k + 1 + j ≡ k + suc j = omega arith in let b : t + 1 + j ≡ t + suc j = omega arith in
      rw suc-add (gates_on o k t (j + n) (simp add-zero at (h 0 (omega arith))))
      ∙ gates_on_for j o (k + 1) (t + 1) n (λ i q. let d : t + 1 + i ≡ t + suc i = omega arith in rw d (h (suc i) (omega arith)))
      ∙ rw (a, b) refl

  -- the first gate has the octet so far
  head_of : (o k t n : ℕ) → (j : ℕ) × (gs : List Gate) × (gates_from s l o k t n ≡ gate o j ∷ gs)
  unfolding gates_from
  head_of o k t zero = (k, [], refl)
  head_of o k t (suc n) = rw (gates_next o k t n) (go (eqb (octet_at s l t) o) (λ k t. head_of o k t n))
    where
      go : (b : Bool) → ((k t : ℕ) → (j : ℕ) × (gs : List Gate) × (gates_from s l o k t n ≡ gate o j ∷ gs))
          → (j : ℕ) × (gs : List Gate) × (cond b (gates_from s l o (k + 1) (t + 1) n) (gate o k ∷ gates_from s l (octet_at s l t) 1 (t + 1) n) ≡ gate o j ∷ gs)
      go true r = r (k + 1) (t + 1)
      go false r = (k, gates_from s l (octet_at s l t) 1 (t + 1) n, refl)

  proper_from : (o k t n : ℕ) → 1 ≤ k → Proper (gates_from s l o k t n)
  unfolding gates_from gate
  proper_from o k t zero h = h
  proper_from o k t (suc n) h =
      rw (gates_next o k t n) (go (eqb (octet_at s l t) o) refl (proper_from o (k + 1) (t + 1) n (omega arith)) (proper_from (octet_at s l t) 1 (t + 1) n (omega arith)))
    where
      before : (gs : List Gate) {j : ℕ} {rest : List Gate} → octet_at s l t ≢ o → gs ≡ gate (octet_at s l t) j ∷ rest → Proper gs → Proper (gate o k ∷ gs)
      before gs d e p = subst (λ (x : List Gate). Proper (gate o k ∷ x)) (sym e) (h, (λ q. d (sym q)), subst Proper e p)

      go : (b : Bool) → eqb (octet_at s l t) o ≡ b → Proper (gates_from s l o (k + 1) (t + 1) n) → Proper (gates_from s l (octet_at s l t) 1 (t + 1) n)
          → Proper (cond b (gates_from s l o (k + 1) (t + 1) n) (gate o k ∷ gates_from s l (octet_at s l t) 1 (t + 1) n))
      go true e p q = p
      go false e p q = before (gates_from s l (octet_at s l t) 1 (t + 1) n) (eqb-false _ _ e) (head_of (octet_at s l t) 1 (t + 1) n).2 q

  ticks_from : (o k t n : ℕ) → ticks_of (gates_from s l o k t n) ≡ k + n
  unfolding gates_from ticks_of gate
  ticks_from o k t zero = omega arith
  ticks_from o k t (suc n) = rw (gates_next o k t n) (go (eqb (octet_at s l t) o) (ticks_from o (k + 1) (t + 1) n) (ticks_from (octet_at s l t) 1 (t + 1) n))
    where
      go : (b : Bool) → ticks_of (gates_from s l o (k + 1) (t + 1) n) ≡ k + 1 + n → ticks_of (gates_from s l (octet_at s l t) 1 (t + 1) n) ≡ 1 + n
          → ticks_of (cond b (gates_from s l o (k + 1) (t + 1) n) (gate o k ∷ gates_from s l (octet_at s l t) 1 (t + 1) n)) ≡ k + suc n
      go true p q = omega arith
      go false p q = omega arith

  -- the octet at each tick
  open_from : (o k t n x : ℕ) → x < k + n → open_at (gates_from s l o k t n) x ≡ cond (ltb x k) o (octet_at s l (t + (x - k)))
  unfolding gates_from open_at gate
  open_from o k t zero x h = rw (lt-ltb x k (omega arith)) refl
  open_from o k t (suc n) x h =
      rw (gates_next o k t n)
      (go (eqb (octet_at s l t) o) refl (dec_lt x k) (open_from o (k + 1) (t + 1) n x (omega arith)) (λ p. open_from (octet_at s l t) 1 (t + 1) n (x - k) p))
    where
      go : (b : Bool) → eqb (octet_at s l t) o ≡ b → Dec (x < k)
          → open_at (gates_from s l o (k + 1) (t + 1) n) x ≡ cond (ltb x (k + 1)) o (octet_at s l (t + 1 + (x - (k + 1))))
          → (x - k < 1 + n → open_at (gates_from s l (octet_at s l t) 1 (t + 1) n) (x - k) ≡ cond (ltb (x - k) 1) (octet_at s l t) (octet_at s l (t + 1 + (x - k - 1))))
          → open_at (cond b (gates_from s l o (k + 1) (t + 1) n) (gate o k ∷ gates_from s l (octet_at s l t) 1 (t + 1) n)) x ≡ cond (ltb x k) o (octet_at s l (t + (x - k)))
      go true e (yes p) a b = rw (lt-ltb x k p) (rw (lt-ltb x (k + 1) (omega arith)) at a)
      go true e (no p) a b = at_end (dec_lt k x)
        where
          at_end : Dec (k < x) → open_at (gates_from s l o (k + 1) (t + 1) n) x ≡ cond (ltb x k) o (octet_at s l (t + (x - k)))
          at_end (yes q) =
              let d : t + 1 + (x - (k + 1)) ≡ t + (x - k) = omega arith in
              rw (le-ltb x k (omega arith)) (rw (le-ltb x (k + 1) (omega arith), d) at a)
          at_end (no q) =
              let d : t + (x - k) ≡ t = omega arith in
              rw (le-ltb x k (omega arith), d) ((rw (lt-ltb x (k + 1) (omega arith)) at a) ∙ sym (eqb-true _ _ e))
      go false e (yes p) a b = rw (lt-ltb x k p) refl
      go false e (no p) a b = rw (le-ltb x k (omega arith)) (b (omega arith) ∙ at_end (dec_lt k x))
        where
          at_end : Dec (k < x) → cond (ltb (x - k) 1) (octet_at s l t) (octet_at s l (t + 1 + (x - k - 1))) ≡ octet_at s l (t + (x - k))
          at_end (yes q) =
              let d : t + 1 + (x - k - 1) ≡ t + (x - k) = omega arith in rw (le-ltb (x - k) 1 (omega arith), d) refl
          at_end (no q) = let d : t + (x - k) ≡ t = omega arith in rw (lt-ltb (x - k) 1 (omega arith), d) refl

-- ---- the octet of a tick

module _ (s : List ℕ) (f : Facts s) (k : QueueFacts s) where
  -- a link's lane that sends shows a frame of the plan
  link_row : (l t : ℕ) → (on_link s l t).kind ≡ 5 → (on_link s l t).row < rows s Frames
  unfolding on_link frame_at show
  link_row l t = go (frame_at s l t) refl
    where
      go : (d : Option ℕ) → frame_at s l t ≡ d → (on_link s l t).kind ≡ 5 → (on_link s l t).row < rows s Frames
      go (Some i) e k = rw (e, on_link) (first_at _ (rows s Frames) i e).0
      go None e k = absurd (let z : ◌≡◌ {A = ℕ} 0 5 = rw (e, on_link) at k in omega arith)

  queue_most : (l t : ℕ) → (shown_at s (rows s Cores + l) t).kind ≡ 5 → queue_of s (shown_at s (rows s Cores + l) t).row ≤ 7
  unfolding queue_of
  queue_most l t e5 =
      let e = link_lane s {l = rows s Cores + l} t (omega arith) in
      let r : (shown_at s (rows s Cores + l) t).row < rows s Frames = rw e (link_row (rows s Cores + l - rows s Cores) t (rw e at e5)) in
      k.queue_fits _ (f.names Frames (shown_at s (rows s Cores + l) t).row r).0

  octet_of_holds : (l t : ℕ) → OctetOf s l t
  unfolding octet_at octet_of
  octet_of_holds l t = go (eqb (shown_at s (rows s Cores + l) t).kind 5) refl
    where
      go : (b : Bool) → eqb (shown_at s (rows s Cores + l) t).kind 5 ≡ b → OctetOf s l t
      go true e =
          let five : (shown_at s (rows s Cores + l) t).kind ≡ 5 = eqb-true _ _ e in
          let m = queue_most l t five in
          let z : octet_at s l t ≡ 2 ^ queue_of s (shown_at s (rows s Cores + l) t).row = rw e refl in
          record {
            bit = λ q. let c = bit_of (queue_of s (shown_at s (rows s Cores + l) t).row) q in (λ h. (five, c.0 (rw z at h)), λ p. rw z (c.1 p.1));
            fits = rw z (small (queue_of s (shown_at s (rows s Cores + l) t).row) m);
          }
        where
          small : (q : ℕ) → q ≤ 7 → 2 ^ q < 256
          small q h = let r : 2 ^ q ≤ 2 ^ 7 = pow-le-pow_right (omega arith) h in omega arith
      go false e =
          let z : octet_at s l t ≡ 0 = rw e refl in
          record {
            bit = λ q. (λ h. absurd (none q (rw z at h)), λ p. absurd (eqb-false _ _ e p.0));
            fits = rw z (omega arith);
          }
        where
          none : (q : ℕ) → 0 / 2 ^ q % 2 ≡ 1 → ⊥
          none q h = let r : 0 / 2 ^ q ≡ 0 = div-eq_of_lt (one-le-pow q 2 (omega arith)) in omega (arith, rw r at h)

pub gates_match : GatesMatch
unfolding gates
gates_match s e l =
    let f = facts s e in
    let pos = f.cycle in
    let o = octet_at s l 0 in
    let n = cycle_ticks s - 1 in (
      record {
        proper = proper_from s l o 1 1 n (omega arith);
        cycle = ticks_from s l o 1 1 n ∙ omega arith;
        matches = λ t h. open_from s l o 1 1 n t (omega arith) ∙ from_one t (dec_lt t 1);
      },
      octet_of_holds s f (queue_facts s e) l,
    )
  where
    from_one : (t : ℕ) → Dec (t < 1) → cond (ltb t 1) (octet_at s l 0) (octet_at s l (1 + (t - 1))) ≡ octet_at s l t
    from_one t (yes p) = let d : t ≡ 0 = omega arith in rw d refl
    from_one t (no p) = let d : 1 + (t - 1) ≡ t = omega arith in rw (le-ltb t 1 (omega arith), d) refl

-- ---- two proper lists that open the same gates are equal

first_long : (g : Gate) (gs : List Gate) → Proper (g ∷ gs) → 1 ≤ g.interval
first_long g [] p = p
first_long g (h ∷ gs) p = p.0

rest_proper : (g : Gate) (gs : List Gate) → Proper (g ∷ gs) → Proper gs
rest_proper g [] p = tt
rest_proper g (h ∷ gs) p = p.2

open_first : (g : Gate) (gs : List Gate) (t : ℕ) → t < g.interval → open_at (g ∷ gs) t ≡ g.octet
unfolding open_at
open_first g gs t h = rw (lt-ltb t g.interval h) refl

open_rest : (g : Gate) (gs : List Gate) (t : ℕ) → open_at (g ∷ gs) (g.interval + t) ≡ open_at gs t
unfolding open_at
open_rest g gs t = let d : g.interval + t - g.interval ≡ t = omega arith in rw (le-ltb (g.interval + t) g.interval (omega arith), d) refl

ticks_cons : (g : Gate) (gs : List Gate) → ticks_of (g ∷ gs) ≡ g.interval + ticks_of gs
unfolding ticks_of
ticks_cons g gs = refl

ticks_none : ticks_of [] ≡ 0
unfolding ticks_of
ticks_none = refl

gate_eq : (g h : Gate) → g.octet ≡ h.octet → g.interval ≡ h.interval → g ≡ h
unfolding gate
gate_eq g h p q = ap (λ (o : ℕ). gate o g.interval) p ∙ ap (gate h.octet) q

abbrev Alike : List Gate → List Gate → Type 0
Alike gs hs = (t : ℕ) → t < ticks_of gs → open_at gs t ≡ open_at hs t

-- the first interval is no shorter: the next gates would have to differ and to be equal
no_shorter : (g h : Gate) (gs hs : List Gate) → Proper (g ∷ gs) → g.octet ≡ h.octet → ticks_of (g ∷ gs) ≡ ticks_of (h ∷ hs) → Alike (g ∷ gs) (h ∷ hs)
    → g.interval < h.interval → ⊥
no_shorter g h [] hs p e n a l = omega (arith, ticks_cons g [], ticks_none, ticks_cons h hs)
no_shorter g h (g' ∷ gs) hs p e n a l =
    let q = first_long g' gs p.2 in
    let z : g.interval + 0 ≡ g.interval = omega arith in
    let at_end : open_at (g ∷ g' ∷ gs) g.interval ≡ g'.octet = subst (λ (t : ℕ). open_at (g ∷ g' ∷ gs) t ≡ open_at (g' ∷ gs) 0) z (open_rest g (g' ∷ gs) 0) ∙ open_first g' gs 0 q in
    p.1 (e ∙ sym (open_first h hs g.interval l) ∙ sym (a g.interval (omega (arith, ticks_cons g (g' ∷ gs), ticks_cons g' gs))) ∙ at_end)

only_one : (gs hs : List Gate) → Proper gs → Proper hs → ticks_of gs ≡ ticks_of hs → Alike gs hs → gs ≡ hs
only_one [] [] p q n a = refl
only_one [] (h ∷ hs) p q n a = absurd (omega (arith, first_long h hs q, ticks_none, ticks_cons h hs))
only_one (g ∷ gs) [] p q n a = absurd (omega (arith, first_long g gs p, ticks_none, ticks_cons g gs))
only_one (g ∷ gs) (h ∷ hs) p q n a =
    let i = first_long g gs p in let j = first_long h hs q in
    let u = ticks_cons g gs in let v = ticks_cons h hs in
    let o : g.octet ≡ h.octet = sym (open_first g gs 0 i) ∙ a 0 (omega arith) ∙ open_first h hs 0 j in
    let back : Alike (h ∷ hs) (g ∷ gs) = λ t l. sym (a t (omega arith)) in
    let k : g.interval ≡ h.interval = same (dec_lt g.interval h.interval) (dec_lt h.interval g.interval) o back in
    rw (gate_eq g h o k) (ap (λ (x : List Gate). h ∷ x) (only_one gs hs (rest_proper g gs p) (rest_proper h hs q) (omega arith)
    (λ t l. sym (open_rest g gs t) ∙ a (g.interval + t) (omega arith) ∙ rw k (open_rest h hs t))))
  where
    same : Dec (g.interval < h.interval) → Dec (h.interval < g.interval) → g.octet ≡ h.octet → Alike (h ∷ hs) (g ∷ gs) → g.interval ≡ h.interval
    same (yes l) d o b = absurd (no_shorter g h gs hs p o n a l)
    same (no l) (yes m) o b = absurd (no_shorter h g hs gs q (sym o) (sym n) b m)
    same (no l) (no m) o b = omega arith

pub gates_only : GatesOnly
gates_only s e l gs g =
    let k = (gates_match s e l).0 in
    only_one gs (gates s l) g.proper k.proper (g.cycle ∙ sym k.cycle)
    (λ t h. let z = g.cycle in g.matches t (omega arith) ∙ sym (k.matches t (omega arith)))

-- ---- how many words

pub pairs_length : (gs : List Gate) → length (pairs gs) ≡ 2 * length gs
unfolding pairs
pairs_length [] = refl
pairs_length (g ∷ gs) = let h = pairs_length gs in omega arith

pub pairs_append : (gs hs : List Gate) → pairs (gs ++ hs) ≡ pairs gs ++ pairs hs
unfolding pairs
pairs_append [] hs = refl
pairs_append (g ∷ gs) hs = ap (λ (ws : List ℕ). g.octet ∷ g.interval ∷ ws) (pairs_append gs hs)

pub words_length : (s : List ℕ) (l : ℕ) → length (gate_words s l) ≡ 1 + 2 * length (gates s l)
unfolding gate_words
words_length s l = omega (arith, pairs_length (gates s l))

proper_count : (gs : List Gate) → Proper gs → length gs ≤ ticks_of gs
proper_count [] p = omega (arith, ticks_none)
proper_count (g ∷ gs) p = let h = proper_count gs (rest_proper g gs p) in omega (arith, first_long g gs p, ticks_cons g gs)

-- no more gates than ticks
gates_most : (s : List ℕ) → answer_of s ≡ accepted → (l : ℕ) → length (gates s l) ≤ cycle_ticks s
gates_most s e l = let k = (gates_match s e l).0 in omega (arith, proper_count (gates s l) k.proper, k.cycle)

pub gate_words_holds : GateWords
gate_words_holds s e l = (words_length s l, gates_most s e l)
