-- The index is gathered part by part, each from its last row to its first.
use Prim.Native.Nat.{ℕ, suc, ◌+◌, ◌<◌, ◌≤◌}
use mathlib.Core.Path.{◌≡◌, refl, sym, ap, ◌∙◌}
use mathlib.Core.Logic.{◌⊎◌, inl, inr, ◌≢◌}
use mathlib.Core.List.{List}
use native.Mathlib.Nat.{eq-or-lt_of_le}
use native.Mathlib.Omega.{arith}
use native.Mathlib.Decide.{ℕ_discrete}
use lib.ListN.{length, get_or, set, length-set}
use lib.Seq.{get_or-set_same, get_or-set_other}
use Rattle.plan.specs.declared.Table.TheVariants.{Cores, Links, Windows, Pieces, Frames}
use Rattle.plan.specs.Image.{shape, rows, most_pieces}
use Rattle.plan.specs.Questions.{piece_core}
use Rattle.plan.specs.Held.{Sound}
use Rattle.terms.proofs.Naming.{core_below, window_core_below}
use Rattle.places.specs.declared.Occupant.{Occupant}
use Rattle.places.specs.declared.Occupant.TheVariants.{Piece, Window, Frame}
use Rattle.places.specs.Places.{table_for, place_of, NextRow}
use Rattle.places.specs.Index.{base_of, linked_at, Untouched, Cleared, Linked, Indexed, most_places, frames_at, index_words}

-- ---- places and words

module _ (s : List ℕ) (h : Sound s) where
  -- a row's place has a word
  pub place_small : (o : Occupant) (i : ℕ) → i < rows s (table_for o) → place_of s o i < most_places
  unfolding table_for place_of piece_core shape
  place_small Piece i l = omega (arith, core_below s h _ (h.names Pieces i l), h.inside.counts Cores)
  place_small Window i l = omega (arith, window_core_below s h i l, h.inside.counts Cores)
  place_small Frame i l = omega (arith, (h.names Frames i l).1, h.inside.counts Links)

  -- and so has a row
  pub row_small : (o : Occupant) (i : ℕ) → i < rows s (table_for o) → (base_of o + most_places + i < index_words) × (i < most_pieces)
  unfolding table_for base_of shape
  row_small Piece i l = let m = h.inside.counts Pieces in (omega arith, omega arith)
  row_small Window i l = let m = h.inside.counts Windows in (omega arith, omega arith)
  row_small Frame i l = let m = h.inside.counts Frames in (omega arith, omega arith)

pub base_small : (o : Occupant) → base_of o ≤ frames_at
unfolding base_of
base_small Piece = omega arith
base_small Window = omega arith
base_small Frame = omega arith

-- ---- no rows

pub kept_both : {base part : ℕ} (a b c : List ℕ) → base ≡ part → Untouched base a b → Untouched part b c → Untouched part a c
kept_both a b c e f g k l = g k l ∙ f k (omega arith)

-- ---- rows taken in

module _ (s : List ℕ) (o : Occupant) where
  pub linked_none : {base many : ℕ} (index : List ℕ) → base ≡ base_of o → many ≡ rows s (table_for o) → Cleared base many index most_places → Linked s o index (rows s (table_for o))
  linked_none index e m h =
      record {
        size = h.size;
        firsts = λ c l. rw (← e, h.firsts c l, m) (record { from = omega arith; within = omega arith; place = λ k. absurd (omega arith); none = λ j a b. absurd (omega arith) });
        nexts = λ j a b. absurd (omega arith);
      }

  module _ (h : Sound s) (index : List ℕ) (i : ℕ) (l : i < rows s (table_for o)) (g : Linked s o index (suc i)) where
    abbrev base : ℕ
    base = base_of o

    abbrev c : ℕ
    c = place_of s o i

    abbrev head : ℕ
    head = get_or index (base + c) 0

    abbrev inner : List ℕ
    inner = set index (base + most_places + i) head

    abbrev after : List ℕ
    after = set inner (base + c) i

    small : c < most_places
    small = place_small s h o i l

    inner_size : length inner ≡ index_words
    inner_size = length-set index (base + most_places + i) head ∙ g.size

    -- what is read afterwards
    other : (k : ℕ) → k ≢ base + most_places + i → k ≢ base + c → get_or after k 0 ≡ get_or index k 0
    other k a b = get_or-set_other inner (base + c) k i 0 b ∙ get_or-set_other index (base + most_places + i) k head 0 a

    here : get_or after (base + c) 0 ≡ i
    here = get_or-set_same inner (base + c) i 0 (omega (arith, inner_size, small, base_small o))

    linked : get_or after (base + most_places + i) 0 ≡ head
    linked =
        get_or-set_other inner (base + c) (base + most_places + i) i 0 (λ e. absurd (omega (arith, small)))
        ∙ get_or-set_same index (base + most_places + i) head 0 (omega (arith, g.size, (row_small s h o i l).0))

    -- row i comes first at its place, and at no other
    first : (d : ℕ) → d < most_places → Dec (d ≡ c) → NextRow s o d i (get_or after (base + d) 0)
    first d m (yes e) = rw (e, here) (record { from = omega arith; within = omega arith; place = λ k. refl; none = λ j a b. absurd (omega arith) })
    first d m (no e) =
        let n = g.firsts d m in
        rw (other (base + d) (λ q. absurd (omega arith)) (λ q. e (omega arith)))
        (record { from = omega (arith, n.from); within = n.within; place = n.place; none = λ j a b. apart j (eq-or-lt_of_le a) b })
      where
        apart : (j : ℕ) → (i ≡ j) ⊎ (i < j) → j < get_or index (base + d) 0 → place_of s o j ≢ d
        apart j (inl q) b z = e (sym z ∙ ap (place_of s o) (sym q))
        apart j (inr q) b z = (g.firsts d m).none j q b z

    next : (j : ℕ) → (i ≡ j) ⊎ (i < j) → j < rows s (table_for o) → NextRow s o (place_of s o j) (suc j) (get_or after (base + most_places + j) 0)
    next j (inl q) k = rw (← q, linked) (g.firsts c small)
    next j (inr q) k = rw (other (base + most_places + j) (λ e. absurd (omega arith)) (λ e. absurd (omega (arith, small)))) (g.nexts j q k)

    pub linked_more : Linked s o (linked_at index (base_of o) (place_of s o i) i) i
    unfolding linked_at
    linked_more =
        record { size = length-set inner (base + c) i ∙ inner_size; firsts = λ d m. first d m (ℕ_discrete d c); nexts = λ j a k. next j (eq-or-lt_of_le a) k }

    pub untouched_more : (before : List ℕ) → Untouched (base_of o) before index → Untouched (base_of o) before (linked_at index (base_of o) (place_of s o i) i)
    unfolding linked_at
    untouched_more before f k m = other k (λ e. absurd (omega arith)) (λ e. absurd (omega arith)) ∙ f k m

-- ---- all parts

module _ (s : List ℕ) (h : Sound s) where
  -- a part below one that is gathered later stays
  stays : (o p : Occupant) {a b : List ℕ} → base_of o + most_places ≤ base_of p → ((i : ℕ) → i < rows s (table_for o) → base_of o + most_places + i < base_of p)
      → length b ≡ index_words → Untouched (base_of p) a b → Linked s o a 0 → Linked s o b 0
  stays o p lo hi e k g =
      record {
        size = e;
        firsts = λ d m. rw (k (base_of o + d) (omega arith)) (g.firsts d m);
        nexts = λ j l m. rw (k (base_of o + most_places + j) (hi j m)) (g.nexts j l m);
      }

  pub indexed : (a b c : List ℕ) → Linked s Piece a 0 → Linked s Window b 0 → Untouched (base_of Window) a b → Linked s Frame c 0 → Untouched (base_of Frame) b c → Indexed s c
  unfolding base_of table_for shape
  indexed a b c p w k f m Piece =
      let n = h.inside.counts Pieces in
      stays Piece Frame {a = b} {b = c} (omega arith) (λ i l. omega arith) f.size m (stays Piece Window {a = a} {b = b} (omega arith) (λ i l. omega arith) w.size k p)
  indexed a b c p w k f m Window = let n = h.inside.counts Windows in stays Window Frame {a = b} {b = c} (omega arith) (λ i l. omega arith) f.size m w
  indexed a b c p w k f m Frame = f
