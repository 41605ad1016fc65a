-- A piece lies in a window of its VCPU exactly if it lies in the last one to begin by its start: windows of a VCPU do not overlap.
use Prim.Native.Nat.{ℕ, zero, suc, ◌+◌, ◌-◌, max, ◌<◌, ◌≤◌}
use mathlib.Core.Path.{◌≡◌, refl, sym, ap, ◌∙◌, subst}
use mathlib.Core.Logic.{inl, inr}
use mathlib.Core.Bool.{Bool, true, false, true≢false}
use mathlib.Core.List.{List}
use native.Mathlib.Decide.{dec_lt}
use native.Mathlib.Numerals.{add-one}
use native.Mathlib.Omega.{arith}
use lib.ListN.{length, get_or, set}
use borrow.Author.Tests.{eqb-true, leb-true}
use Rattle.plan.specs.declared.Table.TheVariants.{Vcpus, Tasks, Windows, Pieces}
use Rattle.plan.specs.Image.{rows, shape, vcpu, window, piece, most_vcpus}
use Rattle.plan.specs.Search.{any}
use Rattle.plan.specs.Questions.{window_core, window_end, window_interval, charge, piece_end, inside, piece_inside, piece_questions}
use Rattle.plan.specs.Reading.{Apart}
use Rattle.plan.specs.Held.{Sound, Passed}
use Rattle.plan.proofs.Searching.{and_true, any_stops}
use Rattle.plan.proofs.Tests.{any_row}
use Rattle.plan.proofs.Orders.{windows_rise, pieces_rise}
use Rattle.plan.proofs.Passing.{windows_fit, windows_apart, pieces_fit}
use Rattle.tallies.specs.Tallies.{latest, Kept}
use Rattle.tallies.proofs.Tallying.{kept_at, tally_on}
use Rattle.tallies.proofs.Latest.{ends_by, latest_by, latest_row, latest_fresh}
use Rattle.charges.proofs.Keeping.{vcpu_most}
use Rattle.inside.specs.Holders.{holders, inside_last, vcpu_of, Starting, Begun}

module _ (s : List ℕ) (h : Sound s) where
  piece_vcpu_most : (i : ℕ) → i < rows s Pieces → vcpu_of s i < most_vcpus
  unfolding shape vcpu_of
  piece_vcpu_most i l = let c = h.inside.counts Vcpus in omega (arith, h.names Tasks _ (h.names Pieces i l))

  pub none_held : (last : List ℕ) → Kept last 0 most_vcpus (λ _. 0) → Kept last 0 most_vcpus (holders s 0)
  unfolding holders
  none_held last = latest_fresh (λ w. (window s w).vcpu) (λ w. w + 1) last most_vcpus

  -- no row below n is named higher than n
  pub holder_most : (n v : ℕ) → holders s n v ≤ n
  unfolding holders
  holder_most n v = latest_by (λ w. (window s w).vcpu) (λ w. w + 1) n v n (λ q l e. omega arith)

  module _ (last : List ℕ) (w : ℕ) (l : w < rows s Windows) (k : Kept last 0 most_vcpus (holders s w)) where
    pub vcpu_inside : (window s w).vcpu < length last
    vcpu_inside = let m = k.room in omega (arith, vcpu_most s h w l)

    pub held_on : Kept (set last (window s w).vcpu (w + 1)) 0 most_vcpus (holders s (w + 1))
    unfolding holders latest
    held_on =
        tally_on max 0 (λ x. (window s x).vcpu) (λ x. x + 1) last most_vcpus w k (w + 1) (vcpu_most s h w l)
        (let e = kept_at last most_vcpus (holders s w) k (window s w).vcpu (vcpu_most s h w l) in omega (arith, holder_most w (window s w).vcpu))

  module _ (last : List ℕ) (n i : ℕ) (l : i < rows s Pieces) (k : Kept last 0 most_vcpus (holders s n)) where
    pub piece_inside_words : vcpu_of s i < length last
    piece_inside_words = let m = k.room in omega (arith, piece_vcpu_most i l)

    pub holder_read : get_or last (vcpu_of s i) 0 ≡ holders s n (vcpu_of s i)
    holder_read = kept_at last most_vcpus (holders s n) k (vcpu_of s i) (piece_vcpu_most i l)

  module _ (p : Passed (piece_questions s) 4) (i : ℕ) (l : i < rows s Pieces) (n : ℕ) (b : Begun s (piece s i).start n) where
    inside_of : (u : ℕ) → inside s i u ≡ true → ((window s u).vcpu ≡ vcpu_of s i) × ((window s u).start + charge s u ≤ (piece s i).start) × (piece_end s i ≤ window_end s u)
    unfolding inside vcpu_of
    inside_of u e =
        let x = and_true _ _ e in let y = and_true _ _ x.0 in
        (eqb-true _ _ y.0, leb-true _ _ y.1, leb-true _ _ x.1)

    one_core : (u w : ℕ) → (window s u).vcpu ≡ (window s w).vcpu → window_core s u ≡ window_core s w
    unfolding window_core vcpu
    one_core u w e = rw e refl

    piece_long : (piece s i).start < piece_end s i
    unfolding piece_end
    piece_long = omega (arith, (pieces_fit s 4 p (omega arith) i l).1)

    window_long : (w : ℕ) → w < rows s Windows → (window s w).start < window_end s w
    unfolding window_end
    window_long w m = omega (arith, (windows_fit s 4 p (omega arith) w m).0)

    apart_by : (u w : ℕ) → w < rows s Windows → u < w → (window s u).vcpu ≡ (window s w).vcpu → window_end s u ≤ (window s w).start
    unfolding window_interval
    apart_by u w m d e = go (windows_apart s 4 p (omega arith) w m u d (one_core u w e))
      where
        go : Apart (window_interval s u) (window_interval s w) → window_end s u ≤ (window s w).start
        go (inl x) = x
        go (inr x) = absurd (let r = windows_rise s h u w (omega arith) m in omega (arith, window_long w m))

    -- a window that it lies in is the last of its VCPU to begin
    is_last : (u : ℕ) → u < rows s Windows → inside s i u ≡ true → holders s n (vcpu_of s i) ≡ u + 1
    unfolding holders
    is_last u m e =
        let f = inside_of u e in
        let below = before (dec_lt u n) f.1 in
        let most = ends_by (λ w. (window s w).vcpu) (λ w. w + 1) n (vcpu_of s i) u below f.0 in
        let r = latest_row (λ w. (window s w).vcpu) (λ w. w + 1) n (vcpu_of s i) (omega arith) in
        same r (dec_lt u r.0) most f.0 f.2
      where
        before : Dec (u < n) → (window s u).start + charge s u ≤ (piece s i).start → u < n
        before (yes d) g = d
        before (no d) g = absurd (let r = windows_rise s h n u (omega arith) m in omega (arith, b.next (omega arith)))

        same : (r : (q : ℕ) × (q < n) × ((window s q).vcpu ≡ vcpu_of s i) × (q + 1 ≡ latest (λ w. (window s w).vcpu) (λ w. w + 1) n (vcpu_of s i)))
            → Dec (u < r.0) → u + 1 ≤ latest (λ w. (window s w).vcpu) (λ w. w + 1) n (vcpu_of s i)
            → (window s u).vcpu ≡ vcpu_of s i → piece_end s i ≤ window_end s u → latest (λ w. (window s w).vcpu) (λ w. w + 1) n (vcpu_of s i) ≡ u + 1
        same r (yes d) g v o =
            let rm = b.rows_most in
            absurd (let a = apart_by u r.0 (omega (arith, r.1)) d (v ∙ sym r.2) in let c = b.begun r.0 r.1 in let x = piece_long in omega arith)
        same r (no d) g v o = omega (arith, r.3)

    none_inside : (x : ℕ) → x ≤ rows s Windows → any (rows s Windows) (inside s i) ≡ false → inside_last s i x ≡ false
    unfolding inside_last
    none_inside zero m e = refl
    none_inside (suc w) m e = go (inside s i w) refl
      where
        go : (b : Bool) → inside s i w ≡ b → b ≡ false
        go true d = absurd (true≢false (sym (any_stops (inside s i) (rows s Windows) w (omega arith) d) ∙ e))
        go false d = refl

    last_inside : (u : ℕ) → inside s i u ≡ true → inside_last s i (u + 1) ≡ true
    unfolding inside_last
    last_inside u e = rw add-one e

    -- so it is asked of that one alone
    pub asked_last : inside_last s i (holders s n (vcpu_of s i)) ≡ piece_inside s i
    unfolding piece_inside
    asked_last = go (any (rows s Windows) (inside s i)) refl
      where
        go : (b : Bool) → any (rows s Windows) (inside s i) ≡ b → inside_last s i (holders s n (vcpu_of s i)) ≡ b
        go true e = let w = any_row (inside s i) (rows s Windows) e in rw (is_last w.0 w.1 w.2) (last_inside w.0 w.2)
        go false e = none_inside (holders s n (vcpu_of s i)) (let m = b.rows_most in omega (arith, holder_most n (vcpu_of s i))) e

-- one window more begins by the tick
pub starting_on : (s : List ℕ) (tick n : ℕ) → Starting s tick n → (window s n).start ≤ tick → Starting s tick (n + 1)
starting_on s tick n h l w m = go (dec_lt w n)
  where
    go : Dec (w < n) → (window s w).start ≤ tick
    go (yes d) = h w d
    go (no d) = subst (λ (x : ℕ). (window s x).start ≤ tick) (let e : n ≡ w = omega arith in e) l

-- the windows below n begin by piece i's start
abbrev pub Led : List ℕ → ℕ → ℕ → Type 0
Led s n i = (w : ℕ) → w < n → i < rows s Pieces → (window s w).start ≤ (piece s i).start

pub led_on : (s : List ℕ) → Sound s → (n i : ℕ) → Starting s (piece s i).start n → Led s n (i + 1)
led_on s h n i b w l m = omega (arith, b w l, pieces_rise s h i (i + 1) (omega arith) m)

-- a window that is named, and none
pub one_named : (s : List ℕ) (i last w : ℕ) → 1 ≤ last → w ≡ last - 1 → inside s i w ≡ inside_last s i last
unfolding inside_last
one_named s i zero w l e = absurd (omega (arith, l))
one_named s i (suc n) w l e = ap (inside s i) (let d : w ≡ n = omega (arith, e) in d)

pub none_named : (s : List ℕ) (i last : ℕ) → ((1 ≤ last) → ⊥) → false ≡ inside_last s i last
unfolding inside_last
none_named s i zero h = refl
none_named s i (suc n) h = absurd (h (omega arith))
