-- Pieces gathered by rank, place by place: what one place more changes, and how large the words get.
use Prim.Native.Nat.{ℕ, zero, suc, ◌+◌, ◌*◌, ◌^◌, ◌≤◌, ◌<◌}
use mathlib.Core.Path.{◌≡◌, refl, sym, ap, ◌∙◌, subst}
use mathlib.Core.Logic.{◌⊎◌, inl, inr}
use mathlib.Core.Bool.{true, false, ◌&&◌, true≢false}
use mathlib.Core.List.{List}
use native.Mathlib.Nat.{zero-add, mul-suc}
use native.Mathlib.Decide.{ℕ_discrete}
use native.Mathlib.Omega.{arith}
use lib.ListN.{length, get_or, set, length-set}
use lib.Seq.{get_or-set_other}
use Rattle.plan.specs.Search.{all}
use Rattle.plan.proofs.Searching.{and_true, all_yes}
use Rattle.plan.proofs.Tests.{or_cases}
use Rattle.tallies.specs.Tallies.{tally, Kept}
use Rattle.tallies.proofs.Tallying.{kept_apart, tally_none, tally_at, tally_other, tally_next, tally_skip, tally_on, kept_at}
use Rattle.drafts.specs.Drafts.{places, draft_tasks, task_core, piece_at, rank_at, total_at, is_of, is_free, has_task, fits_job}
use Rattle.draftwords.specs.Heads.{Headed, place_fits}
use Rattle.plan.specs.declared.Piece.{Piece}
use Rattle.drafts.proofs.Bounds.{in_cycle_holds}
use Rattle.drafts.proofs.Heads.{free_length}
use Rattle.draftwords.proofs.Headed.{task_parts}
use borrow.Author.Tests.{ltb-true, lt-ltb}
use lib.Dec.{ltb, eqb}
use Rattle.totals.specs.Gathers.{rank_slot, count_of, length_of, last_of, Gathered, taken_at, place_seen, core_slot, ticks_of, CoreSums}

-- one place more: a free place, a rank without a word
module _ (w g : List ℕ) (n : ℕ) (k : Gathered w g n) where
  skipped : 2048 ≤ rank_slot w n → Gathered w g (n + 1)
  unfolding count_of length_of last_of
  skipped l =
      record {
        room = k.room;
        counts = tally_skip ◌+◌ 0 (rank_slot w) (λ _. 1) g 0 2048 n k.counts l;
        lengths = tally_skip ◌+◌ 0 (rank_slot w) (λ p. (piece_at w p).length) g 2048 2048 n k.lengths l;
        lasts = tally_skip (λ _ p. p) 0 (rank_slot w) (λ p. p) g 4096 2048 n k.lasts l;
      }

  pub gathered_free : is_free w n ≡ true → Gathered w g (n + 1)
  unfolding rank_slot places
  gathered_free e = skipped (rw e (omega arith))

  pub gathered_high : is_free w n ≡ false → 2048 ≤ rank_at w n → Gathered w g (n + 1)
  unfolding rank_slot
  gathered_high e l = skipped (rw e l)

  -- a piece taken in
  at_slot : rank_slot w n < 2048 → Gathered w (taken_at g (rank_slot w n) (piece_at w n).length n) (n + 1)
  unfolding count_of length_of last_of taken_at
  at_slot l =
      let r : ℕ = rank_slot w n in let x : ℕ = get_or g r 0 + 1 in let y : ℕ = get_or g (2048 + r) 0 + (piece_at w n).length in
      let g1 : List ℕ = set g r x in let g2 : List ℕ = set g1 (2048 + r) y in
      record {
        room = length-set g2 (4096 + r) n ∙ length-set g1 (2048 + r) y ∙ length-set g r x ∙ k.room;
        counts =
            kept_apart g2 0 2048 _ (kept_apart g1 0 2048 _ (tally_on ◌+◌ 0 (rank_slot w) (λ _. 1) g 2048 n k.counts x l refl) (2048 + r) y (inr (omega arith)))
            (4096 + r) n (inr (omega arith));
        lengths =
            kept_apart g2 2048 2048 _
            (tally_next ◌+◌ 0 (rank_slot w) (λ p. (piece_at w p).length) g1 2048 2048 n (kept_apart g 2048 2048 _ k.lengths r x (inl l)) y l
            (ap (λ (z : ℕ). z + (piece_at w n).length) (sym (get_or-set_other g r (2048 + r) x 0 (λ e. omega arith)))))
            (4096 + r) n (inr (omega arith));
        lasts =
            tally_next (λ _ p. p) 0 (rank_slot w) (λ p. p) g2 4096 2048 n
            (kept_apart g1 4096 2048 _ (kept_apart g 4096 2048 _ k.lasts r x (inl (omega arith))) (2048 + r) y (inl (omega arith))) n l refl;
      }

  slot_is : is_free w n ≡ false → rank_slot w n ≡ rank_at w n
  unfolding rank_slot
  slot_is e = rw e refl

  pub gathered_taken : is_free w n ≡ false → rank_at w n < 2048 → Gathered w (taken_at g (rank_at w n) (piece_at w n).length n) (n + 1)
  gathered_taken e l =
      let s = slot_is e in
      subst (λ (r : ℕ). Gathered w (taken_at g r (piece_at w n).length n) (n + 1)) s (at_slot (subst (λ (r : ℕ). r < 2048) (sym s) l))

-- nothing taken in yet
kept_part : (g : List ℕ) (base : ℕ) → Kept g 0 6144 (λ _. 0) → base + 2048 ≤ 6144 → (value : ℕ → ℕ) → ((p : ℕ) → value p ≡ 0) → Kept g base 2048 value
kept_part g base h l value z =
    record { room = let r = h.room in omega arith; each = λ p m. ap (λ (i : ℕ). get_or g i 0) (sym (zero-add (base + p))) ∙ h.each (base + p) (omega arith) ∙ sym (z p) }

pub gathered_none : (w g : List ℕ) → length g ≡ 6144 → Kept g 0 6144 (λ _. 0) → Gathered w g 0
unfolding count_of length_of last_of
gathered_none w g l h =
    record {
      room = l;
      counts = kept_part g 0 h (omega arith) _ (tally_none ◌+◌ 0 (rank_slot w) (λ _. 1));
      lengths = kept_part g 2048 h (omega arith) _ (tally_none ◌+◌ 0 (rank_slot w) (λ p. (piece_at w p).length));
      lasts = kept_part g 4096 h (omega arith) _ (tally_none (λ _ p. p) 0 (rank_slot w) (λ p. p));
    }

-- ---- how large they get

pub tally_most : (place value : ℕ → ℕ) (b n p : ℕ) → ((i : ℕ) → i < n → value i ≤ b) → tally ◌+◌ 0 place value n p ≤ b * n
tally_most place value b zero p h = omega (arith, tally_none ◌+◌ 0 place value p)
tally_most place value b (suc n) p h = go (ℕ_discrete p (place n)) (tally_most place value b n p (λ i l. h i (omega arith))) (h n (omega arith))
  where
    go : Dec (p ≡ place n) → tally ◌+◌ 0 place value n p ≤ b * n → value n ≤ b → tally ◌+◌ 0 place value (suc n) p ≤ b * suc n
    go (yes e) k m =
        let t : tally ◌+◌ 0 place value (suc n) p ≡ tally ◌+◌ 0 place value n p + value n =
        subst (λ (z : ℕ). tally ◌+◌ 0 place value (suc n) z ≡ tally ◌+◌ 0 place value n z + value n) (sym e) (tally_at ◌+◌ 0 place value n) in
        omega (arith, mul-suc b n)
    go (no e) k m = omega (arith, tally_other ◌+◌ 0 place value n p e, mul-suc b n)

pub count_small : (w : List ℕ) (n r : ℕ) → count_of w n r ≤ n
unfolding count_of
count_small w n r = let h = tally_most (rank_slot w) (λ _. 1) 1 n r (λ i l. omega arith) in omega arith

-- the highest place is one of those taken in
tally_last : (place : ℕ → ℕ) (m n p : ℕ) → n ≤ m → 0 < m → tally (λ _ q. q) 0 place (λ q. q) n p < m
tally_last place m zero p l o = omega (arith, tally_none (λ _ q. q) 0 place (λ q. q) p)
tally_last place m (suc n) p l o = go (ℕ_discrete p (place n)) (tally_last place m n p (omega arith) o)
  where
    go : Dec (p ≡ place n) → tally (λ _ q. q) 0 place (λ q. q) n p < m → tally (λ _ q. q) 0 place (λ q. q) (suc n) p < m
    go (yes e) k =
        let t : tally (λ _ q. q) 0 place (λ q. q) (suc n) p ≡ n =
        subst (λ (z : ℕ). tally (λ _ q. q) 0 place (λ q. q) (suc n) z ≡ n) (sym e) (tally_at (λ _ q. q) 0 place (λ q. q) n) in
        omega arith
    go (no e) k = omega (arith, tally_other (λ _ q. q) 0 place (λ q. q) n p e)

pub last_small : (w : List ℕ) (r : ℕ) → last_of w places r < places
unfolding last_of places
last_small w r = tally_last (rank_slot w) 2048 2048 r (omega arith) (omega arith)

module _ (w : List ℕ) (h : Headed w) where
  pub piece_small : (p : ℕ) → place_fits w p ≡ true → (piece_at w p).length ≤ 1000000
  unfolding place_fits has_task
  piece_small p e = go (or_cases (is_free w p) _ e)
    where
      go : (is_free w p ≡ true) ⊎ (has_task w (piece_at w p) && fits_job w (piece_at w p) ≡ true) → (piece_at w p).length ≤ 1000000
      go (inl d) = omega (arith, free_length w p d)
      go (inr d) = let a = and_true (has_task w (piece_at w p)) (fits_job w (piece_at w p)) d in in_cycle_holds w h.head h.tasks (piece_at w p) (ltb-true _ _ a.0) a.1

  pub length_small : all places (place_fits w) ≡ true → (n r : ℕ) → n ≤ places → length_of w n r ≤ 1000000 * n
  unfolding length_of
  length_small e n r l = tally_most (rank_slot w) (λ p. (piece_at w p).length) 1000000 n r (λ i m. piece_small i (all_yes (place_fits w) places e i (omega arith)))

  -- a piece can be taken in: no word overflows
  pub may_take : all places (place_fits w) ≡ true → (g : List ℕ) (n r : ℕ) → Gathered w g n → n < places → r < 2048
      → ((length g ≡ 6144) × (r < 2048)) × ((get_or g r 0 + 1 < 2 ^ 32) × (get_or g (2048 + r) 0 + (piece_at w n).length < 2 ^ 32))
  unfolding places
  may_take e g n r k l m =
      let a = kept_at g 2048 (count_of w n) k.counts r m in let b = k.lengths.each r m in
      let c = count_small w n r in let d = length_small e n r (omega arith) in
      let f = piece_small n (all_yes (place_fits w) 2048 e n l) in
      ((k.room, m), (omega arith, omega arith))

in_places : (z : ℕ) → z < 2048 → ltb z places ≡ true
unfolding places
in_places z h = lt-ltb z 2048 h

-- what a look at a place finds
pub seen_is : (w g : List ℕ) (p : ℕ) → Gathered w g places → is_free w p ≡ false → (x y : Piece) (r t : ℕ) → r ≡ rank_at w p → r < 2048
    → x ≡ piece_at w p → y ≡ piece_at w (get_or g (4096 + r) 0) → t ≡ total_at w p
    → eqb x.task y.task && eqb x.job y.job && eqb t (get_or g (2048 + r) 0) ≡ place_seen w p
unfolding place_seen is_of
seen_is w g p k e x y r t a l b c d =
    let m : get_or g (4096 + r) 0 ≡ last_of w places (rank_at w p) = k.lasts.each r l ∙ ap (last_of w places) a in
    let n : get_or g (2048 + r) 0 ≡ length_of w places (rank_at w p) = k.lengths.each r l ∙ ap (length_of w places) a in
    let o : ltb (rank_at w p) places ≡ true = in_places (rank_at w p) (subst (λ (z : ℕ). z < 2048) a l) in
    let z : y ≡ piece_at w (last_of w places (rank_at w p)) = c ∙ ap (piece_at w) m in
    rw (e, o, b, z, d, n) refl

-- ---- by cores

module _ (w g : List ℕ) (n : ℕ) (k : CoreSums w g n) where
  pub summed_free : is_free w n ≡ true → CoreSums w g (n + 1)
  unfolding ticks_of core_slot
  summed_free e =
      record { room = k.room; ticks = tally_skip ◌+◌ 0 (core_slot w) (λ p. (piece_at w p).length) g 0 32 n k.ticks (rw e (omega arith)) }

  core_slot_holds : is_free w n ≡ false → core_slot w n ≡ task_core w (piece_at w n).task
  unfolding core_slot
  core_slot_holds e = rw e refl

  at_core : core_slot w n < 32 → CoreSums w (set g (core_slot w n) (get_or g (core_slot w n) 0 + (piece_at w n).length)) (n + 1)
  unfolding ticks_of
  at_core l =
      record {
        room = length-set g (core_slot w n) (get_or g (core_slot w n) 0 + (piece_at w n).length) ∙ k.room;
        ticks = tally_on ◌+◌ 0 (core_slot w) (λ p. (piece_at w p).length) g 32 n k.ticks (get_or g (core_slot w n) 0 + (piece_at w n).length) l refl;
      }

  pub summed_taken : is_free w n ≡ false → (c : ℕ) → c ≡ task_core w (piece_at w n).task → c < 32 → CoreSums w (set g c (get_or g c 0 + (piece_at w n).length)) (n + 1)
  summed_taken e c d l =
      let s = core_slot_holds e ∙ sym d in
      subst (λ (r : ℕ). CoreSums w (set g r (get_or g r 0 + (piece_at w n).length)) (n + 1)) s (at_core (subst (λ (r : ℕ). r < 32) (sym s) l))

pub summed_none : (w g : List ℕ) → length g ≡ 32 → Kept g 0 32 (λ _. 0) → CoreSums w g 0
unfolding ticks_of
summed_none w g l h =
    record { room = l; ticks = record { room = h.room; each = λ p m. h.each p m ∙ sym (tally_none ◌+◌ 0 (core_slot w) (λ q. (piece_at w q).length) p) } }

module _ (w : List ℕ) (h : Headed w) where
  -- a piece's task exists
  pub present_task : (p : ℕ) → place_fits w p ≡ true → is_free w p ≡ false → (piece_at w p).task < draft_tasks w
  unfolding place_fits has_task
  present_task p e d = go (or_cases (is_free w p) _ e)
    where
      go : (is_free w p ≡ true) ⊎ (has_task w (piece_at w p) && fits_job w (piece_at w p) ≡ true) → (piece_at w p).task < draft_tasks w
      go (inl z) = absurd (true≢false (sym z ∙ d))
      go (inr z) = ltb-true _ _ (and_true (has_task w (piece_at w p)) (fits_job w (piece_at w p)) z).0

  ticks_small : all places (place_fits w) ≡ true → (n c : ℕ) → n ≤ places → ticks_of w n c ≤ 1000000 * n
  unfolding ticks_of
  ticks_small e n c l = tally_most (core_slot w) (λ p. (piece_at w p).length) 1000000 n c (λ i m. piece_small w h i (all_yes (place_fits w) places e i (omega arith)))

  pub may_sum : all places (place_fits w) ≡ true → (g : List ℕ) (n c : ℕ) → CoreSums w g n → n < places → c < 32
      → (length g ≡ 32) × ((c < 32) × (get_or g c 0 + (piece_at w n).length < 2 ^ 32))
  unfolding places
  may_sum e g n c k l m =
      let a = kept_at g 32 (ticks_of w n) k.ticks c m in let b = ticks_small e n c (omega arith) in
      let f = piece_small w h n (all_yes (place_fits w) 2048 e n l) in
      (k.room, (m, omega arith))

  -- its core is one of 32
  pub present_core : all places (place_fits w) ≡ true → (p : ℕ) → p < places → is_free w p ≡ false → task_core w (piece_at w p).task < 32
  present_core e p l d = (task_parts w h (piece_at w p).task (present_task p (all_yes (place_fits w) places e p l) d)).0
