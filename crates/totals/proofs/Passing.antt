-- The pass answers 33: what its loops find is what `is_draft` asks.
use Prim.Native.Nat.{ℕ, zero, suc, ◌+◌, ◌≤◌, ◌<◌}
use mathlib.Core.Path.{◌≡◌, refl, sym, ap, ◌∙◌, subst}
use mathlib.Core.Logic.{◌≢◌, ◌⊎◌, inl, inr}
use mathlib.Core.Bool.{Bool, true, false, not, ◌&&◌, ◌||◌, cond, true≢false}
use mathlib.Core.List.{List}
use native.Mathlib.Nat.{le_of_eq, not-suc-le-zero, eq-or-lt_of_le, le_of_suc-le-suc}
use native.Mathlib.Decide.{ℕ_discrete, dec_lt}
use native.Mathlib.Omega.{arith}
use lib.Dec.{ltb, eqb}
use lib.ListN.{length}
use borrow.Author.Tests.{ltb-true, lt-ltb, le-ltb, le-leb, lt-leb, eqb-true, eq-eqb, ne_eqb, not-true}
use Rattle.plan.specs.declared.Piece.{Piece}
use Rattle.plan.specs.Search.{all, count}
use Rattle.plan.proofs.Searching.{and_true, all_yes, yes_all}
use Rattle.plan.proofs.Tests.{or_cases, none_passes, none_counted}
use Rattle.plan.proofs.Counting.{count_cong, count_or}
use Rattle.std.specs.Prelude.{Option, Some, None, IfSome, is_some}
use Rattle.tallies.specs.Tallies.{tally}
use Rattle.tallies.proofs.Tallying.{tally_none, tally_at, tally_other, tally_sum}
use Rattle.drafts.specs.Drafts.{draft_words, places, is_of, draft_cores, draft_tasks, head_in_range, task_in_range, is_draft, task_core, piece_at, rank_at, total_at, is_free, has_task, fits_job, job_sum, core_sum, rank, core_true, place_true}
use Rattle.draftwords.specs.Heads.{Headed, place_fits}
use Rattle.totals.specs.declared.Climb.{Climb}
use Rattle.totals.specs.Gathers.{rank_slot, core_slot, count_of, length_of, last_of, ticks_of, place_seen, core_seen, job_key, climb_at, climbed}
use Rattle.drafts.proofs.Heads.{Fits, TruePlace, r_place, free_length, sum_same, cond_none}
use Rattle.draftwords.proofs.Headed.{head_parts}
use Rattle.totals.proofs.OnePass.{Seen, before, of_rank, rank_below}
use Rattle.totals.proofs.Ranks.{SeenPlaces, TruePlaces, one_pass, ranks_of, key_same, small_job}

-- ---- cores

module _ (w : List ℕ) (c : ℕ) (l : c < 32) where
  core_told : (p : ℕ) → eqb (core_slot w p) c ≡ not (is_free w p) && eqb (task_core w (piece_at w p).task) c
  unfolding core_slot
  core_told p = go (is_free w p) refl
    where
      go : (b : Bool) → is_free w p ≡ b → eqb (cond (is_free w p) 32 (task_core w (piece_at w p).task)) c ≡ not (is_free w p) && eqb (task_core w (piece_at w p).task) c
      go true e = rw e (ne_eqb 32 c (λ z. omega arith))
      go false e = rw e refl

  pub ticks_sum : ticks_of w places c ≡ core_sum w c
  unfolding ticks_of core_sum
  ticks_sum =
      tally_sum (core_slot w) (λ p. (piece_at w p).length) c (λ p. not (is_free w p) && eqb (task_core w (piece_at w p).task) c) places (λ p m. core_told p)
      ∙ sum_same _ _ places (λ p m. go p (is_free w p) refl)
    where
      go : (p : ℕ) (b : Bool) → is_free w p ≡ b
          → cond (not (is_free w p) && eqb (task_core w (piece_at w p).task) c) (piece_at w p).length 0 ≡ cond (eqb (task_core w (piece_at w p).task) c) (piece_at w p).length 0
      go p true e = cond_none (not (is_free w p) && eqb (task_core w (piece_at w p).task) c) _ (free_length w p e) ∙ sym (cond_none (eqb (task_core w (piece_at w p).task) c) _ (free_length w p e))
      go p false e = rw e refl

  core_same : core_seen w c ≡ core_true w c
  unfolding core_seen core_true
  core_same = rw ticks_sum refl

or_yes : (b : Bool) → b || true ≡ true
or_yes true = refl
or_yes false = refl

all_same : (f g : ℕ → Bool) (n : ℕ) → ((i : ℕ) → i < n → f i ≡ g i) → all n f ≡ all n g
unfolding all
all_same f g zero h = refl
all_same f g (suc n) h = rw (all_same f g n (λ i l. h i (omega arith)), h n (omega arith)) refl

pub cores_same : (w : List ℕ) → Headed w → all (draft_cores w) (core_seen w) ≡ all (draft_cores w) (core_true w)
cores_same w h = all_same (core_seen w) (core_true w) (draft_cores w) (λ c l. core_same w c (omega (arith, (head_parts w h).3)))

-- ---- ranks

module _ (w : List ℕ) where
  abbrev here : ℕ → Bool
  here p = not (is_free w p)

  abbrev key : ℕ → ℕ
  key p = job_key (piece_at w p)

  abbrev long : ℕ → ℕ
  long p = (piece_at w p).length

  abbrev Piece-at : ℕ → Type 0
  Piece-at p = (p < places) × (here p ≡ true)

  abbrev lower : ℕ → ℕ
  lower r = before places here (rank_at w) key long r

  rank_told : (r : ℕ) → r < places → (p : ℕ) → eqb (rank_slot w p) r ≡ here p && eqb (rank_at w p) r
  unfolding rank_slot
  rank_told r l p = go (is_free w p) refl
    where
      go : (b : Bool) → is_free w p ≡ b → eqb (cond (is_free w p) places (rank_at w p)) r ≡ not (is_free w p) && eqb (rank_at w p) r
      go true e = rw e (ne_eqb places r (λ z. omega arith))
      go false e = rw e refl

  -- what is gathered, as counts and sums
  count_of_holds : (r : ℕ) → r < places → count_of w places r ≡ count places (λ q. here q && eqb (rank_at w q) r)
  unfolding count_of count
  count_of_holds r l = tally_sum (rank_slot w) (λ _. 1) r (λ q. here q && eqb (rank_at w q) r) places (λ p m. rank_told r l p)

  length_of_holds : (r : ℕ) → r < places → length_of w places r ≡ of_rank places here (rank_at w) key long r
  unfolding length_of
  length_of_holds r l = tally_sum (rank_slot w) long r (λ q. here q && eqb (rank_at w q) r) places (λ p m. rank_told r l p)

  -- ranks below the next
  split_test : (a : Bool) (x r : ℕ) → a && ltb x (suc r) ≡ (a && ltb x r) || (a && eqb x r)
  split_test false x r = refl
  split_test true x r = go (dec_lt x r) (ℕ_discrete x r)
    where
      go : Dec (x < r) → Dec (x ≡ r) → ltb x (suc r) ≡ ltb x r || eqb x r
      go (yes a) e = rw (lt-ltb x (suc r) (omega arith), lt-ltb x r a) refl
      go (no a) (yes e) = rw (lt-ltb x (suc r) (omega arith), le-ltb x r (omega arith), eq-eqb x r e) refl
      go (no a) (no e) = rw (le-ltb x (suc r) (omega arith), le-ltb x r (omega arith), ne_eqb x r e) refl

  lower_next : (r : ℕ) → r < places → lower (suc r) ≡ lower r + count_of w places r
  lower_next r l =
      count_cong _ _ places (λ q m. split_test (here q) (rank_at w q) r)
      ∙ count_or (λ q. here q && ltb (rank_at w q) r) (λ q. here q && eqb (rank_at w q) r) places (λ q m a b. apart q a b)
      ∙ ap (λ (n : ℕ). lower r + n) (sym (count_of_holds r l))
    where
      apart : (q : ℕ) → here q && ltb (rank_at w q) r ≡ true → here q && eqb (rank_at w q) r ≡ true → ⊥
      apart q a b =
          let c = ltb-true (rank_at w q) r (and_true (here q) _ a).1 in let d = eqb-true (rank_at w q) r (and_true (here q) _ b).1 in omega arith

  lower_none : lower 0 ≡ 0
  lower_none = none_passes (λ q. here q && ltb (rank_at w q) 0) places (λ q m a. let c = ltb-true (rank_at w q) 0 (and_true (here q) _ a).1 in omega arith)

  -- a rank that is counted has its last piece
  last_row : (r : ℕ) → r < places → (n : ℕ) → (count_of w n r ≡ 0) ⊎ ((last_of w n r < n) × (rank_slot w (last_of w n r) ≡ r))
  unfolding count_of last_of
  last_row r l zero = inl (tally_none ◌+◌ 0 (rank_slot w) (λ _. 1) r)
  last_row r l (suc n) = go (ℕ_discrete r (rank_slot w n)) (last_row r l n)
    where
      go : Dec (r ≡ rank_slot w n) → (tally ◌+◌ 0 (rank_slot w) (λ _. 1) n r ≡ 0) ⊎ ((tally (λ _ p. p) 0 (rank_slot w) (λ p. p) n r < n) × (rank_slot w (tally (λ _ p. p) 0 (rank_slot w) (λ p. p) n r) ≡ r))
          → (tally ◌+◌ 0 (rank_slot w) (λ _. 1) (suc n) r ≡ 0) ⊎ ((tally (λ _ p. p) 0 (rank_slot w) (λ p. p) (suc n) r < suc n) × (rank_slot w (tally (λ _ p. p) 0 (rank_slot w) (λ p. p) (suc n) r) ≡ r))
      go (yes e) k =
          let t : tally (λ _ p. p) 0 (rank_slot w) (λ p. p) (suc n) r ≡ n =
          subst (λ (z : ℕ). tally (λ _ p. p) 0 (rank_slot w) (λ p. p) (suc n) z ≡ n) (sym e) (tally_at (λ _ p. p) 0 (rank_slot w) (λ p. p) n) in
          inr (omega arith, ap (rank_slot w) t ∙ sym e)
      go (no e) (inl k) = inl (tally_other ◌+◌ 0 (rank_slot w) (λ _. 1) n r e ∙ k)
      go (no e) (inr k) =
          let t = tally_other (λ _ p. p) 0 (rank_slot w) (λ p. p) n r e in
          inr (omega (arith, t, k.0), ap (rank_slot w) t ∙ k.1)

  slot_row : (p r : ℕ) → r < places → rank_slot w p ≡ r → (here p ≡ true) × (rank_at w p ≡ r)
  unfolding rank_slot
  slot_row p r l e = go (is_free w p) refl
    where
      go : (b : Bool) → is_free w p ≡ b → (not (is_free w p) ≡ true) × (rank_at w p ≡ r)
      go true d = absurd (let z : places ≡ r = sym (rw d refl) ∙ e in omega arith)
      go false d = (rw d refl, sym (rw d refl) ∙ e)

  pub last_is : (r : ℕ) → r < places → count_of w places r ≢ 0 → Piece-at (last_of w places r) × (rank_at w (last_of w places r) ≡ r)
  last_is r l e = go (last_row r l places)
    where
      go : (count_of w places r ≡ 0) ⊎ ((last_of w places r < places) × (rank_slot w (last_of w places r) ≡ r)) → Piece-at (last_of w places r) × (rank_at w (last_of w places r) ≡ r)
      go (inl z) = absurd (e z)
      go (inr z) = let s = slot_row (last_of w places r) r l z.1 in ((z.0, s.0), s.1)

  -- a rank without pieces
  pub none_at : (r : ℕ) → r < places → count_of w places r ≡ 0 → (q : ℕ) → Piece-at q → rank_at w q ≢ r
  none_at r l e q a d =
      none_counted (λ i. here i && eqb (rank_at w i) r) places (sym (count_of_holds r l) ∙ e) q a.0 (rw (a.1, eq-eqb (rank_at w q) r d) refl)

  -- ---- the climb over the ranks

  abbrev taken : ℕ → Climb → Climb
  taken r c = record { seen = c.seen + count_of w places r; last = last_of w places r }

  abbrev rises : ℕ → Climb → Bool
  rises r c = eqb c.seen r && (eqb r 0 || ltb (key c.last) (key (last_of w places r)))

  climb_skip : (r : ℕ) (c : Climb) → count_of w places r ≡ 0 → climb_at w r c ≡ Some c
  unfolding climb_at
  climb_skip r c e = rw (eq-eqb (count_of w places r) 0 e) refl

  climb_take : (r : ℕ) (c : Climb) → count_of w places r ≢ 0 → climb_at w r c ≡ cond (rises r c) (Some (taken r c)) None
  unfolding climb_at
  climb_take r c e = rw (ne_eqb (count_of w places r) 0 e) refl

  -- how many pieces are of lower ranks, and a piece of the highest of them
  record Counted (n : ℕ) (c : Climb) : Type 0 where
    seen_is : c.seen ≡ lower n
    last_at : (lower n ≡ 0) ⊎ (Piece-at c.last × (rank_at w c.last < n))

  counted : (n : ℕ) → n ≤ places → IfSome (climbed w n) (Counted n)
  unfolding climbed
  counted zero l = record { seen_is = sym lower_none; last_at = inl lower_none }
  counted (suc n) l = go (climbed w n) (counted n (omega arith)) (ℕ_discrete (count_of w places n) 0)
    where
      on : (c : Climb) → (lower n ≡ 0) ⊎ (Piece-at c.last × (rank_at w c.last < n)) → lower (suc n) ≡ lower n
          → (lower (suc n) ≡ 0) ⊎ (Piece-at c.last × (rank_at w c.last < suc n))
      on c (inl z) e = inl (e ∙ z)
      on c (inr z) e = inr (z.0, omega (arith, z.1))

      go : (o : Option Climb) → IfSome o (Counted n) → Dec (count_of w places n ≡ 0) → IfSome (elim o [ Some c ↦ climb_at w n c | None ↦ None ]) (Counted (suc n))
      go None k d = tt
      go (Some c) k (yes e) =
          let s : lower (suc n) ≡ lower n = omega (arith, lower_next n (omega arith)) in
          rw (climb_skip n c e) (record { seen_is = k.seen_is ∙ sym s; last_at = on c k.last_at s })
      go (Some c) k (no e) = rw (climb_take n c e) (choose (rises n c))
        where
          choose : (b : Bool) → IfSome (cond b (Some (taken n c)) None) (Counted (suc n))
          choose true =
              let m = last_is n (omega arith) e in
              record { seen_is = ap (λ (z : ℕ). z + count_of w places n) k.seen_is ∙ sym (lower_next n (omega arith)); last_at = inr (m.0, omega (arith, m.1)) }
          choose false = tt

  -- what a climb that is right shows
  record Shown (n : ℕ) (c : Climb) : Type 0 where
    filled : (p : ℕ) → Piece-at p → rank_at w p < n → lower (rank_at w p) ≡ rank_at w p
    rising : (p q : ℕ) → Piece-at p → Piece-at q → rank_at w q < rank_at w p → rank_at w p < n → key q < key p
    highest : (q : ℕ) → Piece-at q → rank_at w q < n → key q ≤ key c.last

  -- pieces of one rank are of one job
  module _ (one : (p : ℕ) → Piece-at p → key p ≡ key (last_of w places (rank_at w p))) where
    below_or : (x n : ℕ) → x < suc n → (x ≡ n) ⊎ (x < n)
    below_or x n l = eq-or-lt_of_le (le_of_suc-le-suc l)

    -- a rank with pieces taken in
    module _ (n : ℕ) (l : n < places) (c : Climb) (z : count_of w places n ≢ 0) (s : Shown n c) (u : Counted n c) (f : eqb c.seen n ≡ true)
        (o : eqb n 0 || ltb (key c.last) (key (last_of w places n)) ≡ true) where
      of_rank_holds : (p : ℕ) → Piece-at p → rank_at w p ≡ n → key p ≡ key (last_of w places n)
      of_rank_holds p a e = one p a ∙ ap (λ (r : ℕ). key (last_of w places r)) e

      above : (q : ℕ) → Piece-at q → rank_at w q < n → key q < key (last_of w places n)
      above q a m = go (or_cases (eqb n 0) _ o)
        where
          go : (eqb n 0 ≡ true) ⊎ (ltb (key c.last) (key (last_of w places n)) ≡ true) → key q < key (last_of w places n)
          go (inl d) = absurd (let v = eqb-true n 0 d in omega arith)
          go (inr d) = let v = ltb-true (key c.last) (key (last_of w places n)) d in let h = s.highest q a m in omega arith

      take_shown : Shown (suc n) (taken n c)
      take_shown =
          record {
            filled = λ p a m. fill p a (below_or (rank_at w p) n m);
            rising = λ p q a b v m. rise p q a b v (below_or (rank_at w p) n m);
            highest = λ q a m. high q a (below_or (rank_at w q) n m);
          }
        where
          fill : (p : ℕ) → Piece-at p → (rank_at w p ≡ n) ⊎ (rank_at w p < n) → lower (rank_at w p) ≡ rank_at w p
          fill p a (inl e) = subst (λ (r : ℕ). lower r ≡ r) (sym e) (sym u.seen_is ∙ eqb-true c.seen n f)
          fill p a (inr e) = s.filled p a e

          rise : (p q : ℕ) → Piece-at p → Piece-at q → rank_at w q < rank_at w p → (rank_at w p ≡ n) ⊎ (rank_at w p < n) → key q < key p
          rise p q a b v (inl e) = subst (λ (x : ℕ). key q < x) (sym (of_rank_holds p a e)) (above q b (subst (λ (x : ℕ). rank_at w q < x) e v))
          rise p q a b v (inr e) = s.rising p q a b v e

          high : (q : ℕ) → Piece-at q → (rank_at w q ≡ n) ⊎ (rank_at w q < n) → key q ≤ key (last_of w places n)
          high q a (inl e) = le_of_eq (of_rank_holds q a e)
          high q a (inr e) = let v = above q a e in omega arith

    shown : (n : ℕ) → n ≤ places → IfSome (climbed w n) (Shown n)
    unfolding climbed
    shown zero l =
        record { filled = λ p a m. absurd (not-suc-le-zero m); rising = λ p q a b m o. absurd (not-suc-le-zero o); highest = λ q a m. absurd (not-suc-le-zero m) }
    shown (suc n) l = go (climbed w n) (shown n (omega arith)) (counted n (omega arith)) (ℕ_discrete (count_of w places n) 0)
      where
        lower_still : (q : ℕ) → Piece-at q → count_of w places n ≡ 0 → rank_at w q < suc n → rank_at w q < n
        lower_still q a z m = let d = none_at n (omega arith) z q a in omega arith

        go : (o : Option Climb) → IfSome o (Shown n) → IfSome o (Counted n) → Dec (count_of w places n ≡ 0) → IfSome (elim o [ Some c ↦ climb_at w n c | None ↦ None ]) (Shown (suc n))
        go None s u d = tt
        go (Some c) s u (yes z) =
            rw (climb_skip n c z)
            (record {
              filled = λ p a m. s.filled p a (lower_still p a z m);
              rising = λ p q a b m v. s.rising p q a b m (lower_still p a z v);
              highest = λ q a m. s.highest q a (lower_still q a z m);
            })
        go (Some c) s u (no z) = rw (climb_take n c z) (choose (rises n c) refl)
          where
            choose : (b : Bool) → rises n c ≡ b → IfSome (cond b (Some (taken n c)) None) (Shown (suc n))
            choose true e =
                let a = and_true (eqb c.seen n) (eqb n 0 || ltb (key c.last) (key (last_of w places n))) e in
                take_shown n (omega arith) c z s u a.0 a.1
            choose false e = tt

  climb_there : (n : ℕ) (o : Option Climb) → is_some o ≡ true → IfSome o (Shown n) → (c : Climb) × Shown n c
  climb_there n None e h = absurd (true≢false (sym e))
  climb_there n (Some c) e h = (c, h)

  -- true ranks are climbed
  climbs : Seen places here (rank_at w) key long → (n : ℕ) → n ≤ places → is_some (climbed w n) ≡ true
  unfolding climbed
  climbs s zero l = refl
  climbs s (suc n) l = go (climbed w n) (climbs s n (omega arith)) (counted n (omega arith)) (ℕ_discrete (count_of w places n) 0)
    where
      order : (c : Climb) → (lower n ≡ 0) ⊎ (Piece-at c.last × (rank_at w c.last < n)) → lower n ≡ n
          → Piece-at (last_of w places n) × (rank_at w (last_of w places n) ≡ n)
          → eqb n 0 || ltb (key c.last) (key (last_of w places n)) ≡ true
      order c (inl d) f m = rw (eq-eqb n 0 (sym f ∙ d)) refl
      order c (inr d) f m =
          let r = s.rising (last_of w places n) c.last m.0 d.0 (omega (arith, d.1, m.1)) in
          rw (lt-ltb (key c.last) (key (last_of w places n)) r) (or_yes (eqb n 0))

      go : (o : Option Climb) → is_some o ≡ true → IfSome o (Counted n) → Dec (count_of w places n ≡ 0) → is_some (elim o [ Some c ↦ climb_at w n c | None ↦ None ]) ≡ true
      go None e u d = absurd (true≢false (sym e))
      go (Some c) e u (yes z) = rw (climb_skip n c z) refl
      go (Some c) e u (no z) =
          let m = last_is n (omega arith) z in
          let f : lower n ≡ n = subst (λ (r : ℕ). lower r ≡ r) m.1 (s.filled (last_of w places n) m.0) in
          rw (climb_take n c z, eq-eqb c.seen n (u.seen_is ∙ f), order c u.last_at f m) refl

-- ---- the whole

same_bool : (a b : Bool) → (a ≡ true → b ≡ true) → (b ≡ true → a ≡ true) → a ≡ b
same_bool true true f g = refl
same_bool true false f g = sym (f refl)
same_bool false true f g = g refl
same_bool false false f g = refl

and_both : (a b : Bool) → a ≡ true → b ≡ true → a && b ≡ true
and_both a b e d = rw (e, d) refl

free_seen : (w : List ℕ) (p : ℕ) → is_free w p ≡ true → place_seen w p ≡ true
unfolding place_seen
free_seen w p d = rw d refl

module _ (w : List ℕ) (h : Headed w) (e : all places (place_fits w) ≡ true) where
  pieces : (p : ℕ) → p < places → (is_free w p ≡ true) ⊎ Fits w p
  unfolding place_fits
  pieces p l = go (or_cases (is_free w p) _ (all_yes (place_fits w) places e p l))
    where
      go : (is_free w p ≡ true) ⊎ (has_task w (piece_at w p) && fits_job w (piece_at w p) ≡ true) → (is_free w p ≡ true) ⊎ Fits w p
      go (inl d) = inl d
      go (inr d) = inr (and_true (has_task w (piece_at w p)) (fits_job w (piece_at w p)) d)

  -- what a look at a piece's place says
  looked : (p : ℕ) → place_seen w p ≡ true → here w p ≡ true
      → (rank_at w p < places) × (is_of (piece_at w (last_of w places (rank_at w p))).task (piece_at w (last_of w places (rank_at w p))).job (piece_at w p) ≡ true)
      × (total_at w p ≡ length_of w places (rank_at w p))
  unfolding place_seen
  looked p s d = go (or_cases (is_free w p) _ s)
    where
      go : (is_free w p ≡ true) ⊎ (ltb (rank_at w p) places && is_of (piece_at w (last_of w places (rank_at w p))).task (piece_at w (last_of w places (rank_at w p))).job (piece_at w p) && eqb (total_at w p) (length_of w places (rank_at w p)) ≡ true)
          → (rank_at w p < places) × (is_of (piece_at w (last_of w places (rank_at w p))).task (piece_at w (last_of w places (rank_at w p))).job (piece_at w p) ≡ true) × (total_at w p ≡ length_of w places (rank_at w p))
      go (inl z) = absurd (true≢false (sym z ∙ not-true (is_free w p) d))
      go (inr z) =
          let a = and_true (ltb (rank_at w p) places && is_of (piece_at w (last_of w places (rank_at w p))).task (piece_at w (last_of w places (rank_at w p))).job (piece_at w p)) (eqb (total_at w p) (length_of w places (rank_at w p))) z in
          let b = and_true (ltb (rank_at w p) places) (is_of (piece_at w (last_of w places (rank_at w p))).task (piece_at w (last_of w places (rank_at w p))).job (piece_at w p)) a.0 in
          (ltb-true _ _ b.0, b.1, eqb-true _ _ a.1)

  of_key : (x y : Piece) → is_of y.task y.job x ≡ true → job_key x ≡ job_key y
  unfolding is_of job_key
  of_key x y d = let a = and_true (eqb x.task y.task) (eqb x.job y.job) d in
      let t : x.task ≡ y.task = eqb-true _ _ a.0 in let j : x.job ≡ y.job = eqb-true _ _ a.1 in omega arith

  there : all places (place_seen w) ≡ true → is_some (climbed w places) ≡ true → SeenPlaces w h.head pieces
  there s o =
      let look : (p : ℕ) → Piece-at w p → _ = λ p a. looked p (all_yes (place_seen w) places s p a.0) a.1 in
      let one : (p : ℕ) → Piece-at w p → key w p ≡ key w (last_of w places (rank_at w p)) = λ p a. of_key (piece_at w p) (piece_at w (last_of w places (rank_at w p))) (look p a).1 in
      let k = (climb_there w places (climbed w places) o (shown w one places (le_of_eq refl))).1 in (
        record {
          one_key = λ p q a b d. one p a ∙ ap (λ (r : ℕ). key w (last_of w places r)) d ∙ sym (one q b);
          rising = λ p q a b d. k.rising p q a b d (look p a).0;
          filled = λ p a. k.filled p a (look p a).0;
        },
        λ p a. (look p a).2 ∙ length_of_holds w (rank_at w p) (look p a).0,
      )

  true_all : TruePlaces w h.head pieces → all places (place_true w) ≡ true
  true_all t = yes_all (place_true w) places (λ p l. go p l (is_free w p) refl (pieces p l))
    where
      go : (p : ℕ) → p < places → (b : Bool) → is_free w p ≡ b → (is_free w p ≡ true) ⊎ Fits w p → place_true w p ≡ true
      go p l true d f = (r_place w p).1 (inl d)
      go p l false d (inl f) = absurd (true≢false (sym f ∙ d))
      go p l false d (inr f) = let a = t p (l, ap not d) in (r_place w p).1 (inr (f.0, f.1, a.0, a.1))

  all_true : all places (place_true w) ≡ true → TruePlaces w h.head pieces
  all_true t p a = go ((r_place w p).0 (all_yes (place_true w) places t p a.0))
    where
      go : (is_free w p ≡ true) ⊎ TruePlace w p → (rank_at w p ≡ rank w (piece_at w p).task (piece_at w p).job) × (total_at w p ≡ job_sum w (piece_at w p).task (piece_at w p).job)
      go (inl z) = absurd (true≢false (sym z ∙ not-true (is_free w p) a.1))
      go (inr z) = (z.2, z.3)

  module _ (t : TruePlaces w h.head pieces) where
    s : SeenPlaces w h.head pieces
    s = (one_pass w h.head pieces).1 t

    seen_here : (p : ℕ) → Piece-at w p → place_seen w p ≡ true
    unfolding place_seen
    seen_here p a =
        let l = rank_below places (here w) (rank_at w) (key w) (long w) (ranks_of w h.head pieces t) p a in
        let m = last_is w (rank_at w p) l (λ z. none_at w (rank_at w p) l z p a refl) in
        let k = s.0.one_key p (last_of w places (rank_at w p)) a m.0 (sym m.1) in
        let i = key_same (piece_at w p) (piece_at w (last_of w places (rank_at w p))) (small_job w h.head pieces p a.0 a.1) (small_job w h.head pieces _ m.0.0 m.0.1) in
        rw (not-true (is_free w p) a.1, lt-ltb (rank_at w p) places l, i, eq-eqb _ _ k, eq-eqb _ _ (s.1 p a ∙ sym (length_of_holds w (rank_at w p) l))) refl

    seen_all : all places (place_seen w) ≡ true
    seen_all = yes_all (place_seen w) places (λ p l. go p l (is_free w p) refl)
      where
        go : (p : ℕ) → p < places → (b : Bool) → is_free w p ≡ b → place_seen w p ≡ true
        go p l true d = free_seen w p d
        go p l false d = seen_here p (l, ap not d)

  pub places_same : all places (place_seen w) && (is_some (climbed w places)) ≡ all places (place_true w)
  places_same =
      same_bool _ _
      (λ d. let a = and_true (all places (place_seen w)) (is_some (climbed w places)) d in true_all ((one_pass w h.head pieces).0 (there a.0 a.1)))
      (λ d. let t = all_true d in and_both _ _ (seen_all t) (climbs w (s t).0 places (le_of_eq refl)))

  -- what the pass finds of totals is what 33 asks of them
  pub totals_same : all places (place_seen w) && (is_some (climbed w places)) && all (draft_cores w) (core_seen w) ≡ all (draft_cores w) (core_true w) && all places (place_true w)
  totals_same = rw (places_same, cores_same w h) (swap (all places (place_true w)) (all (draft_cores w) (core_true w)))
    where
      swap : (a b : Bool) → a && b ≡ b && a
      swap true true = refl
      swap true false = refl
      swap false true = refl
      swap false false = refl

-- ---- 33 in the order in which the code asks

module _ (w : List ℕ) where
  pub enough : 32768 ≤ length w → draft_words ≤ length w
  unfolding draft_words
  enough l = l

  pub short_words : length w < 32768 → false ≡ is_draft w
  unfolding is_draft draft_words
  short_words l = rw (lt-leb 32768 (length w) l) refl

  module _ (r : draft_words ≤ length w) where
    pub no_head : head_in_range w ≡ false → false ≡ is_draft w
    unfolding is_draft
    no_head e = rw (le-leb draft_words (length w) r, e) refl

    module _ (f : head_in_range w ≡ true) where
      pub no_tasks : all (draft_tasks w) (task_in_range w) ≡ false → false ≡ is_draft w
      unfolding is_draft
      no_tasks e = rw (le-leb draft_words (length w) r, f, e) refl

      pub headed : all (draft_tasks w) (task_in_range w) ≡ true → Headed w
      headed e = record { room = r; head = f; tasks = all_yes (task_in_range w) (draft_tasks w) e }

      module _ (t : all (draft_tasks w) (task_in_range w) ≡ true) where
        pub rest_is : all (draft_cores w) (core_true w) && all places (place_true w) ≡ is_draft w
        unfolding is_draft
        rest_is = rw (le-leb draft_words (length w) r, f, t) refl

        true_fits : (p : ℕ) → place_true w p ≡ true → place_fits w p ≡ true
        unfolding place_fits
        true_fits p e = go ((r_place w p).0 e)
          where
            go : (is_free w p ≡ true) ⊎ TruePlace w p → is_free w p || (has_task w (piece_at w p) && fits_job w (piece_at w p)) ≡ true
            go (inl z) = rw z refl
            go (inr z) = rw (z.0, z.1) (or_yes (is_free w p))

        pub no_places : all places (place_fits w) ≡ false → false ≡ is_draft w
        no_places e = go (all places (place_true w)) refl
          where
            no_and : (b : Bool) → b && false ≡ false
            no_and true = refl
            no_and false = refl

            go : (b : Bool) → all places (place_true w) ≡ b → false ≡ is_draft w
            go true d = absurd (true≢false (sym (yes_all (place_fits w) places (λ p l. true_fits p (all_yes (place_true w) places d p l))) ∙ e))
            go false d = sym (sym rest_is ∙ (rw d (no_and (all (draft_cores w) (core_true w)))))
