-- While a plan runs: what each cycle has shown keeps what demand 3 says of a run of that cycle's plan.
use Prim.Native.Nat.{ℕ, ◌+◌, ◌-◌, ◌*◌, ◌/◌, ◌%◌, ◌≤◌, ◌<◌, min}
use mathlib.Core.Path.{◌≡◌, refl, sym, ap, ◌∙◌, subst}
use mathlib.Core.Bool.{Bool, true, ◌&&◌}
use mathlib.Core.List.{List, []}
use native.Mathlib.Nat.{add-mul, zero-add, zero-mul, one-mul, mod-lt, div-add-mod'}
use native.Mathlib.Omega.{arith}
use lib.Arith.{digits_div, digits_mod}
use lib.ListN.{length, get_or, take, drop, length-map, length-take, length-drop, get_or-map}
use lib.Seq.{get_or-take, get_or-drop}
use lib.Dec.{eqb}
use borrow.Author.Tests.{eq-eqb}
use Rattle.plan.specs.declared.Table.TheVariants.{Tasks}
use Rattle.plan.specs.Image.{cycle_ticks, precision, rows, task}
use Rattle.plan.specs.Questions.{jobs}
use Rattle.plan.specs.Search.{count}
use Rattle.plan.specs.Dispatch.{Shown, show, lanes, shown_at, start_state}
use Rattle.plan.specs.Runs as Run
use Rattle.plan.proofs.Facts.{facts, queue_facts, chain_facts}
use Rattle.plan.proofs.Counting.{count_cong}
use Rattle.plan.proofs.Kept as Job
use Rattle.plan.proofs.Demand as Demand
use Rattle.modes.specs.Modes as Modes
use Rattle.modes.specs.Modes.{places, Shift}
use Rattle.modes.specs.Claim.{AllHeld, Log, tick_at, place_at, tick_shows, shows_from, cycle_shows, ShiftHolds}
use Rattle.modes.proofs.Changes.{Alike, Inv, back, same_lanes, accepts, says, number_is}

-- the ticks of one cycle
one_cycle : (h : ℕ) → (test : ℕ → Bool) → count h (λ i. eqb (i / h) 0 && test i) ≡ count h test
one_cycle h test = count_cong (λ i. eqb (i / h) 0 && test i) test h (λ i l. rw (eq-eqb (i / h) 0 (first i l)) refl)
  where
    first : (i : ℕ) → i < h → i / h ≡ 0
    first i l = let e : i ≡ 0 * h + i = sym (ap (λ (x : ℕ). x + i) (zero-mul h) ∙ zero-add i) in ap (λ (x : ℕ). x / h) e ∙ digits_div 0 l

module _ (images : ℕ → List ℕ) (x : Shift) (all_held : AllHeld images x.plans x.words) (g : Log) (v : Inv images x.plans x.words x.mode g) where
  abbrev H : ℕ
  H = cycle_ticks (images x.mode.running)

  abbrev N : ℕ
  N = length g.ticks

  -- m ticks from a cycle's tick 0 on, or as many of them as were shown, all of one plan
  module _ (y m : ℕ) (some : y * H < N) (same : (i : ℕ) → i < min m (N - y * H) → place_at g (y * H + i) ≡ place_at g (y * H)) where
    abbrev its_place : ℕ
    its_place = place_at g (y * H)

    abbrev s : List ℕ
    s = images its_place

    abbrev shows : ℕ → List Shown
    shows = shows_from g (y * H) m

    abbrev so_many : ℕ
    so_many = min m (N - y * H)

    its : (Modes.held x.plans its_place ≡ true) × Alike images its_place x.mode.running
    its = v.plan (y * H) some

    shows_long : (l : ℕ) → length (shows l) ≡ so_many
    unfolding shows_from
    shows_long l = length-map (take m (drop (y * H) g.ticks)) (tick_shows l) ∙ rw (length-take, length-drop) refl

    shows_at : (l i : ℕ) → i < m → get_or (shows l) i (show 0 0) ≡ tick_shows l (tick_at g (y * H + i))
    unfolding shows_from tick_at tick_shows start_state
    shows_at l i h =
        get_or-map (tick_shows l) (take m (drop (y * H) g.ticks)) i (record { place = places; row = [] })
        ∙ ap (tick_shows l) (get_or-take m (drop (y * H) g.ticks) i (record { place = places; row = [] }) h ∙ get_or-drop (y * H) g.ticks i (record { place = places; row = [] }))

    in_cycle_holds : (i : ℕ) → (y * H + i) % H ≡ i % cycle_ticks s
    in_cycle_holds i =
        let e : y * H + i ≡ (y + i / H) * H + i % H = sym (add_mul_digits y i) in
        ap (λ (u : ℕ). u % H) e ∙ digits_mod (y + i / H) (mod-lt i v.some) ∙ ap (λ (u : ℕ). i % u) (sym its.1.ticks)
      where
        add_mul_digits : (a i : ℕ) → (a + i / H) * H + i % H ≡ a * H + i
        add_mul_digits a i = omega (arith, add-mul a (i / H) H, div-add-mod' i H)

    law : (l i : ℕ) → l < lanes s → i < so_many → get_or (shows l) i (show 0 0) ≡ shown_at s l (i % cycle_ticks s)
    law l i hl hi =
        let b : y * H + i < N = omega arith in
        shows_at l i (omega arith) ∙ v.shown (y * H + i) l b (subst (λ (u : ℕ). l < u) (same_lanes images its.1) hl)
        ∙ ap (λ (u : ℕ). shown_at (images u) l ((y * H + i) % H)) (same i hi) ∙ ap (shown_at s l) (in_cycle_holds i)

    kept_on : (ahead : ℕ → ℕ) → ((i : ℕ) → ahead i ≤ precision s) → (delay : ℕ → ℕ → ℕ) → Run.InBounds s delay
        → Run.Kept s (g.cycle + y) ahead shows delay so_many
    kept_on ahead near delay bounds =
        let e = accepts images x.plans x.words all_held its_place its.0 in
        Demand.kept s (facts s e) (queue_facts s e) (chain_facts s e) (g.cycle + y) ahead near delay bounds shows so_many (λ l _. shows_long l) law

    -- a job's work in the first cycle of these ticks, if there is no more
    worked : (t k : ℕ) → so_many ≡ H → t < rows s Tasks → k < jobs s t
        → count H (Run.in_cycle s (g.cycle + y) (λ _. 0) shows 0 (Run.works s (g.cycle + y) (λ _. 0) shows t k)) ≡ (task s t).budget
    worked t k full ht hk =
        let e = accepts images x.plans x.words all_held its_place its.0 in
        let low : (0 + 1) * cycle_ticks s ≤ so_many = omega (arith, its.1.ticks, add-mul 0 1 (cycle_ticks s), one-mul (cycle_ticks s)) in
        subst (λ (u : ℕ). count u (Run.in_cycle s (g.cycle + y) (λ _. 0) shows 0 (Run.works s (g.cycle + y) (λ _. 0) shows t k)) ≡ (task s t).budget)
        full (Job.budget s (facts s e) (g.cycle + y) (λ _. 0) shows so_many (λ l _. shows_long l) law t k 0 low ht hk)

    in_first : (test : ℕ → Bool) → count H (Run.in_cycle s (g.cycle + y) (λ _. 0) shows 0 test) ≡ count H test
    unfolding Run.in_cycle
    in_first test = ap (λ (u : ℕ). count H (λ i. eqb (i / u) 0 && test i)) its.1.ticks ∙ one_cycle H test

  -- in a cycle one plan is shown
  one : (y i : ℕ) → i < min H (N - y * H) → place_at g (y * H + i) ≡ place_at g (y * H)
  one y i l =
      let a : i < H = omega arith in
      let b : y * H + i < N = omega arith in
      v.one_plan (y * H + i) b ∙ ap (λ (u : ℕ). place_at g (u * H)) (digits_div y a)

  budget : (y t k : ℕ) → (y + 1) * H ≤ N
      → let s = images (place_at g (y * H)) in
      t < rows s Tasks → k < jobs s t → count H (Run.works s (g.cycle + y) (λ _. 0) (cycle_shows g H y) t k) ≡ (task s t).budget
  budget y t k done ht hk =
      let e : (y + 1) * H ≡ y * H + H = add-mul y 1 H ∙ ap (λ (u : ℕ). y * H + u) (one-mul H) in
      let some : y * H < N = omega (arith, v.some) in
      sym (in_first y H some (one y) _) ∙ worked y H some (one y) t k (omega arith) ht hk

  pub holds : ShiftHolds images x g
  holds =
      record {
        runs = v.runs;
        wants = λ d. let w = v.wants d in
            (w.0, says images x.plans x.words all_held x.mode.wanted x.mode.running w.0 v.runs (back images w.1));
        number = unfold Modes.gives in (number_is images x.plans x.words all_held x.mode g v);
        records = v.row.long;
        tick = λ l k. (v.row.lane l k).tick;
        cycle = λ l k. (v.row.lane l k).cycle;
        plan_at = λ i l. let w = v.plan i l in
            (w.0, says images x.plans x.words all_held (place_at g i) x.mode.running w.0 v.runs w.1);
        one_plan = v.one_plan;
        shown = v.shown;
        kept = λ y some. kept_on y H some (one y);
        kept_on = kept_on;
        budget = budget;
      }
