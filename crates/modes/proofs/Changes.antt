-- Starts, requests and steps over plans that places hold: each cycle shows one held plan, tick for tick, also where a request is taken.
use Prim.Native.Nat.{ℕ, zero, suc, ◌+◌, ◌-◌, ◌*◌, ◌/◌, ◌%◌, ◌^◌, ◌≤◌, ◌<◌}
use mathlib.Core.Path.{◌≡◌, refl, sym, ap, ◌∙◌, subst}
use mathlib.Core.Logic.{◌≢◌, inl, inr}
use mathlib.Core.Bool.{Bool, true, false, ◌&&◌, cond, true≢false, and-false}
use mathlib.Core.List.{List, ◌∷◌, ◌++◌, []}
use native.Mathlib.Nat.{not-suc-le-zero, le_of_suc-le-suc, div-add-mod', suc-mul, add-zero, zero-mod, mul-le-mul_right}
use native.Mathlib.Omega.{arith}
use native.Mathlib.Decide.{dec_lt, ℕ_discrete}
use lib.ListN.{length, get_or, take, drop, length-append, get_or-append}
use lib.Seq.{get_or-append_seam}
use lib.Dec.{ltb, eqb, lit<}
use borrow.Author.Tests.{eqb-true, eq-eqb, ne_eqb, ltb-true, lt-ltb, le-ltb}
use Rattle.plan.specs.declared.Table.TheVariants.{Cores, Links}
use Rattle.plan.specs.declared.LaneState.{LaneState}
use Rattle.plan.specs.Image.{cycle_ticks, rows}
use Rattle.plan.specs.Questions.{answer_of, accepted}
use Rattle.plan.specs.Search.{count}
use Rattle.plan.specs.Dispatch.{show, lanes, shown_at, table_of, starts_at, begins, refusal, step_all}
use Rattle.plan.specs.Runs as Run
use Rattle.plan.proofs.Searching.{and_true}
use Rattle.plan.proofs.Facts.{facts}
use Rattle.plan.proofs.Lanes.{At}
use Rattle.plan.proofs.Calls.{Row, none, call_gives, Did, did, long, some_end}
use Rattle.plan.proofs.RunLists as Lists
use Rattle.plan.proofs.Starts.{starts_many, start_at}
use Rattle.plan.proofs.Tables.{begins_zero}
use Rattle.plan.proofs.Tests.{any_row, row_any, with_row, no_count}
use Rattle.plan.proofs.Demand as Demand
use Rattle.modes.specs.declared.HeldPlan.{HeldPlan}
use Rattle.modes.specs.Modes
use Rattle.modes.specs.Modes.{places, held_of, is_plan, lane_count, Mode, at_table}
use Rattle.modes.specs.Claim.{AllHeld, Tick, Log, tick_at, place_at, tick_shows}
use Rattle.modes.proofs.Tabled.{from_second}
use Rattle.modes.proofs.Cycles.{same_cycle, whole_cycles, in_cycle_holds}

-- facts on numbers, with E for the calendar's last tick
n_lt : (a E : ℕ) → a ≤ E → a ≢ E → a < E
n_lt a E h d = omega arith

n_ge : (a E : ℕ) → a ≡ E → E ≤ a
n_ge a E e = omega arith

-- a number that is 0 was reached by a yes
yes_then : (b : Bool) (x n : ℕ) → 1 ≤ n → cond b x n ≡ 0 → (b ≡ true) × (x ≡ 0)
yes_then true x n l e = (refl, e)
yes_then false x n l e = absurd (omega arith)

-- no request, none is taken
pub turns_none : (plans : List HeldPlan) (words : List ℕ) (m : Mode) → m.wanted ≡ places → Modes.taken plans words m ≡ m
unfolding Modes.taken Modes.due
turns_none plans words m e = rw e refl

-- ---- a log with one tick more

module _ (g : Log) (x : Tick) where
  abbrev pub more : Log
  more = record { cycle = g.cycle; ticks = g.ticks ++ x ∷ [] }

  pub one_more : length more.ticks ≡ length g.ticks + 1
  one_more = length-append g.ticks (x ∷ [])

  old_tick : (i : ℕ) → i < length g.ticks → tick_at more i ≡ tick_at g i
  unfolding tick_at
  old_tick i l = get_or-append g.ticks (x ∷ []) (record { place = places; row = [] }) i l

  pub new_tick : tick_at more (length g.ticks) ≡ x
  unfolding tick_at
  new_tick = get_or-append_seam g.ticks x [] (record { place = places; row = [] })

  pub each_tick : (P : ℕ → Tick → Type 0) → ((i : ℕ) → i < length g.ticks → P i (tick_at g i)) → P (length g.ticks) x
      → (i : ℕ) → i < length more.ticks → P i (tick_at more i)
  each_tick P old new i l = go (dec_lt i (length g.ticks))
    where
      go : Dec (i < length g.ticks) → P i (tick_at more i)
      go (yes k) = rw (old_tick i k) (old i k)
      go (no k) = let e : i ≡ length g.ticks = omega (arith, one_more) in rw (e, new_tick) new

-- ---- what holds after each call

module _ (images : ℕ → List ℕ) where
  -- what 44 compares
  pub record Alike (p q : ℕ) : Type 0 where
    pub ticks : cycle_ticks (images p) ≡ cycle_ticks (images q)
    pub cores : rows (images p) Cores ≡ rows (images q) Cores
    pub links : rows (images p) Links ≡ rows (images q) Links

  itself : (p : ℕ) → Alike p p
  itself p = record { ticks = refl; cores = refl; links = refl }

  pub back : {p q : ℕ} → Alike p q → Alike q p
  back a = record { ticks = sym a.ticks; cores = sym a.cores; links = sym a.links }

  through : {p q r : ℕ} → Alike p q → Alike q r → Alike p r
  through a b = record { ticks = a.ticks ∙ b.ticks; cores = a.cores ∙ b.cores; links = a.links ∙ b.links }

  pub same_lanes : {p q : ℕ} → Alike p q → lanes (images p) ≡ lanes (images q)
  unfolding lanes
  same_lanes a = rw (a.cores, a.links) refl

  module _ (plans : List HeldPlan) (words : List ℕ) (m : Mode) (g : Log) where
    abbrev pub H : ℕ
    H = cycle_ticks (images m.running)

    abbrev pub N : ℕ
    N = length g.ticks

    pub record Inv : Type 0 where
      pub runs : Modes.held plans m.running ≡ true
      pub wants : m.wanted ≢ places → (Modes.held plans m.wanted ≡ true) × Alike m.running m.wanted
      pub some : 1 ≤ H
      pub low : g.cycle * H + N ≤ 2 ^ 64 * H - 1
      pub row : Row (images m.running) words g.cycle some (λ _. N) m.row
      pub plan : (i : ℕ) → i < N → (Modes.held plans (place_at g i) ≡ true) × Alike (place_at g i) m.running
      pub one_plan : (i : ℕ) → i < N → place_at g i ≡ place_at g (i / H * H)
      pub current : N % H ≢ 0 → place_at g (N / H * H) ≡ m.running
      pub shown : (i l : ℕ) → i < N → l < lanes (images m.running) → tick_shows l (tick_at g i) ≡ shown_at (images (place_at g i)) l (i % H)

module _ (images : ℕ → List ℕ) (plans : List HeldPlan) (words : List ℕ) (all_held : AllHeld images plans words) where
  abbrev held : ℕ → Bool
  held = Modes.held plans

  abbrev at : ℕ → ℕ → ℕ
  at = Modes.table_at plans words

  abbrev Stands : Mode → Log → Type 0
  Stands = Inv images plans words

  -- ---- what is kept of a plan is the plan's

  pub accepts : (p : ℕ) → held p ≡ true → answer_of (images p) ≡ accepted
  accepts p e = (all_held p e).accepts

  pub held_place : (p : ℕ) → held p ≡ true → p < places
  unfolding Modes.held
  held_place p e = ltb-true p places (and_true (ltb p places) (is_plan (Modes.plan plans p)) e).0

  pos : (p : ℕ) → held p ≡ true → 1 ≤ cycle_ticks (images p)
  pos p e = (facts (images p) (accepts p e)).cycle

  some_lane : (p : ℕ) → held p ≡ true → 1 ≤ lanes (images p)
  some_lane p e = Demand.some_lane (images p) (facts (images p) (accepts p e))

  ticks_kept : (p : ℕ) → held p ≡ true → (Modes.plan plans p).ticks ≡ cycle_ticks (images p)
  unfolding held_of
  ticks_kept p e = ap (λ (h : HeldPlan). h.ticks) (all_held p e).kept

  cores_kept : (p : ℕ) → held p ≡ true → (Modes.plan plans p).cores ≡ rows (images p) Cores
  unfolding held_of
  cores_kept p e = ap (λ (h : HeldPlan). h.cores) (all_held p e).kept

  links_kept : (p : ℕ) → held p ≡ true → (Modes.plan plans p).links ≡ rows (images p) Links
  unfolding held_of
  links_kept p e = ap (λ (h : HeldPlan). h.links) (all_held p e).kept

  pub lanes_kept : (p : ℕ) → held p ≡ true → lane_count (Modes.plan plans p) ≡ lanes (images p)
  unfolding lane_count lanes
  lanes_kept p e = rw (cores_kept p e, links_kept p e) refl

  reads : (p q : ℕ) → held p ≡ true → held q ≡ true → Modes.alike (Modes.plan plans p) (Modes.plan plans q) ≡ true → Alike images p q
  unfolding Modes.alike
  reads p q y z e =
      let h = Modes.plan plans p in let k = Modes.plan plans q in
      let a = and_true (eqb h.ticks k.ticks && eqb h.cores k.cores) (eqb h.links k.links) e in
      let b = and_true (eqb h.ticks k.ticks) (eqb h.cores k.cores) a.0 in
      record {
        ticks = sym (ticks_kept p y) ∙ eqb-true h.ticks k.ticks b.0 ∙ ticks_kept q z;
        cores = sym (cores_kept p y) ∙ eqb-true h.cores k.cores b.1 ∙ cores_kept q z;
        links = sym (links_kept p y) ∙ eqb-true h.links k.links a.1 ∙ links_kept q z;
      }

  pub says : (p q : ℕ) → held p ≡ true → held q ≡ true → Alike images p q → Modes.alike (Modes.plan plans p) (Modes.plan plans q) ≡ true
  unfolding Modes.alike
  says p q y z a =
      let h = Modes.plan plans p in let k = Modes.plan plans q in
      rw (
        eq-eqb h.ticks k.ticks (ticks_kept p y ∙ a.ticks ∙ sym (ticks_kept q z)),
        eq-eqb h.cores k.cores (cores_kept p y ∙ a.cores ∙ sym (cores_kept q z)),
        eq-eqb h.links k.links (links_kept p y ∙ a.links ∙ sym (links_kept q z)),
      ) refl

  -- ---- a request that is due is taken: the same ticks, the records at the other plan's tables

  -- a record at tick 0 stands as well at another plan's table
  turned : {p q l c n : ℕ} {st : LaneState} → Alike images p q → n % cycle_ticks (images p) ≡ 0
      → take (length (table_of (images q) l)) (drop (at q l) words) ≡ table_of (images q) l
      → At (images p) words l c n st
      → At (images q) words l c n (at_table (at q l) st)
  unfolding at_table
  turned {p} {q} {l} {c} {n} {st} a z lie s =
      record {
        held = lie;
        cycle = rw (← a.ticks) s.cycle;
        tick = rw (← a.ticks) s.tick;
        entry = rw (← a.ticks, z) ((rw z at s.entry) ∙ one (images p) ∙ sym (one (images q)));
      }
    where
      one : (i : List ℕ) → count 1 (begins i l) ≡ 1
      one i = omega (arith, with_row (begins i l) 0 (begins_zero i l), no_count (begins i l))

  placed_long : (word : ℕ) (sts : List LaneState) → length (Modes.placed words word sts) ≡ length sts
  unfolding Modes.placed
  placed_long word [] = refl
  placed_long word (st ∷ sts) = ap suc (placed_long (Modes.table_after words word) sts)

  placed_at : (word : ℕ) (sts : List LaneState) (k : ℕ) → k < length sts
      → get_or (Modes.placed words word sts) k none ≡ at_table (Modes.table_from words word k) (get_or sts k none)
  unfolding Modes.placed
  placed_at word [] k h = absurd (not-suc-le-zero h)
  placed_at word (st ∷ sts) zero h = unfold Modes.table_from in refl
  placed_at word (st ∷ sts) (suc k) h =
      placed_at (Modes.table_after words word) sts k (le_of_suc-le-suc h)
      ∙ ap (λ (x : ℕ). at_table x (get_or sts k none)) (from_second words word k)

  abbrev taken : Mode → Mode
  taken = Modes.taken plans words

  -- the mode of a request that is taken
  abbrev Over : Mode → Mode
  Over m = record { running = m.wanted; wanted = places; row = Modes.placed words (Modes.plan plans m.wanted).first m.row }

  due_yes : (m : Mode) → Modes.due plans words m ≡ true → taken m ≡ Over m
  unfolding Modes.taken
  due_yes m e = rw e refl

  due_no : (m : Mode) → Modes.due plans words m ≡ false → taken m ≡ m
  unfolding Modes.taken
  due_no m e = rw e refl

  take_over : (m : Mode) (g : Log) → Stands m g → m.wanted ≢ places → length g.ticks % cycle_ticks (images m.running) ≡ 0
      → Stands (Over m) g
  unfolding Modes.table_at
  take_over m g v w z =
      let q = m.wanted in let a = (v.wants w).1 in let y = (v.wants w).0 in
      record {
        runs = y;
        wants = λ d. absurd (d refl);
        some = pos q y;
        low = subst (λ (h : ℕ). g.cycle * h + length g.ticks ≤ 2 ^ 64 * h - 1) a.ticks v.low;
        row = record {
          long = placed_long (Modes.plan plans q).first m.row ∙ v.row.long ∙ same_lanes images a;
          lane = λ l k. let k' : l < lanes (images m.running) = rw (same_lanes images a) k in
              rw (placed_at (Modes.plan plans q).first m.row l (omega (arith, v.row.long))) (turned a z ((all_held q y).tables l k) (v.row.lane l k'));
        };
        plan = λ i l. ((v.plan i l).0, through images (v.plan i l).1 a);
        one_plan = λ i l. rw (← a.ticks) (v.one_plan i l);
        current = λ d. absurd (d (rw (← a.ticks) z));
        shown = λ i l k j. rw (← a.ticks) (v.shown i l k (rw (same_lanes images a) j));
      }

  -- the first record is at tick 0 exactly where tick 0 is next on all lanes
  first_tick : (m : Mode) (g : Log) → Stands m g → (get_or m.row 0 none).tick ≡ length g.ticks % cycle_ticks (images m.running)
  first_tick m g v = (v.row.lane 0 (some_lane m.running v.runs)).tick

  -- a request waits, and tick 0 is next; or nothing is taken
  pub record Turn (m : Mode) (g : Log) : Type 0 where
    pub inv : Stands (taken m) g
    pub alike_still : Alike images m.running (taken m).running

  taking : (m : Mode) (g : Log) → Stands m g → (b : Bool) → Modes.due plans words m ≡ b → Turn m g
  unfolding Modes.due
  taking m g v true e =
      let a = and_true (ltb m.wanted places) (eqb (get_or m.row 0 none).tick 0) e in
      let l = ltb-true m.wanted places a.0 in
      let w : m.wanted ≢ places = λ q. omega arith in
      let z = sym (first_tick m g v) ∙ eqb-true (get_or m.row 0 none).tick 0 a.1 in
      record { inv = rw (due_yes m e) (take_over m g v w z); alike_still = rw (due_yes m e) (v.wants w).1 }
  taking m g v false e = record { inv = rw (due_no m e) v; alike_still = rw (due_no m e) (itself images m.running) }

  pub take_now : (m : Mode) (g : Log) → Stands m g → Turn m g
  take_now m g v = taking m g v (Modes.due plans words m) refl

  -- a step takes the request where tick 0 is next, and none else
  pub turns_yes : (m : Mode) (g : Log) → Stands m g → m.wanted ≢ places → length g.ticks % cycle_ticks (images m.running) ≡ 0 → taken m ≡ Over m
  turns_yes m g v w z = due_yes m due
    where
      due : Modes.due plans words m ≡ true
      due = unfold Modes.due in (rw (lt-ltb m.wanted places (held_place m.wanted (v.wants w).0), eq-eqb (get_or m.row 0 none).tick 0 (first_tick m g v ∙ z)) refl)

  pub turns_no : (m : Mode) (g : Log) → Stands m g → length g.ticks % cycle_ticks (images m.running) ≢ 0 → taken m ≡ m
  turns_no m g v z = due_no m due
    where
      due : Modes.due plans words m ≡ false
      due = unfold Modes.due in (rw (ne_eqb (get_or m.row 0 none).tick 0 (λ e. z (sym (first_tick m g v) ∙ e))) (and-false (ltb m.wanted places)))

  -- ---- a step of all lanes

  module _ (m : Mode) (g : Log) (v : Stands m g) where
    abbrev s : List ℕ
    s = images m.running

    abbrev h : ℕ
    h = cycle_ticks s

    abbrev n : ℕ
    n = length g.ticks

    abbrev Ends : Bool
    Ends = some_end s words g.cycle v.some (λ _. n) Run.all_lanes

    refusal_is : refusal words m.row ≡ cond Ends 28 0
    refusal_is = unfold Run.gives in (call_gives s words g.cycle v.some v.row Run.all_lanes tt)

    ends_yes : g.cycle * h + n ≡ 2 ^ 64 * h - 1 → Ends ≡ true
    unfolding Run.steps
    ends_yes e =
        row_any (λ l. Run.steps Run.all_lanes l && eqb (g.cycle * h + n) (2 ^ 64 * h - 1)) (lanes s) 0 (some_lane m.running v.runs)
        (eq-eqb (g.cycle * h + n) (2 ^ 64 * h - 1) e)

    ends_no : g.cycle * h + n ≢ 2 ^ 64 * h - 1 → Ends ≡ false
    ends_no d = go Ends refl
      where
        go : (b : Bool) → Ends ≡ b → Ends ≡ false
        go false e = e
        go true e =
            let w = any_row (λ l. Run.steps Run.all_lanes l && eqb (g.cycle * h + n) (2 ^ 64 * h - 1)) (lanes s) e in
            absurd (d (eqb-true (g.cycle * h + n) (2 ^ 64 * h - 1) (and_true (Run.steps Run.all_lanes w.0) _ w.2).1))

    step_number_holds : refusal words m.row ≡ cond (ltb (g.cycle * h + n) (2 ^ 64 * h - 1)) 0 28
    step_number_holds = refusal_is ∙ go (ℕ_discrete (g.cycle * h + n) (2 ^ 64 * h - 1))
      where
        go : Dec (g.cycle * h + n ≡ 2 ^ 64 * h - 1) → ◌≡◌ {A = ℕ} (cond Ends 28 0) (cond (ltb (g.cycle * h + n) (2 ^ 64 * h - 1)) 0 28)
        go (yes e) = rw (ends_yes e, le-ltb (g.cycle * h + n) (2 ^ 64 * h - 1) (n_ge (g.cycle * h + n) (2 ^ 64 * h - 1) e)) refl
        go (no d) = rw (ends_no d, lt-ltb (g.cycle * h + n) (2 ^ 64 * h - 1) (n_lt (g.cycle * h + n) (2 ^ 64 * h - 1) v.low d)) refl

    module _ (ok : refusal words m.row ≡ 0) where
      not_last : g.cycle * h + n ≢ 2 ^ 64 * h - 1
      not_last e = let z : ◌≡◌ {A = ℕ} 0 28 = sym ok ∙ refusal_is ∙ ap (λ (b : Bool). cond b 28 0) (ends_yes e) in omega arith

      lane_moves : (l : ℕ) → l < lanes s
          → At s words l g.cycle (n + 1) (get_or (step_all words m.row) l none)
          × (show (get_or (step_all words m.row) l none).kind (get_or (step_all words m.row) l none).row ≡ shown_at s l (n % h))
      unfolding Run.leaves Run.gives Run.steps Run.record_shows
      lane_moves l k = go (did s words g.cycle v.some v.row Run.all_lanes tt l k)
        where
          yes_moves : eqb (refusal words m.row) 0 ≡ true
          yes_moves = eq-eqb _ _ ok

          go : Did s words g.cycle v.some v.row Run.all_lanes l
              → At s words l g.cycle (n + 1) (get_or (step_all words m.row) l none)
              × (show (get_or (step_all words m.row) l none).kind (get_or (step_all words m.row) l none).row ≡ shown_at s l (n % h))
          go (inl d) = (d.1, d.2)
          go (inr d) = absurd (true≢false (sym yes_moves ∙ d.0))

      -- the log with one tick more
      abbrev x : Tick
      x = record { place = m.running; row = step_all words m.row }

      abbrev g' : Log
      g' = more g x

      -- the plan of the cycle in which this tick lies
      this_cycle : place_at g' (n / h * h) ≡ m.running
      this_cycle = go (ℕ_discrete (n % h) 0)
        where
          go : Dec (n % h ≡ 0) → place_at g' (n / h * h) ≡ m.running
          go (yes e) = ap (λ (i : ℕ). place_at g' i) (whole_cycles h v.some n e) ∙ ap (λ (t : Tick). t.place) (new_tick g x)
          go (no d) = ap (λ (t : Tick). t.place) (old_tick g x (n / h * h) (in_cycle_holds h v.some n d)) ∙ v.current d

      cycle_low : (i : ℕ) → i / h * h ≤ i
      cycle_low i = omega (arith, div-add-mod' i h)

      pub still : Stands (record { running = m.running; wanted = m.wanted; row = step_all words m.row }) g'
      still =
          record {
            runs = v.runs;
            wants = v.wants;
            some = v.some;
            low = subst (λ (k : ℕ). g.cycle * h + k ≤ 2 ^ 64 * h - 1) (sym (one_more g x)) (Lists.n_next (g.cycle * h) n (2 ^ 64 * h - 1) v.low not_last);
            row = subst (λ (k : ℕ). Row s words g.cycle v.some (λ _. k) (step_all words m.row)) (sym (one_more g x))
                (record { long = unfold Run.leaves in (long s words g.cycle v.some v.row Run.all_lanes); lane = λ l k. (lane_moves l k).0 });
            plan = each_tick g x (λ i t. (held t.place ≡ true) × Alike images t.place m.running) v.plan (v.runs, itself images m.running);
            one_plan = each_tick g x (λ i t. t.place ≡ place_at g' (i / h * h))
                (λ i l. v.one_plan i l ∙ sym (ap (λ (t : Tick). t.place) (old_tick g x (i / h * h) (omega (arith, cycle_low i))))) (sym this_cycle);
            current = λ d. let d' : (n + 1) % h ≢ 0 = rw (one_more g x) at d in
                rw (one_more g x, same_cycle h v.some n d') this_cycle;
            shown = λ i l k j. each_tick g x (λ i t. (l : ℕ) → l < lanes s → tick_shows l t ≡ shown_at (images t.place) l (i % h)) (λ i k l j. v.shown i l k j) (λ l j. unfold tick_shows in (lane_moves l j).1) i k l j;
          }

  -- what a step gives while a plan runs
  pub step_gives : (m : Mode) (g : Log) → Stands m g → Modes.step_number plans words m ≡ refusal words (taken m).row
  unfolding Modes.step_number
  step_gives m g v = rw (v.runs, eq-eqb (length m.row) (lane_count (Modes.plan plans m.running)) (v.row.long ∙ sym (lanes_kept m.running v.runs))) refl

  pub number_is : (m : Mode) (g : Log) → Stands m g
      → let h = cycle_ticks (images m.running) in Modes.step_number plans words m ≡ cond (ltb (g.cycle * h + length g.ticks) (2 ^ 64 * h - 1)) 0 28
  number_is m g v =
      let t = take_now m g v in
      step_gives m g v ∙ step_number_holds (taken m) g t.inv
      ∙ ap (λ (h : ℕ). cond (ltb (g.cycle * h + length g.ticks) (2 ^ 64 * h - 1)) 0 28) (sym t.alike_still.ticks)

  -- ---- a start, and a request

  pub start_asks : (p records : ℕ) → Modes.start_number plans words p records ≡ 0 → held p ≡ true
  unfolding Modes.start_number
  start_asks p records e = (yes_then _ _ 43 (lit< tt) e).0

  pub begin : (p c : ℕ) → held p ≡ true → c < 2 ^ 64 → Stands (Modes.started plans words p c) (record { cycle = c; ticks = [] })
  unfolding Modes.started Run.moved_by Run.seen Run.after
  begin p c y hc =
      let h = cycle_ticks (images p) in
      let k = lane_count (Modes.plan plans p) in
      let r : Run.Ready (images p) words (starts_at (at p) c k) c = record {
        plan = accepts p y;
        in_calendar = hc;
        records = starts_many (at p) c k ∙ lanes_kept p y;
        starts = λ l u. (at p l, start_at (at p) c k l none (rw (lanes_kept p y) u), (all_held p y).tables l u);
      } in
      record {
        runs = y;
        wants = λ d. absurd (d refl);
        some = pos p y;
        low = rw (add-zero (c * h)) (Lists.n_below (c * h) h (2 ^ 64 * h) (subst (λ (u : ℕ). u ≤ 2 ^ 64 * h) (suc-mul c h) (mul-le-mul_right h hc)) (pos p y));
        row = Lists.stands (images p) words c (pos p y) (starts_at (at p) c k) r [] tt;
        plan = λ i l. absurd (not-suc-le-zero l);
        one_plan = λ i l. absurd (not-suc-le-zero l);
        current = λ d. absurd (d (zero-mod h));
        shown = λ i l k j. absurd (not-suc-le-zero k);
      }

  -- what a request that gives 0 has asked
  pub request_asks : (m : Mode) (p : ℕ) → Modes.request_number plans words m p ≡ 0
      → (held p ≡ true) × (held m.running ≡ true) × (Modes.alike (Modes.plan plans m.running) (Modes.plan plans p) ≡ true)
  unfolding Modes.request_number
  request_asks m p e =
      let a = yes_then _ _ 43 (lit< tt) e in
      let b = and_true _ _ (yes_then _ 0 44 (lit< tt) a.1).0 in
      (a.0, b.0, b.1)

  pub ask : (m : Mode) (g : Log) (p : ℕ) → Stands m g → Modes.request_number plans words m p ≡ 0 → Stands (Modes.requested plans words m p) g
  unfolding Modes.requested
  ask m g p v e =
      let a = request_asks m p e in
      record {
        runs = v.runs;
        wants = λ _. (a.0, reads m.running p a.1 a.0 a.2);
        some = v.some;
        low = v.low;
        row = v.row;
        plan = v.plan;
        one_plan = v.one_plan;
        current = v.current;
        shown = v.shown;
      }
