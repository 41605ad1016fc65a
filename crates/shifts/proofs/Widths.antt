-- What calls leave is of the widths that it has in C.
use Prim.Native.Nat.{ℕ, zero, suc, ◌+◌, ◌^◌, ◌<◌}
use mathlib.Core.Path.{◌≡◌, refl, ◌∙◌}
use mathlib.Core.Bool.{Bool, true, false, cond}
use mathlib.Core.List.{List, ◌∷◌, ◌++◌, []}
use native.Mathlib.Nat.{mod-lt}
use native.Mathlib.Omega.{arith}
use native.Mathlib.Decide.{ℕ_discrete}
use lib.Dec.{eqb}
use lib.ListN.{length, take, set, length-set, length-replicate}
use borrow.Author.Tests.{eqb-true}
use Rattle.plan.specs.declared.LaneState.{LaneState}
use Rattle.plan.specs.declared.Table.TheVariants.{Cores, Links}
use Rattle.plan.specs.Image.{shape}
use Rattle.plan.specs.Questions.{answer_of, accepted}
use Rattle.plan.specs.Dispatch.{lanes}
use Rattle.plan.proofs.Sounds.{accepted_sound}
use Rattle.words.proofs.Words.{Fit}
use Rattle.writing.specs.AllTables.{all_tables}
use Rattle.writing.proofs.Fitting.{below_fits}
use Rattle.loading.proofs.States.{AllInWidth}
use Rattle.loading.proofs.Runs.{AreWords, are_append, are_rest, all_kept}
use Rattle.loading.proofs.Loads.{starts_width}
use Rattle.modes.specs.declared.HeldPlan.{HeldPlan}
use Rattle.modes.specs.Modes as Modes
use Rattle.modes.specs.Modes.{places, held_of, no_plan, lane_count, plan, table_after, table_from, table_at, Mode, idle, Shift, fresh, holding, at_table, placed, due, taken, gives, in_mode, leaves}
use Rattle.modes.proofs.Holding.{same_everywhere, HoldAsks, hold_asks, plan_here, plan_other}
use Rattle.modeblock.specs.Blocks.{held_words}
use Rattle.shifts.specs.Through.{Lending, hold, start, request, step, call_of, InC}

-- ---- words

are_front : (n : ℕ) (ws : List ℕ) → AreWords ws → AreWords (take n ws)
are_front zero ws h i = omega arith
are_front (suc n) [] h i = omega arith
are_front (suc n) (w ∷ ws) h zero = h 0
are_front (suc n) (w ∷ ws) h (suc i) = are_front n ws (λ j. h (suc j)) i

are_fit : (ws : List ℕ) → Fit ws → AreWords ws
are_fit [] f i = omega arith
are_fit (w ∷ ws) f zero = f.0
are_fit (w ∷ ws) f (suc i) = are_fit ws f.1 i

-- ---- a shift

pub record NarrowMode (m : Mode) : Type 0 where
  pub running : m.running < 2 ^ 32
  pub wanted : m.wanted < 2 ^ 32
  pub row : AllInWidth m.row

pub record Narrow (x : Shift) : Type 0 where
  pub eight : length x.plans ≡ places
  pub plans : (p : ℕ) → Fit (held_words (plan x.plans p))
  pub used : x.used < 2 ^ 32
  pub words : AreWords x.words
  pub mode : NarrowMode x.mode

none_fits : Fit (held_words no_plan)
unfolding held_words no_plan
none_fits = (omega arith, (omega arith, (omega arith, (omega arith, (omega arith, tt)))))

pub fresh_narrow : (words : List ℕ) → AreWords words → Narrow (fresh words [])
unfolding fresh idle plan
fresh_narrow words h =
    record {
      eight = length-replicate places no_plan;
      plans = λ p. rw (same_everywhere places p no_plan) none_fits;
      used = omega arith;
      words = h;
      mode = record { running = omega arith; wanted = omega arith; row = tt };
    }

-- ---- a hold

held_fits : (image : List ℕ) (word : ℕ) → answer_of image ≡ accepted → word + length (all_tables image) < 2 ^ 32 → Fit (held_words (held_of image word))
unfolding held_words held_of shape
held_fits image word e h =
    let s = accepted_sound image e in
    (omega (arith, s.cycle_most), (omega (arith, s.inside.counts Cores), (omega (arith, s.inside.counts Links), (omega arith, (omega arith, tt)))))

pub tables_fit : (image : List ℕ) → answer_of image ≡ accepted → Fit (all_tables image)
unfolding all_tables
tables_fit image e = below_fits image e (lanes image)

hold_narrow : (x : Shift) → Narrow x → (image : List ℕ) (p : ℕ) → HoldAsks x image p → Narrow (holding x image p)
unfolding holding idle Modes.words_end
hold_narrow x n image p a =
    record {
      eight = length-set x.plans p h ∙ n.eight;
      plans = λ q. each q (ℕ_discrete q p);
      used = a.low;
      words = are_append (2 ^ 32) (take x.used x.words ++ all_tables image) _
          (are_append (2 ^ 32) (take x.used x.words) (all_tables image) (are_front x.used x.words n.words) (are_fit (all_tables image) (tables_fit image a.accepts)))
          (are_rest (2 ^ 32) (x.used + length (all_tables image)) x.words n.words);
      mode = record { running = omega arith; wanted = omega arith; row = n.mode.row };
    }
  where
    h : HeldPlan
    h = held_of image x.used

    each : (q : ℕ) → Dec (q ≡ p) → Fit (held_words (plan (set x.plans p h) q))
    each q (yes e) = rw (e, plan_here x.plans p h n.eight a.place) (held_fits image x.used a.accepts a.low)
    each q (no d) = rw (plan_other x.plans p h n.eight a.place q d) (n.plans q)

-- ---- starts, requests and steps

module _ (x : Shift) (n : Narrow x) where
  table_narrow : (p l : ℕ) → table_at x.plans x.words p l < 2 ^ 32
  unfolding table_at table_from table_after held_words
  table_narrow p zero = (n.plans p).1.1.1.0
  table_narrow p (suc l) = mod-lt _ (omega arith)

  placed_narrow : (word : ℕ) → word < 2 ^ 32 → (sts : List LaneState) → AllInWidth sts → AllInWidth (placed x.words word sts)
  unfolding placed at_table table_after
  placed_narrow word h [] w = tt
  placed_narrow word h (st ∷ sts) w =
      let v = w.0 in
      (record { cycle = v.cycle; tick = v.tick; entry = v.entry; first = h; kind = v.kind; row = v.row }, placed_narrow (table_after x.words word) (mod-lt _ (omega arith)) sts w.1)

  taken_narrow : NarrowMode (taken x.plans x.words x.mode)
  unfolding taken
  taken_narrow = go (due x.plans x.words x.mode)
    where
      go : (b : Bool) → NarrowMode (cond b (record { running = x.mode.wanted; wanted = places; row = placed x.words (plan x.plans x.mode.wanted).first x.mode.row }) x.mode)
      go true = record { running = n.mode.wanted; wanted = omega arith; row = placed_narrow (plan x.plans x.mode.wanted).first (unfold table_at table_from in (table_narrow x.mode.wanted 0)) x.mode.row n.mode.row }
      go false = n.mode

  in_mode_holds : (m : Mode) → NarrowMode m → Narrow (in_mode x m)
  unfolding in_mode
  in_mode_holds m w = record { eight = n.eight; plans = n.plans; used = n.used; words = n.words; mode = w }

  moved_narrow : (call : Lending) → InC call → gives x (call_of call) ≡ 0 → Narrow (Modes.moved x (call_of call))
  unfolding call_of Modes.moved
  moved_narrow (hold image p) h e = hold_narrow x n image p (hold_asks x image p e)
  moved_narrow (start p c row) h e =
      in_mode_holds _
      (unfold Modes.started in (record {
        running = h.0;
        wanted = omega arith;
        row = starts_width (table_at x.plans x.words p) c h.1 (lane_count (plan x.plans p)) (λ l k. table_narrow p l);
      }))
  moved_narrow (request p) h e = in_mode_holds _ (unfold Modes.requested in (record { running = n.mode.running; wanted = h; row = n.mode.row }))
  moved_narrow step h e =
      let v = taken_narrow in
      in_mode_holds _ (unfold Modes.stepped in (record { running = v.running; wanted = v.wanted; row = all_kept x.words n.words _ v.row }))

  pub leaves_narrow : (call : Lending) → InC call → Narrow (leaves x (call_of call))
  unfolding leaves
  leaves_narrow call h = go (eqb (gives x (call_of call)) 0) refl
    where
      go : (b : Bool) → eqb (gives x (call_of call)) 0 ≡ b → Narrow (cond b (Modes.moved x (call_of call)) x)
      go true e = moved_narrow call h (eqb-true (gives x (call_of call)) 0 e)
      go false e = n
