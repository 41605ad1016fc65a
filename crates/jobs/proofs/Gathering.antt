-- A piece taken in: its job's first start, last end and work are brought up to date, and no other job's change.
use Prim.Native.Nat.{ℕ, zero, suc, ◌+◌, ◌-◌, ◌*◌, ◌^◌, ◌≤◌, ◌<◌, min, max}
use mathlib.Core.Path.{◌≡◌, refl, sym, ap, ◌∙◌, subst}
use mathlib.Core.Bool.{Bool, true, false, cond, true≢false}
use mathlib.Core.Logic.{inl, inr}
use native.Mathlib.Nat.{div-le_self}
use native.Mathlib.Decide.{ℕ_discrete}
use mathlib.Core.List.{List}
use native.Mathlib.Omega.{arith}
use lib.Dec.{eqb}
use lib.ListN.{get_or, set, length-set}
use lib.Seq.{get_or-set_other}
use borrow.Author.Tests.{eq-eqb, ne_eqb}
use Rattle.plan.specs.declared.Table.TheVariants.{Tasks, Pieces}
use Rattle.plan.specs.Image.{rows, cycle_ticks, task, piece, shape, most_tasks, most_pieces}
use Rattle.plan.specs.Search.{sum}
use Rattle.plan.specs.Questions.{piece_questions, jobs, of_job, piece_end, switch_ticks, first_start, last_end}
use Rattle.plan.specs.Held.{Sound, Passed}
use Rattle.plan.proofs.Searching.{sum_turn}
use Rattle.plan.proofs.Passing.{piece_ends}
use Rattle.plan.proofs.Jobs.{of_job_holds}
use Rattle.tallies.specs.Tallies.{tally, Kept}
use Rattle.tallies.proofs.Tallying.{kept_at, kept_on, kept_apart, kept_as, kept_none, tally_none, tally_at, tally_other, tally_next, tally_skip, tally_sum, tally_largest, tally_smallest}
use Rattle.tallies.proofs.Places.{place_below, place_one}
use Rattle.jobs.specs.Times.{place, task_place, piece_place, work_of, taken_at, Placed, Cleared, Gathered, AllGathered, Timed, firsts_at, lasts_at, works_at}
use Rattle.jobs.proofs.Held.{job_of, piece_fits_holds, all_placed}

-- ---- places

module _ (s : List ℕ) (h : Sound s) (m : ℕ) (p : Passed (piece_questions s) m) (four : 4 ≤ m) where
  -- a piece is at the place of a job exactly if it is one of the job's
  pub told : (t k : ℕ) → t < rows s Tasks → k < jobs s t → place s t k < most_pieces → (i : ℕ) → i < rows s Pieces → eqb (piece_place s i) (place s t k) ≡ of_job s t k i
  unfolding place piece_place task_place
  told t k l y d i x = go (of_job s t k i) refl
    where
      there : of_job s t k i ≡ true → min most_pieces (sum (piece s i).task (jobs s)) + (piece s i).job ≡ sum t (jobs s) + k
      there e = let w = of_job_holds s t k i e in omega (arith, ap (λ (z : ℕ). sum z (jobs s)) w.0, w.1)

      back : min most_pieces (sum (piece s i).task (jobs s)) + (piece s i).job ≡ sum t (jobs s) + k → of_job s t k i ≡ true
      back e =
          let w = place_one (jobs s) t k (piece s i).task (piece s i).job y (piece_fits_holds s h m p four i x).0 (omega arith) in
          job_of s t k i (sym w.0) (sym w.1)

      go : (b : Bool) → of_job s t k i ≡ b → eqb (min most_pieces (sum (piece s i).task (jobs s)) + (piece s i).job) (sum t (jobs s) + k) ≡ b
      go true e = eq-eqb _ _ (there e)
      go false e = ne_eqb _ _ (λ z. true≢false (sym (back z) ∙ e))

pub place_most : (s : List ℕ) → sum (rows s Tasks) (jobs s) ≤ most_pieces → (t k : ℕ) → t < rows s Tasks → k < jobs s t → place s t k < most_pieces
unfolding place
place_most s room t k l m = omega (arith, place_below (jobs s) t (rows s Tasks) k l m)

-- ---- a piece is taken in

module _ (s times : List ℕ) (h : Sound s) (m : ℕ) (p : Passed (piece_questions s) m) (six : 6 ≤ m) (i : ℕ) (l : i < rows s Pieces) (g : Gathered s times i) where
  abbrev at : ℕ
  at = piece_place s i

  pub task_exists : (piece s i).task < rows s Tasks
  task_exists = h.names Pieces i l

  -- what the code adds up
  pub at_is : get_or times (piece s i).task 0 + (piece s i).job ≡ at
  unfolding piece_place
  at_is = rw (kept_at times (rows s Tasks) (task_place s) g.placed.places (piece s i).task task_exists) refl

  pub at_fits : at ≤ 1002048
  unfolding piece_place task_place jobs
  at_fits =
      let f = piece_fits_holds s h m p (omega arith) i l in
      let d = div-le_self (cycle_ticks s) (task s (piece s i).task).period in
      omega (arith, f.0, h.cycle_most)

  pub task_word : get_or times (piece s i).task 0 ≤ most_pieces
  unfolding task_place
  task_word = let e = kept_at times (rows s Tasks) (task_place s) g.placed.places (piece s i).task task_exists in omega arith

  -- the switch is taken off, and the work fits
  pub switch_less : switch_ticks s (piece s i).task ≤ (piece s i).length
  switch_less = let f = piece_fits_holds s h m p (omega arith) i l in omega (arith, f.1)

  pub work_is : work_of s i ≡ (piece s i).length - switch_ticks s (piece s i).task
  unfolding work_of
  work_is = refl

  work_each : (j : ℕ) → j < rows s Pieces → work_of s j ≤ 1000000
  unfolding work_of piece_end
  work_each j d = let e = piece_ends s m p (omega arith) j d in omega (arith, h.cycle_most)

  work_most : (n : ℕ) → n ≤ rows s Pieces → (q : ℕ) → tally ◌+◌ 0 (piece_place s) (work_of s) n q ≤ n * 1000000
  work_most zero d q = omega (arith, tally_none ◌+◌ 0 (piece_place s) (work_of s) q)
  work_most (suc n) d q = go (ℕ_discrete q (piece_place s n)) (work_most n (omega arith) q)
    where
      go : Dec (q ≡ piece_place s n) → tally ◌+◌ 0 (piece_place s) (work_of s) n q ≤ n * 1000000
          → tally ◌+◌ 0 (piece_place s) (work_of s) (suc n) q ≤ suc n * 1000000
      go (yes e) k =
          let a : tally ◌+◌ 0 (piece_place s) (work_of s) (suc n) q ≡ tally ◌+◌ 0 (piece_place s) (work_of s) n q + work_of s n =
          subst (λ (z : ℕ). tally ◌+◌ 0 (piece_place s) (work_of s) (suc n) z ≡ tally ◌+◌ 0 (piece_place s) (work_of s) n z + work_of s n) (sym e)
          (tally_at ◌+◌ 0 (piece_place s) (work_of s) n) in
          omega (arith, work_each n (omega arith))
      go (no e) k = omega (arith, tally_other ◌+◌ 0 (piece_place s) (work_of s) n q e)

  module _ (y : at < most_pieces) where
    pub work_fits : get_or times (works_at + at) 0 + work_of s i < 2 ^ 32
    unfolding shape
    work_fits =
        let c = h.inside.counts Pieces in
        omega (arith, g.works.each at y, work_most i (omega arith) at, work_each i l)

    abbrev x : ℕ
    x = min (get_or times (firsts_at + at) 0) (piece s i).start

    abbrev z : ℕ
    z = max (get_or times (lasts_at + at) 0) (piece_end s i)

    abbrev w : ℕ
    w = get_or times (works_at + at) 0 + work_of s i

    abbrev one : List ℕ
    one = set times (firsts_at + at) x

    abbrev two : List ℕ
    two = set one (lasts_at + at) z

    abbrev three : List ℕ
    three = set two (works_at + at) w

    firsts_in : Kept three firsts_at most_pieces (tally min (cycle_ticks s) (piece_place s) (λ j. (piece s j).start) (i + 1))
    firsts_in =
        kept_apart two firsts_at most_pieces _
        (kept_apart one firsts_at most_pieces _ (tally_next min (cycle_ticks s) (piece_place s) (λ j. (piece s j).start) times firsts_at most_pieces i g.firsts x y refl)
        (lasts_at + at) z (inr (omega arith)))
        (works_at + at) w (inr (omega arith))

    lasts_in : Kept three lasts_at most_pieces (tally max 0 (piece_place s) (piece_end s) (i + 1))
    lasts_in =
        kept_apart two lasts_at most_pieces _
        (tally_next max 0 (piece_place s) (piece_end s) one lasts_at most_pieces i (kept_apart times lasts_at most_pieces _ g.lasts (firsts_at + at) x (inl (omega arith))) z y
        (ap (λ (v : ℕ). max v (piece_end s i)) (sym (get_or-set_other times (firsts_at + at) (lasts_at + at) x 0 (λ e. omega arith)))))
        (works_at + at) w (inr (omega arith))

    works_in : Kept three works_at most_pieces (tally ◌+◌ 0 (piece_place s) (work_of s) (i + 1))
    works_in =
        tally_next ◌+◌ 0 (piece_place s) (work_of s) two works_at most_pieces i
        (kept_apart one works_at most_pieces _ (kept_apart times works_at most_pieces _ g.works (firsts_at + at) x (inl (omega arith))) (lasts_at + at) z (inl (omega arith))) w y
        (ap (λ (v : ℕ). v + work_of s i)
        (sym (get_or-set_other one (lasts_at + at) (works_at + at) z 0 (λ e. omega arith) ∙ get_or-set_other times (firsts_at + at) (works_at + at) x 0 (λ e. omega arith))))

    placed_in : Placed s three (rows s Tasks)
    unfolding shape
    placed_in =
        record {
          size = simp length-set g.placed.size;
          places =
              let n = rows s Tasks in let c = h.inside.counts Tasks in
              kept_apart two 0 n _ (kept_apart one 0 n _ (kept_apart times 0 n _ g.placed.places (firsts_at + at) x (inr (omega arith))) (lasts_at + at) z (inr (omega arith)))
              (works_at + at) w (inr (omega arith));
        }

    pub taken_in : Gathered s (taken_at times at (piece s i).start (piece_end s i) (work_of s i)) (i + 1)
    unfolding taken_at
    taken_in = record { placed = placed_in; firsts = firsts_in; lasts = lasts_in; works = works_in }

  -- its job has no place
  pub passed_over : most_pieces ≤ at → Gathered s times (i + 1)
  passed_over y =
      record {
        placed = g.placed;
        firsts = tally_skip min (cycle_ticks s) (piece_place s) (λ j. (piece s j).start) times firsts_at most_pieces i g.firsts y;
        lasts = tally_skip max 0 (piece_place s) (piece_end s) times lasts_at most_pieces i g.lasts y;
        works = tally_skip ◌+◌ 0 (piece_place s) (work_of s) times works_at most_pieces i g.works y;
      }

-- ---- the tasks' places

-- the places of the first n tasks are written
pub record PlacedTo (s times : List ℕ) (n : ℕ) : Type 0 where
  pub cleared : Cleared (cycle_ticks s) times most_pieces
  pub places : Kept times 0 n (task_place s)

pub placed_none : (s times : List ℕ) → Cleared (cycle_ticks s) times most_pieces → PlacedTo s times 0
placed_none s times h = record { cleared = h; places = kept_none times 0 (task_place s) (omega arith) }

pub place_0 : (s : List ℕ) → 0 ≡ task_place s 0
unfolding task_place sum
place_0 s = refl

pub place_next : (s : List ℕ) (t : ℕ) → min most_pieces (task_place s t + jobs s t) ≡ task_place s (t + 1)
unfolding task_place
place_next s t = omega (arith, sum_turn (jobs s) t)

pub place_fits : (s : List ℕ) → Sound s → (t : ℕ) → t < rows s Tasks → task_place s t + jobs s t ≤ 1002048
unfolding task_place jobs
place_fits s h t l = let d = div-le_self (cycle_ticks s) (task s t).period in omega (arith, h.cycle_most)

module _ (s times : List ℕ) (n : ℕ) (l : n < most_tasks) (h : PlacedTo s times n) where
  abbrev v : ℕ
  v = task_place s n

  pub placed_more : PlacedTo s (set times n v) (n + 1)
  placed_more =
      record {
        cleared =
            record {
              size = simp length-set h.cleared.size;
              firsts = kept_apart times firsts_at most_pieces _ h.cleared.firsts n v (inl (omega arith));
              lasts = kept_apart times lasts_at most_pieces _ h.cleared.lasts n v (inl (omega arith));
              works = kept_apart times works_at most_pieces _ h.cleared.works n v (inl (omega arith));
            };
        places = kept_on times n (task_place s) h.places (let e = h.cleared.size in omega arith) v refl;
      }

-- all tasks have their places and no piece is in
pub gathered_none : (s times : List ℕ) → PlacedTo s times (rows s Tasks) → Gathered s times 0
gathered_none s times h =
    record {
      placed = record { size = h.cleared.size; places = h.places };
      firsts = kept_as times firsts_at most_pieces _ h.cleared.firsts _ (λ q l. tally_none min (cycle_ticks s) (piece_place s) (λ j. (piece s j).start) q);
      lasts = kept_as times lasts_at most_pieces _ h.cleared.lasts _ (λ q l. tally_none max 0 (piece_place s) (piece_end s) q);
      works = kept_as times works_at most_pieces _ h.cleared.works _ (λ q l. tally_none ◌+◌ 0 (piece_place s) (work_of s) q);
    }

-- ---- all pieces are in: reading

module _ (s times : List ℕ) (h : Sound s) (m : ℕ) (p : Passed (piece_questions s) m) (four : 4 ≤ m) (g : AllGathered s times) (t k : ℕ) (l : t < rows s Tasks)
    (y : k < jobs s t) (d : place s t k < most_pieces) where
  pub work_read : get_or times (works_at + place s t k) 0 ≡ sum (rows s Pieces) (λ i. cond (of_job s t k i) (work_of s i) 0)
  work_read = g.works.each (place s t k) d ∙ tally_sum (piece_place s) (work_of s) (place s t k) (of_job s t k) (rows s Pieces) (told s h m p four t k l y d)

  first_gathered : get_or times (firsts_at + place s t k) 0 ≡ first_start s t k
  unfolding first_start
  first_gathered =
      g.firsts.each (place s t k) d
      ∙ tally_smallest (piece_place s) (λ i. (piece s i).start) (place s t k) (of_job s t k) (cycle_ticks s) (rows s Pieces) (told s h m p four t k l y d)

  last_gathered : get_or times (lasts_at + place s t k) 0 ≡ last_end s t k
  unfolding last_end
  last_gathered = g.lasts.each (place s t k) d ∙ tally_largest (piece_place s) (piece_end s) (place s t k) (of_job s t k) (rows s Pieces) (told s h m p four t k l y d)

-- the place that the code adds up, where it is one of the words'
pub place_of_task : (s times : List ℕ) → Placed s times (rows s Tasks) → (t k : ℕ) → t < rows s Tasks
    → ((get_or times t 0 + k < most_pieces) → get_or times t 0 + k ≡ place s t k) × ((most_pieces ≤ get_or times t 0 + k) → most_pieces ≤ place s t k)
unfolding place task_place
place_of_task s times h t k l = let e = kept_at times (rows s Tasks) (task_place s) h.places t l in (λ y. omega arith, λ y. omega arith)

pub task_word_most : (s times : List ℕ) → Placed s times (rows s Tasks) → (t : ℕ) → t < rows s Tasks → get_or times t 0 ≤ most_pieces
unfolding task_place
task_word_most s times h t l = let e = kept_at times (rows s Tasks) (task_place s) h.places t l in omega arith

-- 13 is passed
pub timed : (s times : List ℕ) (h : Sound s) → Passed (piece_questions s) 7 → AllGathered s times → Timed s times
unfolding shape
timed s times h p g =
    let r = all_placed s h 7 p (omega arith) in
    record {
      placed = g.placed;
      few = h.inside.counts Tasks;
      room = r;
      firsts = λ t k l y. first_gathered s times h 7 p (omega arith) g t k l y (place_most s r t k l y);
      lasts = λ t k l y. last_gathered s times h 7 p (omega arith) g t k l y (place_most s r t k l y);
    }

module _ (s times : List ℕ) (h : Timed s times) (t k : ℕ) (l : t < rows s Tasks) (m : k < jobs s t) where
  pub place_inside : get_or times t 0 + k < most_pieces
  unfolding place task_place
  place_inside = let e = kept_at times (rows s Tasks) (task_place s) h.placed.places t l in omega (arith, place_most s h.room t k l m)

  word_place : get_or times t 0 + k ≡ place s t k
  word_place = (place_of_task s times h.placed t k l).0 place_inside

  pub first_read : get_or times (firsts_at + (get_or times t 0 + k)) 0 ≡ first_start s t k
  first_read = rw word_place (h.firsts t k l m)

  pub last_read : get_or times (lasts_at + (get_or times t 0 + k)) 0 ≡ last_end s t k
  last_read = rw word_place (h.lasts t k l m)
