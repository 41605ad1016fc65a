-- One call through C: it gives what the call gives, and the bytes that it leaves stand for what the call leaves.
use Prim.Native.Nat.{ℕ, suc, ◌+◌, ◌*◌, ◌/◌, ◌%◌, ◌≤◌, ◌<◌}
use mathlib.Core.Path.{◌≡◌, refl, sym, ap, ◌∙◌, subst}
use mathlib.Core.Bool.{Bool, true, false, cond}
use mathlib.Core.List.{List, ◌∷◌, ◌++◌, [], flat_map, append_assoc}
use native.Mathlib.Omega.{arith}
use native.Mathlib.Decide.{ℕ_discrete}
use lib.Dec.{eqb}
use lib.ListN.{length, get_or, take, drop, set}
use lib.Seq.{length-take-le, split_at, set_split}
use borrow.Author.Tests.{eqb-true, eq-eqb, ne_eqb}
use Rattle.plan.specs.declared.Answer.{Answer}
use Rattle.plan.specs.Image.{word_at}
use Rattle.plan.specs.Boundary.{words_of, bytes_of}
use Rattle.writing.specs.Stored.{stored}
use Rattle.writing.specs.AllTables.{all_tables}
use Rattle.loading.specs.Loaded.{row_bytes}
use Rattle.loading.proofs.Runs.{row_bytes_holds}
use Rattle.modes.specs.declared.HeldPlan.{HeldPlan}
use Rattle.modes.specs.Modes as Modes
use Rattle.modes.specs.Modes.{places, no_plan, held_of, lane_count, plan, held, Shift, idle, holding, gives, in_mode, leaves, due, taken}
use Rattle.modes.proofs.Holding.{HoldAsks, hold_asks}
use Rattle.modeblock.specs.Blocks.{held_words, has_row, has_room, used_of, mode_of, shift_of, runs, takes, modes_hold_answer, modes_hold_words, modes_hold_block, modes_start_number, modes_start_states, modes_start_block, modes_request_number, modes_request_block, modes_step_number, modes_step_states, modes_step_block}
use Rattle.modeblock.proofs.Blocks.{held_core}
use Rattle.shifts.specs.Through.{Lent, Lending, hold, start, request, step, records_in, call_of, InC, gives_lent, leaves_lent, block_of, StandsFor}
use Rattle.shifts.proofs.Stores.{stored_among, words_stored}
use Rattle.shifts.proofs.Widths.{tables_fit, Narrow}
use Rattle.shifts.proofs.Back.{place_words, places_long, places_more, running_back, wanted_back, used_back, plans_back, mode_back, is_block_holds}

-- ---- numbers

-- bytes of whole records, and records
whole_eqb : (a n k : ℕ) → a ≡ 28 * n → eqb a (28 * k) ≡ eqb n k
whole_eqb a n k e = go (ℕ_discrete n k)
  where
    go : Dec (n ≡ k) → eqb a (28 * k) ≡ eqb n k
    go (yes q) = eq-eqb a (28 * k) (omega arith) ∙ sym (eq-eqb n k q)
    go (no q) = ne_eqb a (28 * k) (λ z. q (omega arith)) ∙ sym (ne_eqb n k q)

-- ---- stores into a block

abbrev row : List ℕ → List ℕ
row ws = flat_map (bytes_of 4) ws

module _ (x : Shift) where
  put_two : (r w : ℕ) → stored (block_of x) 0 (r ∷ w ∷ []) ≡ row (r ∷ w ∷ x.used ∷ place_words x.plans)
  unfolding block_of
  put_two r w = stored_among [] (x.mode.running ∷ x.mode.wanted ∷ []) (r ∷ w ∷ []) (x.used ∷ place_words x.plans) 0 refl refl

  put_three : (r w u : ℕ) → stored (block_of x) 0 (r ∷ w ∷ u ∷ []) ≡ row (r ∷ w ∷ u ∷ place_words x.plans)
  unfolding block_of
  put_three r w u = stored_among [] (x.mode.running ∷ x.mode.wanted ∷ x.used ∷ []) (r ∷ w ∷ u ∷ []) (place_words x.plans) 0 refl refl

  put_wanted : (w : ℕ) → stored (block_of x) 4 (w ∷ []) ≡ row (x.mode.running ∷ w ∷ x.used ∷ place_words x.plans)
  unfolding block_of
  put_wanted w = stored_among (x.mode.running ∷ []) (x.mode.wanted ∷ []) (w ∷ []) (x.used ∷ place_words x.plans) 4 refl refl

module _ (plans : List HeldPlan) (p : ℕ) (h : HeldPlan) (l : p < length plans) where
  parts : (k : HeldPlan) → place_words (take p plans ++ k ∷ drop (suc p) plans) ≡ place_words (take p plans) ++ held_words k ++ place_words (drop (suc p) plans)
  unfolding flat_map
  parts k =
      places_more (take p plans) (k ∷ drop (suc p) plans) ∙ sym (append_assoc (place_words (take p plans)) (held_words k) (place_words (drop (suc p) plans)))

  -- a place's five words
  put_place : (r w u : ℕ) → stored (row (r ∷ w ∷ u ∷ place_words plans)) (12 + 20 * p) (held_words h) ≡ row (r ∷ w ∷ u ∷ place_words (set plans p h))
  put_place r w u =
      let front : List ℕ = r ∷ w ∷ u ∷ place_words (take p plans) in
      let old = get_or plans p no_plan in
      let k = length-take-le p plans (omega arith) in
      ap (λ (v : List ℕ). stored (row (r ∷ w ∷ u ∷ v)) (12 + 20 * p) (held_words h)) (ap place_words (split_at plans p no_plan l) ∙ parts old)
      ∙ stored_among front (held_words old) (held_words h) (place_words (drop (suc p) plans)) (12 + 20 * p) (omega (arith, places_long (take p plans))) (unfold held_words in refl)
      ∙ sym (ap (λ (v : List ℕ). row (r ∷ w ∷ u ∷ v)) (ap place_words (set_split plans p h l) ∙ parts h))

-- ---- one call

module _ (y : Lent) (x : Shift) (s : StandsFor y x) (n : Narrow x) where
  abbrev b : List ℕ
  b = block_of x

  abbrev states : List ℕ
  states = row_bytes x.mode.row

  abbrev lent : Lent
  lent = record { block = b; words = y.words; states = states }

  -- ---- what it gives

  hold_answers : (image : List ℕ) (p : ℕ) → modes_hold_answer b image p y.words ≡ Modes.hold_answer x image p
  unfolding modes_hold_answer Modes.hold_answer Modes.words_end shift_of
  hold_answers image p = rw (is_block_holds x n, used_back x n, s.words) refl

  hold_gives : (image : List ℕ) (p : ℕ) → (modes_hold_answer b image p y.words).number ≡ gives x (Modes.hold_plan image p)
  unfolding gives
  hold_gives image p = ap (λ (a : Answer). a.number) (hold_answers image p)

  -- a row's bytes and its records say the same of a plan that is held
  row_fits : (row : List ℕ) (p : ℕ) → held x.plans p ≡ true
      → eqb (length row) (28 * lane_count (plan x.plans p)) ≡ eqb (records_in row) (lane_count (plan x.plans p))
  unfolding records_in
  row_fits row p e = go (ℕ_discrete (length row % 28) 0)
    where
      k : ℕ
      k = lane_count (plan x.plans p)

      some : 1 ≤ k
      some = unfold lane_count in (let c = held_core x.plans p e in omega arith)

      go : Dec (length row % 28 ≡ 0) → eqb (length row) (28 * k) ≡ eqb (cond (eqb (length row % 28) 0) (length row / 28) 0) k
      go (yes h) = rw (eq-eqb (length row % 28) 0 h) (whole_eqb (length row) (length row / 28) k (omega arith))
      go (no h) = rw (ne_eqb (length row % 28) 0 h) (ne_eqb (length row) (28 * k) (λ z. h (omega arith)) ∙ sym (ne_eqb 0 k (λ z. absurd (omega (arith, some)))))

  start_gives : (p c : ℕ) (row : List ℕ) → modes_start_number b p c y.words row ≡ gives x (Modes.start_plan p c (records_in row))
  start_gives p c row = go (held x.plans p) refl
    where
      go : (t : Bool) → held x.plans p ≡ t → modes_start_number b p c y.words row ≡ gives x (Modes.start_plan p c (records_in row))
      go true e = unfold modes_start_number has_room has_row gives Modes.start_number in (rw (is_block_holds x n, plans_back x n, s.words, e, row_fits row p e) refl)
      go false e = unfold modes_start_number gives Modes.start_number in (rw (is_block_holds x n, plans_back x n, e) refl)

  request_gives : (p : ℕ) → modes_request_number b p ≡ gives x (Modes.request_plan p)
  unfolding modes_request_number gives Modes.request_number mode_of
  request_gives p = rw (is_block_holds x n, plans_back x n, running_back x n) refl

  step_gives : modes_step_number b y.words states ≡ gives x Modes.step_lanes
  unfolding modes_step_number runs has_row gives Modes.step_number
  step_gives =
      let k = lane_count (plan x.plans x.mode.running) in
      let r : eqb (length states) (28 * k) ≡ eqb (length x.mode.row) k = whole_eqb (length states) (length x.mode.row) k (row_bytes_holds x.mode.row) in
      rw (is_block_holds x n, plans_back x n, mode_back x n, running_back x n, s.words, r) refl

  -- ---- a hold

  module _ (image : List ℕ) (p : ℕ) (a : HoldAsks x image p) where
    end_back : Modes.words_end (shift_of b y.words []) image p ≡ Modes.words_end x image p
    unfolding Modes.words_end shift_of
    end_back = rw (used_back x n) refl

    hold_block : stored (stored b 0 (places ∷ places ∷ Modes.words_end (shift_of b y.words []) image p ∷ [])) (12 + 20 * p) (held_words (held_of image (used_of b)))
        ≡ block_of (holding x image p)
    unfolding block_of holding idle
    hold_block =
        let h = held_of image x.used in
        ap (λ (u : ℕ). stored (stored b 0 (places ∷ places ∷ u ∷ [])) (12 + 20 * p) (held_words (held_of image (used_of b)))) end_back
        ∙ ap (λ (u : ℕ). stored (stored b 0 (places ∷ places ∷ Modes.words_end x image p ∷ [])) (12 + 20 * p) (held_words (held_of image u))) (used_back x n)
        ∙ ap (λ (l : List ℕ). stored l (12 + 20 * p) (held_words h)) (put_three x places places (Modes.words_end x image p))
        ∙ put_place x.plans p h (omega (arith, a.place, n.eight)) places places (Modes.words_end x image p)

    hold_words : words_of (stored y.words (4 * used_of b) (all_tables image)) ≡ (holding x image p).words
    unfolding holding
    hold_words =
        let t = all_tables image in
        let l : x.used + length t ≤ length (words_of y.words) = rw s.words (unfold Modes.words_end in a.fits) in
        ap (λ (u : ℕ). words_of (stored y.words (4 * u) t)) (used_back x n)
        ∙ words_stored y.words x.used t (tables_fit image a.accepts) l
        ∙ ap (λ (w : List ℕ). take x.used w ++ t ++ drop (x.used + length t) w) s.words
        ∙ (unfold Modes.words_end in refl)

  hold_leaves : (image : List ℕ) (p : ℕ) (t : Bool) → eqb (gives x (Modes.hold_plan image p)) 0 ≡ t
      → StandsFor (leaves_lent lent (hold image p)) (cond t (Modes.moved x (Modes.hold_plan image p)) x)
  unfolding leaves_lent modes_hold_block modes_hold_words Modes.moved
  hold_leaves image p true e =
      let a = hold_asks x image p (eqb-true _ 0 e) in
      record {
        block = rw (hold_gives image p, e) (hold_block image p a);
        words = rw (hold_gives image p, e) (hold_words image p a);
        states = unfold holding idle in refl;
      }
  hold_leaves image p false e = record { block = rw (hold_gives image p, e) refl; words = rw (hold_gives image p, e) s.words; states = refl }

  -- ---- a start

  module _ (p c : ℕ) (row : List ℕ) where
    start_zero : (t : Bool) → eqb (gives x (Modes.start_plan p c (records_in row))) 0 ≡ t → eqb (modes_start_number b p c y.words row) 0 ≡ t
    start_zero t e = ap (λ (k : ℕ). eqb k 0) (start_gives p c row) ∙ e

    start_row : eqb (modes_start_number b p c y.words row) 0 ≡ true → modes_start_states b p c y.words row ≡ row_bytes (Modes.started x.plans x.words p c).row
    unfolding modes_start_states
    start_row z = rw (z, plans_back x n, s.words) refl

    start_leaves : (t : Bool) → eqb (gives x (Modes.start_plan p c (records_in row))) 0 ≡ t
        → StandsFor (leaves_lent lent (start p c row)) (cond t (Modes.moved x (Modes.start_plan p c (records_in row))) x)
    unfolding leaves_lent gives_lent modes_start_block Modes.moved in_mode
    start_leaves true e =
        let z = start_zero true e in
        record {
          block = rw z (unfold block_of Modes.started in (put_two x p places));
          words = s.words;
          states = ap (λ (t : Bool). cond t (modes_start_states b p c y.words row) states) z ∙ start_row z;
        }
    start_leaves false e =
        let z = start_zero false e in
        record { block = rw z refl; words = s.words; states = ap (λ (t : Bool). cond t (modes_start_states b p c y.words row) states) z }

  -- ---- a request

  request_leaves : (p : ℕ) (t : Bool) → eqb (gives x (Modes.request_plan p)) 0 ≡ t
      → StandsFor (leaves_lent lent (request p)) (cond t (Modes.moved x (Modes.request_plan p)) x)
  unfolding leaves_lent modes_request_block Modes.moved in_mode
  request_leaves p true e =
      record { block = rw (request_gives p, e) (unfold block_of Modes.requested in (put_wanted x p)); words = s.words; states = unfold Modes.requested in refl }
  request_leaves p false e = record { block = rw (request_gives p, e) refl; words = s.words; states = refl }

  -- ---- a step

  takes_is : takes b y.words states ≡ due x.plans x.words x.mode
  unfolding takes
  takes_is = rw (plans_back x n, mode_back x n, s.words) refl

  step_block : (d : Bool) → due x.plans x.words x.mode ≡ d
      → cond d (stored b 0 (word_at b 4 ∷ places ∷ [])) b ≡ block_of (in_mode x (Modes.stepped x.plans x.words x.mode))
  unfolding block_of in_mode Modes.stepped taken
  step_block true e = ap (λ (w : ℕ). stored b 0 (w ∷ places ∷ [])) (wanted_back x n) ∙ put_two x x.mode.wanted places ∙ (rw e refl)
  step_block false e = rw e refl

  step_leaves : (t : Bool) → eqb (gives x Modes.step_lanes) 0 ≡ t → StandsFor (leaves_lent lent step) (cond t (Modes.moved x Modes.step_lanes) x)
  unfolding leaves_lent modes_step_block modes_step_states Modes.moved
  step_leaves true e =
      record {
        block = rw (step_gives, e, takes_is) (step_block (due x.plans x.words x.mode) refl);
        words = unfold in_mode in s.words;
        states = rw (step_gives, e, plans_back x n, mode_back x n, s.words) (unfold in_mode in refl);
      }
  step_leaves false e = record { block = rw (step_gives, e) refl; words = s.words; states = rw (step_gives, e) refl }

  -- ---- any call

  is_lent : y ≡ lent
  is_lent = λ i. record { block = s.block i; words = y.words; states = s.states i }

  lent_gives : (call : Lending) → InC call → gives_lent lent call ≡ gives x (call_of call)
  unfolding gives_lent call_of
  lent_gives (hold image p) h = hold_gives image p
  lent_gives (start p c row) h = start_gives p c row
  lent_gives (request p) h = request_gives p
  lent_gives step h = step_gives

  lent_leaves : (call : Lending) → InC call → StandsFor (leaves_lent lent call) (leaves x (call_of call))
  unfolding leaves call_of
  lent_leaves (hold image p) h = hold_leaves image p _ refl
  lent_leaves (start p c row) h = start_leaves p c row _ refl
  lent_leaves (request p) h = request_leaves p _ refl
  lent_leaves step h = step_leaves _ refl

  pub call_gives : (call : Lending) → InC call → gives_lent y call ≡ gives x (call_of call)
  call_gives call h = ap (λ (z : Lent). gives_lent z call) is_lent ∙ lent_gives call h

  pub call_leaves : (call : Lending) → InC call → StandsFor (leaves_lent y call) (leaves x (call_of call))
  call_leaves call h = subst (λ (z : Lent). StandsFor (leaves_lent z call) (leaves x (call_of call))) (sym is_lent) (lent_leaves call h)

  pub hold_answer_holds : (image : List ℕ) (p : ℕ) → modes_hold_answer y.block image p y.words ≡ Modes.hold_answer x image p
  hold_answer_holds image p = ap (λ (z : Lent). modes_hold_answer z.block image p z.words) is_lent ∙ hold_answers image p
