-- A shift's bytes, read back: they are the shift.
use Prim.Native.Nat.{ℕ, zero, suc, ◌+◌, ◌*◌, ◌<◌}
use mathlib.Core.Path.{◌≡◌, refl, sym, ap, ◌∙◌}
use mathlib.Core.Bool.{true}
use mathlib.Core.List.{List, ◌∷◌, ◌++◌, [], map, flat_map, append_assoc}
use native.Mathlib.Nat.{not-suc-le-zero, le_of_suc-le-suc}
use native.Mathlib.Omega.{arith}
use lib.ListN.{length, get_or, length-append, get_or-append}
use lib.Seq.{get_or-append-add, ext_get_or}
use Rattle.plan.specs.declared.LaneState.{LaneState}
use Rattle.plan.specs.Image.{word_at}
use Rattle.plan.specs.Boundary.{state_of, state_bytes}
use Rattle.words.proofs.Bytes.{row_length}
use Rattle.words.proofs.Words.{Fit, fit_append}
use Rattle.loading.specs.Loaded.{row_bytes}
use Rattle.loading.proofs.States.{AllInWidth, round_trip, records_of_row}
use Rattle.modes.specs.declared.HeldPlan.{HeldPlan}
use Rattle.modes.specs.Modes.{places, no_plan, plan, Shift}
use Rattle.turns.specs.Turns.{states_of}
use Rattle.modeblock.specs.Blocks.{is_block, held_words, held_at, plans_below, plans_of, used_of, mode_of}
use Rattle.modeblock.proofs.Blocks.{below_long, below_at}
use Rattle.modeblock.proofs.Answers.{block_yes}
use Rattle.shifts.specs.Through.{block_of}
use Rattle.shifts.proofs.Stores.{row_word}
use Rattle.shifts.proofs.Widths.{Narrow}

-- ---- a row of states

row_back : (sts : List LaneState) → AllInWidth sts → map state_of (map state_bytes sts) ≡ sts
row_back [] w = refl
row_back (st ∷ sts) w = rw (round_trip st w.0, row_back sts w.1) refl

states_back : (sts : List LaneState) → AllInWidth sts → states_of (row_bytes sts) ≡ sts
unfolding states_of
states_back sts w = ap (map state_of) (records_of_row sts) ∙ row_back sts w

-- ---- the words of places

abbrev pub place_words : List HeldPlan → List ℕ
place_words plans = flat_map held_words plans

held_long : (h : HeldPlan) → length (held_words h) ≡ 5
unfolding held_words
held_long h = refl

pub places_long : (plans : List HeldPlan) → length (place_words plans) ≡ 5 * length plans
unfolding flat_map
places_long [] = refl
places_long (h ∷ hs) = rw (length-append (held_words h) (place_words hs)) (omega (arith, held_long h, places_long hs))

pub places_more : (hs ks : List HeldPlan) → place_words (hs ++ ks) ≡ place_words hs ++ place_words ks
unfolding flat_map
places_more [] ks = refl
places_more (h ∷ hs) ks = ap (λ (l : List ℕ). held_words h ++ l) (places_more hs ks) ∙ sym (append_assoc (held_words h) (place_words hs) (place_words ks))

-- word k of place p
place_word : (plans : List HeldPlan) (p k : ℕ) → p < length plans → k < 5 → get_or (place_words plans) (5 * p + k) 0 ≡ get_or (held_words (get_or plans p no_plan)) k 0
unfolding flat_map
place_word [] p k l m = absurd (not-suc-le-zero l)
place_word (h ∷ hs) zero k l m =
    let e : 5 * 0 + k ≡ k = omega arith in
    rw e (get_or-append (held_words h) (place_words hs) 0 k (omega (arith, held_long h)))
place_word (h ∷ hs) (suc p) k l m =
    let e : 5 * suc p + k ≡ length (held_words h) + (5 * p + k) = omega (arith, held_long h) in
    rw e (get_or-append-add (held_words h) (place_words hs) (5 * p + k) 0 ∙ place_word hs p k (le_of_suc-le-suc l) m)

places_fit : (plans : List HeldPlan) → ((p : ℕ) → Fit (held_words (get_or plans p no_plan))) → Fit (place_words plans)
unfolding flat_map
places_fit [] h = tt
places_fit (x ∷ xs) h = fit_append (held_words x) (place_words xs) (h 0) (places_fit xs (λ p. h (suc p)))

-- ---- a block

module _ (x : Shift) (n : Narrow x) where
  abbrev words : List ℕ
  words = x.mode.running ∷ x.mode.wanted ∷ x.used ∷ place_words x.plans

  abbrev b : List ℕ
  b = block_of x

  fits : Fit words
  unfolding plan
  fits = (n.mode.running, (n.mode.wanted, (n.used, places_fit x.plans n.plans)))

  pub block_long : length b ≡ 172
  unfolding block_of
  block_long = row_length words ∙ omega (arith, places_long x.plans, n.eight)

  block_word : (i : ℕ) → i < 43 → word_at b (4 * i) ≡ get_or words i 0
  unfolding block_of
  block_word i l = row_word words fits i (omega (arith, places_long x.plans, n.eight))

  pub running_back : word_at b 0 ≡ x.mode.running
  running_back = block_word 0 (omega arith)

  pub wanted_back : word_at b 4 ≡ x.mode.wanted
  wanted_back = block_word 1 (omega arith)

  pub used_back : used_of b ≡ x.used
  unfolding used_of
  used_back = block_word 2 (omega arith)

  held_back : (p : ℕ) → p < places → held_at b p ≡ get_or x.plans p no_plan
  unfolding held_at held_words
  held_back p l =
      λ i. record {
        ticks = word 0 (12 + 20 * p) (omega arith) (omega arith) i;
        cores = word 1 (16 + 20 * p) (omega arith) (omega arith) i;
        links = word 2 (20 + 20 * p) (omega arith) (omega arith) i;
        first = word 3 (24 + 20 * p) (omega arith) (omega arith) i;
        end = word 4 (28 + 20 * p) (omega arith) (omega arith) i;
      }
    where
      word : (k at : ℕ) → at ≡ 4 * suc (suc (suc (5 * p + k))) → k < 5 → word_at b at ≡ get_or (held_words (get_or x.plans p no_plan)) k 0
      word k at e h = ap (word_at b) e ∙ block_word (suc (suc (suc (5 * p + k)))) (omega arith) ∙ place_word x.plans p k (omega (arith, n.eight)) h

  pub plans_back : plans_of b ≡ x.plans
  unfolding plans_of
  plans_back =
      let m = below_long b places in
      ext_get_or no_plan (plans_below b places) x.plans (m ∙ sym n.eight) (λ i l. below_at b places i (omega arith) ∙ held_back i (omega arith))

  pub mode_back : mode_of b (row_bytes x.mode.row) ≡ x.mode
  unfolding mode_of
  mode_back = let r = states_back x.mode.row n.mode.row in λ i. record { running = running_back i; wanted = wanted_back i; row = r i }

  pub is_block_holds : is_block b ≡ true
  is_block_holds = block_yes b block_long
