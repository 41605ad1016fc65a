-- A block of modes in bytes: what it has at each place, and words that are stored in it.
use Prim.Native.Nat.{ℕ, zero, suc, ◌+◌, ◌-◌, ◌*◌, ◌/◌, ◌^◌, ◌<◌, ◌≤◌}
use mathlib.Core.Path.{◌≡◌, refl, sym, ap, ◌∙◌}
use mathlib.Core.Logic.{◌⊎◌, inl, inr}
use mathlib.Core.Bool.{Bool, true, false, ◌&&◌}
use mathlib.Core.List.{List, ◌∷◌, ◌++◌, [], append-nil, append_assoc, flat_map}
use native.Mathlib.Nat.{not-suc-le-zero, le_of_suc-le-suc, eq-or-lt_of_le}
use native.Mathlib.Omega.{arith}
use lib.Dec.{ltb, leb}
use lib.ListN.{length, get_or, take, drop, length-drop, replicate, length-append, get_or-append, drop_of_length-le}
use lib.Seq.{get_or-append_seam, sets, sets-eq, take_all, drop-drop}
use borrow.Rule.Slice.PartMut.{put_mid}
use borrow.Author.Tests.{ltb-true, lt-ltb, le-ltb, le-leb, lt-leb}
use Rattle.plan.specs.Image.{word_at}
use Rattle.plan.specs.Questions.{answer_of, accepted}
use Rattle.plan.specs.Dispatch.{lanes}
use Rattle.plan.specs.Boundary.{bytes_of, words_of}
use Rattle.plan.proofs.Searching.{and_true}
use Rattle.words.proofs.Bytes.{row_length}
use Rattle.words.proofs.Words.{words_length}
use Rattle.writing.specs.Stored.{stored}
use Rattle.writing.specs.AllTables.{all_tables}
use Rattle.writing.proofs.AllTables.{below_small, lanes_small}
use Rattle.writing.proofs.Storing.{stored_after, stored_one, stored_front}
use Rattle.writing.proofs.Tables.{entry_stored}
use Rattle.modes.specs.declared.HeldPlan.{HeldPlan}
use Rattle.modes.specs.Modes.{places, no_plan, is_plan, plan, held, suffice}
use Rattle.modeblock.specs.Blocks.{held_words, held_at, plans_below, plans_of}

-- ---- places

pub below_long : (b : List ℕ) (n : ℕ) → length (plans_below b n) ≡ n
unfolding plans_below
below_long b zero = refl
below_long b (suc n) = length-append (plans_below b n) (held_at b n ∷ []) ∙ omega (arith, below_long b n)

pub below_at : (b : List ℕ) (n p : ℕ) → p < n → get_or (plans_below b n) p no_plan ≡ held_at b p
unfolding plans_below
below_at b zero p l = absurd (not-suc-le-zero l)
below_at b (suc n) p l = go (eq-or-lt_of_le (le_of_suc-le-suc l)) (below_at b n p)
  where
    go : (p ≡ n) ⊎ (p < n) → (p < n → get_or (plans_below b n) p no_plan ≡ held_at b p) → get_or (plans_below b n ++ held_at b n ∷ []) p no_plan ≡ held_at b p
    go (inl e) k =
        let q : p ≡ length (plans_below b n) = omega (arith, below_long b n) in
        ap (λ (x : ℕ). get_or (plans_below b n ++ held_at b n ∷ []) x no_plan) q ∙ get_or-append_seam (plans_below b n) (held_at b n) [] no_plan ∙ ap (held_at b) (sym e)
    go (inr h) k = get_or-append (plans_below b n) (held_at b n ∷ []) no_plan p (omega (arith, below_long b n)) ∙ k h

-- what place p holds
pub plan_is : (b : List ℕ) (p : ℕ) → p < places → plan (plans_of b) p ≡ held_at b p
unfolding plan plans_of
plan_is b p l = below_at b places p l

pub at_place : (b : List ℕ) (p : ℕ) → p < places
    → record {
      ticks = word_at b (12 + 20 * p);
      cores = word_at b (12 + 20 * p + 4);
      links = word_at b (12 + 20 * p + 8);
      first = word_at b (12 + 20 * p + 12);
      end = word_at b (12 + 20 * p + 16);
    } ≡ plan (plans_of b) p
at_place b p l = same ∙ sym (plan_is b p l)
  where
    place : (k : ℕ) → 12 + 20 * p + k ≡ 12 + k + 20 * p
    place k = omega arith

    same : ◌≡◌ {A = HeldPlan} (record {
      ticks = word_at b (12 + 20 * p);
      cores = word_at b (12 + 20 * p + 4);
      links = word_at b (12 + 20 * p + 8);
      first = word_at b (12 + 20 * p + 12);
      end = word_at b (12 + 20 * p + 16);
    }) (held_at b p)
    same = unfold held_at in (rw (place 4, place 8, place 12, place 16) refl)

module _ (plans : List HeldPlan) (p : ℕ) where
  pub held_in : p < places → is_plan (plan plans p) ≡ held plans p
  unfolding held
  held_in l = rw (lt-ltb p places l) refl

  pub held_out : places ≤ p → false ≡ held plans p
  unfolding held
  held_out l = rw (le-ltb p places l) refl

  pub held_place : held plans p ≡ true → p < places
  unfolding held
  held_place e = ltb-true p places (and_true (ltb p places) (is_plan (plan plans p)) e).0

  -- a plan that is held has a core
  pub held_core : held plans p ≡ true → 0 < (plan plans p).cores
  unfolding held is_plan
  held_core e = ltb-true 0 (plan plans p).cores (and_true (ltb p places) (is_plan (plan plans p)) e).1

-- ---- stores

pub plan_stored : (b : List ℕ) (i : ℕ) (h : HeldPlan)
    → sets (sets (sets (sets (sets b i (bytes_of 4 h.ticks)) (i + 4) (bytes_of 4 h.cores)) (i + 8) (bytes_of 4 h.links)) (i + 12) (bytes_of 4 h.first))
    (i + 16) (bytes_of 4 h.end)
    ≡ stored b i (held_words h)
unfolding held_words
plan_stored b i h =
    let x : List ℕ = h.ticks ∷ h.cores ∷ h.links ∷ [] in
    ap (λ (l : List ℕ). sets (sets l (i + 12) (bytes_of 4 h.first)) (i + 16) (bytes_of 4 h.end)) (entry_stored b i h.ticks h.cores h.links)
    ∙ ap (λ (l : List ℕ). sets l (i + 16) (bytes_of 4 h.end)) (stored_one (stored b i x) (i + 12) h.first ∙ stored_after b i (i + 12) x (h.first ∷ []) refl)
    ∙ stored_one (stored b i (x ++ h.first ∷ [])) (i + 16) h.end
    ∙ stored_after b i (i + 16) (x ++ h.first ∷ []) (h.end ∷ []) refl

pub hold_stored : (b : List ℕ) (e i : ℕ) (h : HeldPlan)
    → stored (sets (stored b 0 (places ∷ places ∷ [])) 8 (bytes_of 4 e)) i (held_words h) ≡ stored (stored b 0 (places ∷ places ∷ e ∷ [])) i (held_words h)
hold_stored b e i h =
    ap (λ (l : List ℕ). stored l i (held_words h))
    (stored_one (stored b 0 (places ∷ places ∷ [])) 8 e ∙ stored_after b 0 8 (places ∷ places ∷ []) (e ∷ []) refl)

-- a block of zeros, with its first two words written
pub fresh_filled : stored (replicate 172 0) 0 (places ∷ places ∷ []) ≡ flat_map (bytes_of 4) (places ∷ places ∷ replicate 41 0)
unfolding flat_map bytes_of
fresh_filled = stored_front (replicate 172 0) (places ∷ places ∷ []) (omega arith)

-- what lies before the words stored, and behind them
pub stored_parts : (b : List ℕ) (i : ℕ) (ws : List ℕ) → i + 4 * length ws ≤ length b
    → stored b i ws ≡ take i b ++ flat_map (bytes_of 4) ws ++ drop (i + 4 * length ws) b
unfolding stored
stored_parts b i ws h =
    let n = row_length ws in
    sets-eq (flat_map (bytes_of 4) ws) b i (omega arith) ∙ ap (λ (k : ℕ). take i b ++ flat_map (bytes_of 4) ws ++ drop (i + k) b) n

-- words stored into the part of the bytes from byte i on
pub stored_part : (b : List ℕ) (i k : ℕ) (ws : List ℕ) → k ≡ length b - i → i + 4 * length ws ≤ length b
    → put_mid i k b (stored (take k (drop i b)) 0 ws) ≡ stored b i ws
stored_part b i k ws e h =
    let f : List ℕ = flat_map (bytes_of 4) ws in
    let r : List ℕ = drop (i + 4 * length ws) b in
    let l = length-drop i b in
    let t : take k (drop i b) ≡ drop i b = take_all k (drop i b) (omega arith) in
    let z : drop k (drop i b) ≡ [] = drop_of_length-le (drop i b) {i = k} (omega arith) in
    let q : stored (take k (drop i b)) 0 ws ≡ f ++ r = ap (λ (x : List ℕ). stored x 0 ws) t ∙ stored_front (drop i b) ws (omega arith) ∙ ap (λ (x : List ℕ). f ++ x) (drop-drop (4 * length ws) i b) in
    ap (λ (x : List ℕ). take i b ++ (x ++ drop k (drop i b))) q
    ∙ ap (λ (x : List ℕ). take i b ++ (f ++ r ++ x)) z
    ∙ ap (λ (x : List ℕ). take i b ++ x) (append-nil (f ++ r))
    ∙ sym (append_assoc (take i b) f r)
    ∙ sym (stored_parts b i ws h)

-- ---- room for a plan's tables

pub all_small : (image : List ℕ) → answer_of image ≡ accepted → length (all_tables image) ≤ 288000192
unfolding all_tables
all_small image e = omega (arith, below_small image e (lanes image), lanes_small image e)

-- those that are left behind the words taken so far suffice
abbrev pub suffices : List ℕ → ℕ → List ℕ → Bool
suffices image used words = suffice (words_of words) (used + length (all_tables image))

module _ (image : List ℕ) (used : ℕ) (words : List ℕ) where
  abbrev end : ℕ
  end = used + length (all_tables image)

  pub too_few : length words / 4 < end → suffices image used words ≡ false
  unfolding suffice
  too_few h = rw (lt-leb end (length (words_of words)) (omega (arith, words_length words))) refl

  pub too_far : 2 ^ 32 ≤ end → suffices image used words ≡ false
  unfolding suffice
  too_far h = rw (le-ltb end (2 ^ 32) h) (no_and (leb end (length (words_of words))))
    where
      no_and : (b : Bool) → b && false ≡ false
      no_and true = refl
      no_and false = refl

  pub room : end ≤ length words / 4 → end < 2 ^ 32 → suffices image used words ≡ true
  unfolding suffice
  room h k = rw (le-leb end (length (words_of words)) (omega (arith, words_length words)), lt-ltb end (2 ^ 32) k) refl
