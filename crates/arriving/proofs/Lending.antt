-- Arrivals in lent bytes: refused as the value is, by 26, or done.
use Prim.Native.Nat.{ℕ, zero, suc, ◌+◌, ◌-◌, ◌/◌, ◌≤◌, ◌<◌}
use mathlib.Core.Path.{◌≡◌, refl, sym, ap, ◌∙◌}
use mathlib.Core.Logic.{◌≢◌}
use mathlib.Core.Bool.{Bool, true, false, cond}
use mathlib.Core.List.{List, ◌∷◌, ◌++◌, [], flat_map}
use native.Mathlib.Omega.{arith}
use lib.ListN.{length, get_or, drop, length-append, length-drop}
use lib.Dec.{eqb}
use lib.Seq.{sets, get_or-append-add, get_or-drop}
use borrow.Author.Tests.{ne_eqb, leb-true, le-leb, lt-leb}
use Rattle.plan.specs.declared.Answer.{Answer}
use Rattle.plan.specs.Image.{shape}
use Rattle.plan.specs.Questions.{accepted}
use Rattle.plan.specs.Boundary.{answer_number, bytes_of, words_of}
use Rattle.packing.proofs.Answers.{Small, answer_small, answer_zero}
use Rattle.words.proofs.Bytes.{row_length}
use Rattle.words.proofs.Words.{words_length, words_row, words_drop}
use Rattle.writing.proofs.Storing.{stored_front}
use Rattle.writing.proofs.Tables.{two_stored}
use Rattle.arrivals.specs.Arrivals.{then_ask, earliest, latest, arrival_answer, arrivals_of, lent_answer, arrival_number, arrival_bytes}
use Rattle.arrivals.specs.Claim.{AllLent}
use Rattle.arrivals.proofs.Answers.{then_refused, then_zero, zero_frame, zero_accepts, both, ticks_fit}

abbrev number : Answer → ℕ
number a = a.number

module _ (s : List ℕ) (f : ℕ) where
  -- the answer goes through C in one number
  then_small : (a refused : Answer) (ok : Bool) → Small a → Small refused → Small (then_ask a ok refused)
  unfolding then_ask
  then_small a refused ok h k = go (eqb a.number 0) ok
    where
      go : (b c : Bool) → Small (cond b (cond c accepted refused) a)
      go true true = (omega arith, omega arith)
      go true false = k
      go false c = h

  pub lent_small : (b : List ℕ) → Small (lent_answer s f b)
  unfolding lent_answer arrival_answer shape
  lent_small b = then_small _ _ _ (then_small _ _ _ (answer_small s) (omega arith, omega arith)) (omega arith, omega arith)

  module _ (b : List ℕ) where
    kept : (lent_answer s f b).number ≢ 0 → arrival_bytes s f b ≡ b
    unfolding arrival_bytes
    kept h = rw (ne_eqb (lent_answer s f b).number 0 h) refl

    pub by_value : (arrival_answer s f).number ≢ 0 → (lent_answer s f b ≡ arrival_answer s f) × (arrival_bytes s f b ≡ b)
    unfolding lent_answer
    by_value h =
        let e : lent_answer s f b ≡ arrival_answer s f = then_refused (arrival_answer s f) _ _ h in
        (e, kept (λ z. h (sym (ap number e) ∙ z)))

    module _ (e : arrival_answer s f ≡ accepted) where
      -- 26: there are not two words
      pub too_short : length b / 4 < 2 → (lent_answer s f b ≡ record { number = 26; table = 0; row = 0 }) × (arrival_bytes s f b ≡ b)
      unfolding lent_answer then_ask
      too_short h =
          let q : lent_answer s f b ≡ record { number = 26; table = 0; row = 0 } = rw (e, lt-leb 2 (length (words_of b)) (omega (arith, words_length b))) refl in
          (q, kept (λ z. absurd (omega (arith, ap number q, z))))

      pub stored_both : 2 ≤ length b / 4
          → (lent_answer s f b ≡ accepted) × (arrival_bytes s f b ≡ sets (sets b 0 (bytes_of 4 (earliest s f))) 4 (bytes_of 4 (latest s f)))
      unfolding lent_answer then_ask arrival_bytes
      stored_both h =
          let q : lent_answer s f b ≡ accepted = rw (e, le-leb 2 (length (words_of b)) (omega (arith, words_length b))) refl in
          (q, rw q (sym (two_stored b 0 (earliest s f) (latest s f) ∙ stored_front b (earliest s f ∷ latest s f ∷ []) (omega arith))))

-- ---- what a C caller has

abbrev Ticks : (s : List ℕ) (f : ℕ) → List ℕ
Ticks s f = earliest s f ∷ latest s f ∷ []

module _ (s : List ℕ) (f : ℕ) (b : List ℕ) where
  -- 0 is an acceptance, and there are two words
  lent_zero : (lent_answer s f b).number ≡ 0 → (arrival_answer s f ≡ accepted) × (2 ≤ length (words_of b))
  unfolding lent_answer
  lent_zero z = let p = then_zero (arrival_answer s f) _ _ (λ q. absurd (omega arith)) z in (zero_accepts s f p.0, leb-true 2 (length (words_of b)) p.1)

  lent_accepts : (lent_answer s f b).number ≡ 0 → lent_answer s f b ≡ accepted
  lent_accepts z = let p = lent_zero z in (stored_both s f b p.0 (omega (arith, words_length b, p.1))).0

  holds_both : lent_answer s f b ≡ accepted → arrival_bytes s f b ≡ flat_map (bytes_of 4) (Ticks s f) ++ drop 8 b
  unfolding arrival_bytes
  holds_both e = rw e refl

  words_left : lent_answer s f b ≡ accepted → words_of (arrival_bytes s f b) ≡ (arrivals_of s f).earliest ∷ (arrivals_of s f).latest ∷ drop 2 (words_of b)
  words_left e =
      let g = lent_zero (ap number e) in
      let p = zero_frame s f (ap number g.0) in
      let t = ticks_fit s f p.0 p.1 in
      let q = both s f (ap number g.0) in
      rw (holds_both e, q.0, q.1)
      (words_row (Ticks s f) (drop 8 b) (omega (arith, t.1), (omega (arith, t.2), tt))
      ∙ ap (λ (x : List ℕ). Ticks s f ++ x) (words_drop 2 b (omega (arith, g.1, words_length b))))

  eight : length (flat_map (bytes_of 4) (Ticks s f)) ≡ 8
  eight = row_length (Ticks s f)

  many_left : length (arrival_bytes s f b) ≡ length b
  many_left = go (lent_answer s f b).number refl
    where
      go : (n : ℕ) → (lent_answer s f b).number ≡ n → length (arrival_bytes s f b) ≡ length b
      go zero q =
          let e = lent_accepts q in
          ap length (holds_both e) ∙ length-append (flat_map (bytes_of 4) (Ticks s f)) (drop 8 b)
          ∙ omega (arith, eight, length-drop 8 b, (lent_zero q).1, words_length b)
      go (suc n) q = ap length (kept s f b (λ z. absurd (omega arith)))

  later_kept : (i : ℕ) → 8 ≤ i → get_or (arrival_bytes s f b) i 0 ≡ get_or b i 0
  later_kept i h = go (lent_answer s f b).number refl
    where
      go : (n : ℕ) → (lent_answer s f b).number ≡ n → get_or (arrival_bytes s f b) i 0 ≡ get_or b i 0
      go zero q =
          let x : i ≡ length (flat_map (bytes_of 4) (Ticks s f)) + (i - 8) = omega (arith, eight) in
          let y : 8 + (i - 8) ≡ i = omega arith in
          ap (λ (l : List ℕ). get_or l i 0) (holds_both (lent_accepts q))
          ∙ ap (λ (j : ℕ). get_or (flat_map (bytes_of 4) (Ticks s f) ++ drop 8 b) j 0) x
          ∙ get_or-append-add (flat_map (bytes_of 4) (Ticks s f)) (drop 8 b) (i - 8) 0
          ∙ get_or-drop 8 b (i - 8) 0 ∙ ap (λ (j : ℕ). get_or b j 0) y
      go (suc n) q = ap (λ (l : List ℕ). get_or l i 0) (kept s f b (λ z. absurd (omega arith)))

-- ---- by the number that a C caller gets

module _ (s : List ℕ) (f : ℕ) (b : List ℕ) where
  zero_number : lent_answer s f b ≡ accepted → arrival_number s f b ≡ 0
  unfolding arrival_number answer_number
  zero_number e = rw e refl

  number_zero : arrival_number s f b ≡ 0 → lent_answer s f b ≡ accepted
  unfolding arrival_number
  number_zero e = lent_accepts s f b ((answer_zero (lent_answer s f b) (lent_small s f b)).0 e)

  same_number : arrival_answer s f ≢ accepted → arrival_number s f b ≡ answer_number (arrival_answer s f)
  unfolding arrival_number
  same_number h = ap answer_number (by_value s f b (λ z. h (zero_accepts s f z))).0

  number_26 : arrival_answer s f ≡ accepted → length (words_of b) < 2 → arrival_number s f b ≡ 26
  unfolding arrival_number answer_number
  number_26 e h = ap answer_number (too_short s f b e (omega (arith, words_length b))).0

pub all_lent : AllLent
all_lent s f b =
    record {
      given = (
        λ e. lent_zero s f b (ap number (number_zero s f b e)),
        λ p. zero_number s f b (stored_both s f b p.0 (omega (arith, words_length b, p.1))).0,
      );
      as_by_value = same_number s f b;
      too_few = number_26 s f b;
      words = λ e. words_left s f b (number_zero s f b e);
      many = many_left s f b;
      later = later_kept s f b;
      refused = λ h. kept s f b (λ z. h (zero_number s f b (lent_accepts s f b z)));
    }
