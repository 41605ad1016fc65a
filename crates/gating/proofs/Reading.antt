-- A gate list read back: the words and the bytes say the link's gates (specs/Claim.antt).
use Prim.Native.Nat.{ℕ, zero, suc, ◌+◌, ◌-◌, ◌*◌, ◌≤◌, ◌<◌}
use mathlib.Core.Path.{◌≡◌, refl, ap, ◌∙◌}
use mathlib.Core.Logic.{◌≢◌}
use mathlib.Core.Bool.{Bool, true, false, cond}
use mathlib.Core.List.{List, ◌∷◌, ◌++◌, []}
use native.Mathlib.Omega.{arith}
use native.Mathlib.Decide.{dec_lt}
use lib.ListN.{length, drop}
use lib.Dec.{eqb}
use borrow.Author.Tests.{eq-eqb, ne_eqb}
use Rattle.plan.specs.declared.Answer.{Answer}
use Rattle.plan.specs.declared.Table.TheVariants.{Cores, Links, Frames}
use Rattle.plan.specs.Image.{cycle_ticks, rows, shape}
use Rattle.plan.specs.Questions.{answer_of, accepted}
use Rattle.plan.specs.Boundary.{words_of}
use Rattle.plan.proofs.Numbers.{accepted_of}
use Rattle.plan.proofs.Sounds.{accepted_sound}
use Rattle.lanes.proofs.Reading.{built_tells}
use Rattle.words.proofs.Words.{Fit, words_length, words_row, words_drop}
use Rattle.gates.specs.Gates.{Gate, gate, pairs, octet_at, gates_from, gates, gate_words, gate_answer, gated, gate_bytes}
use Rattle.gates.specs.Claim.{open_at}
use Rattle.gates.proofs.Matching.{gates_match, gates_next, words_length as gate-words-length}
use Rattle.gates.proofs.Walking.{gates_few}
use Rattle.gating.specs.Claim.{pairs_in, gates_in, ListTells, GatedBytes}
use Rattle.gating.proofs.Answers.{list_refused, list_no_link, list_short}

-- ---- pairs read back

pairs_read : (gs : List Gate) (rest : List ℕ) → pairs_in (length gs) (pairs gs ++ rest) ≡ gs
unfolding pairs_in pairs gate
pairs_read [] rest = refl
pairs_read (g ∷ gs) rest = ap (λ (hs : List Gate). g ∷ hs) (pairs_read gs rest)

words_read : (s : List ℕ) (l : ℕ) (rest : List ℕ) → gates_in (gate_words s l ++ rest) ≡ gates s l
unfolding gates_in gate_words
words_read s l rest = pairs_read (gates s l) rest

-- ---- what a list that is written needs

module _ (s : List ℕ) (l : ℕ) (words : List ℕ) (e : (gate_answer s l words).number ≡ 0) where
  number_of_holds : {a b : Answer} → a ≡ b → a.number ≡ b.number
  number_of_holds p = ap (λ (a : Answer). a.number) p

  listed_accepted : answer_of s ≡ accepted
  listed_accepted = go (answer_of s).number refl
    where
      go : (n : ℕ) → (answer_of s).number ≡ n → answer_of s ≡ accepted
      go zero q = accepted_of s q
      go (suc n) q =
          let h : (answer_of s).number ≢ 0 = λ z. absurd (omega arith) in
          absurd (h (number_of_holds ((list_refused s l (length words) h).answer words refl) ∙ e))

  listed_fits : length (gate_words s l) ≤ length words
  listed_fits = go (dec_lt l (rows s Links)) (dec_lt (length words) (1 + 2 * length (gates s l)))
    where
      a : answer_of s ≡ accepted
      a = listed_accepted

      go : Dec (l < rows s Links) → Dec (length words < 1 + 2 * length (gates s l)) → length (gate_words s l) ≤ length words
      go (yes m) (yes h) = absurd (omega (arith, number_of_holds ((list_short s l (length words) a m h).answer words refl) ∙ e))
      go (yes m) (no h) = omega (arith, gate-words-length s l)
      go (no m) d = absurd (omega (arith, number_of_holds ((list_no_link s l (length words) a (omega arith)).answer words refl) ∙ e))

  listed_is : gated s l words ≡ gate_words s l ++ drop (length (gate_words s l)) words
  unfolding gated
  listed_is = rw (eq-eqb (gate_answer s l words).number 0 e) refl

  listed_read : gates_in (gated s l words) ≡ gates s l
  listed_read = ap gates_in listed_is ∙ words_read s l (drop (length (gate_words s l)) words)

pub list_tells : ListTells
list_tells s l words lent e d =
    let a = listed_accepted s l words e in
    let g = gates_match s a l in
    let r = listed_read s l words e in
    let opens : (t : ℕ) → t < cycle_ticks s → open_at (gates_in (gated s l words)) t ≡ octet_at s l t = λ t h. ap (λ (gs : List Gate). open_at gs t) r ∙ g.0.matches t h in
    let table = built_tells s (rows s Cores + l) lent d in
    record {
      proper = rw r g.0.proper;
      cycle = rw r g.0.cycle;
      octet = λ t h. rw (opens t h) (g.1 t).fits;
      bit = λ t q h. rw (opens t h, table.looked_up t h) ((g.1 t).bit q);
    }

-- ---- in bytes

module _ (s : List ℕ) (e : answer_of s ≡ accepted) (l : ℕ) where
  pairs_fit : (o k t n : ℕ) → o < 256 → k + n ≤ 1000000 → Fit (pairs (gates_from s l o k t n))
  unfolding gates_from pairs gate
  pairs_fit o k t zero p q = (omega arith, (omega arith, tt))
  pairs_fit o k t (suc n) p q =
      rw (gates_next s l o k t n) (go (eqb (octet_at s l t) o) (pairs_fit o (k + 1) (t + 1) n p (omega arith)) (pairs_fit (octet_at s l t) 1 (t + 1) n ((gates_match s e l).1 t).fits (omega arith)))
    where
      go : (b : Bool) → Fit (pairs (gates_from s l o (k + 1) (t + 1) n)) → Fit (pairs (gates_from s l (octet_at s l t) 1 (t + 1) n))
          → Fit (pairs (cond b (gates_from s l o (k + 1) (t + 1) n) (gate o k ∷ gates_from s l (octet_at s l t) 1 (t + 1) n)))
      go true x y = x
      go false x y = (omega arith, (omega arith, y))

  list_fits : Fit (gate_words s l)
  unfolding gate_words gates shape
  list_fits =
      let h = accepted_sound s e in let c = h.cycle in let m = h.cycle_most in
      (omega (arith, gates_few s e l, h.inside.counts Frames), pairs_fit (octet_at s l 0) 1 1 (cycle_ticks s - 1) ((gates_match s e l).1 0).fits (omega arith))

pub gated_bytes : GatedBytes
unfolding gate_bytes gated
gated_bytes s l b = go (gate_answer s l (words_of b)).number refl
  where
    go : (n : ℕ) → (gate_answer s l (words_of b)).number ≡ n → words_of (gate_bytes s l b) ≡ gated s l (words_of b)
    go zero e =
        let t = gate_words s l in
        rw (eq-eqb (gate_answer s l (words_of b)).number 0 e)
        (words_row t (drop (4 * length t) b) (list_fits s (listed_accepted s l (words_of b) e) l)
        ∙ ap (λ (x : List ℕ). t ++ x) (words_drop (length t) b (omega (arith, listed_fits s l (words_of b) e, words_length b))))
    go (suc n) e = rw (ne_eqb (gate_answer s l (words_of b)).number 0 (λ z. absurd (omega arith))) refl
