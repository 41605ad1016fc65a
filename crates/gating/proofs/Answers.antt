-- Gate lists by their answers: refused by the check, 25, 42, or written; and what is left in lent words and bytes.
use Rattle.std.proofs.Common.{Err}
use Prim.Native.Nat.{ℕ, ◌+◌, ◌*◌, ◌/◌, ◌≤◌, ◌<◌}
use mathlib.Core.Path.{◌≡◌, refl, sym, ap, ◌∙◌}
use mathlib.Core.Logic.{◌≢◌}
use mathlib.Core.List.{List, ◌∷◌, ◌++◌, []}
use native.Mathlib.Omega.{arith}
use lib.ListN.{length, take, drop}
use lib.Seq.{sets, sets-eq, take_at}
use lib.Dec.{ltb, leb}
use borrow.Author.Tests.{lt-ltb, le-ltb, le-leb, lt-leb, ne_eqb}
use Rattle.plan.specs.declared.Answer.{Answer}
use Rattle.plan.specs.declared.Table.TheVariants.{Links}
use Rattle.plan.specs.Image.{rows}
use Rattle.plan.specs.Boundary.{words_of}
use Rattle.plan.specs.Questions.{whole, questions, answer_to, answer_of, accepted}
use Rattle.plan.proofs.Numbers.{real}
use Rattle.plan.proofs.Asking.{then_asked, stopped_first}
use Rattle.asking.specs.Asking.{verdict}
use Rattle.questions.proofs.Verdict.{ask_refuses, ask_numbers}
use Rattle.lanes.proofs.Building.{asked, whole_yes, whole_no}
use Rattle.words.proofs.Words.{words_length}
use Rattle.writing.specs.Stored.{stored}
use Rattle.writing.proofs.Storing.{stored_front}
use Rattle.gates.specs.Gates.{gates, gate_words, gate_answer, gated, gate_bytes}
use Rattle.gates.proofs.Matching.{words_length as gate-words-length}
use Rattle.gates.proofs.Walking.{gates_room}
use Rattle.opening.specs.Listings.{list_words}
use Rattle.gating.specs.Listed.{Found, Refused}

module _ (s : List ℕ) (l lent : ℕ) where
  pub list_refused : (answer_of s).number ≢ 0 → Refused s l lent (answer_of s)
  unfolding gate_answer answer_of
  list_refused h = record { answer = λ words k. sym (stopped_first (questions s) _ h); some = h }

  pub list_told : (x : Answer) → Err x ≡ verdict (questions s) → Refused s l lent x
  list_told x e = rw (ask_refuses s x e) at (list_refused (ask_numbers s x e))

  module _ (e : answer_of s ≡ accepted) where
    asks_on : (words : List ℕ) → gate_answer s l words ≡ answer_to (whole 25 (ltb l (rows s Links)) ∷ whole 42 (leb (1 + 2 * length (gates s l)) (length words)) ∷ [])
    unfolding gate_answer answer_of
    asks_on words = then_asked (questions s) _ (real s) (ap (λ (a : Answer). a.number) e)

    -- 25: there is no such link
    pub list_no_link : rows s Links ≤ l → Refused s l lent (record { number = 25; table = 0; row = 0 })
    unfolding asked
    list_no_link m = record { answer = λ words k. sym (asks_on words ∙ whole_no 25 (ltb l (rows s Links)) _ (le-ltb _ _ m)); some = λ q. absurd (omega arith) }

    module _ (m : l < rows s Links) where
      asks_42 : (words : List ℕ) → gate_answer s l words ≡ answer_to (whole 42 (leb (1 + 2 * length (gates s l)) (length words)) ∷ [])
      asks_42 words = asks_on words ∙ whole_yes 25 (ltb l (rows s Links)) _ (lt-ltb _ _ m)

      -- 42: the words do not suffice
      pub list_short : lent < 1 + 2 * length (gates s l) → Refused s l lent (record { number = 42; table = 0; row = 0 })
      unfolding asked
      list_short h =
          record {
            answer = λ words k. sym (asks_42 words ∙ whole_no 42 (leb (1 + 2 * length (gates s l)) (length words)) [] (lt-leb (1 + 2 * length (gates s l)) (length words) (omega arith)));
            some = λ q. absurd (omega arith);
          }

      pub list_done : (before after : List ℕ) (n : ℕ) → n ≡ length (gates s l) → 1 + 2 * length (gates s l) ≤ lent → after ≡ sets before 0 (gate_words s l) → Found s l lent before n after
      unfolding answer_to
      list_done before after n c h e' =
          record {
            answer = λ words k. sym (asks_42 words ∙ whole_yes 42 (leb (1 + 2 * length (gates s l)) (length words)) [] (le-leb (1 + 2 * length (gates s l)) (length words) (omega arith)));
            count = c;
            list = e';
            fits = omega (arith, gate-words-length s l);
            most = gates_room s e l;
          }

-- ---- what is left

module _ (s : List ℕ) (l lent : ℕ) (x : Answer) (h : Refused s l lent x) where
  pub words_kept : (words : List ℕ) → length words ≡ lent → words ≡ gated s l words
  unfolding gated
  words_kept words k = rw (← h.answer words k, ne_eqb x.number 0 h.some) refl

  pub bytes_kept : (b : List ℕ) → length b / 4 ≡ lent → (x ≡ gate_answer s l (words_of b)) × (b ≡ gate_bytes s l b)
  unfolding gate_bytes
  bytes_kept b k = let e = h.answer (words_of b) (words_length b ∙ k) in (e, rw (← e, ne_eqb x.number 0 h.some) refl)

module _ (s : List ℕ) (l lent : ℕ) (before : List ℕ) (n : ℕ) (after : List ℕ) (h : Found s l lent before n after) where
  pub words_done : (words : List ℕ) → length words ≡ lent → sets words 0 (gate_words s l) ≡ gated s l words
  unfolding gated
  words_done words k =
      let n : 0 + length (gate_words s l) ≡ length (gate_words s l) = omega arith in
      sets-eq (gate_words s l) words 0 (omega (arith, h.fits)) ∙ ap (λ (i : ℕ). gate_words s l ++ drop i words) n ∙ (rw (← h.answer words k) refl)

  module _ (b : List ℕ) (k : length b / 4 ≡ lent) where
    pub bytes_answer : accepted ≡ gate_answer s l (words_of b)
    bytes_answer = h.answer (words_of b) (words_length b ∙ k)

    pub bytes_room : 4 * length (gate_words s l) ≤ length b
    bytes_room = omega (arith, h.fits)

    pub bytes_done : stored b 0 (gate_words s l) ≡ gate_bytes s l b
    unfolding gate_bytes
    bytes_done = stored_front b (gate_words s l) bytes_room ∙ (rw (← bytes_answer) refl)

  -- so many of the list's own words are the list
  pub many_is : 1 + 2 * n ≡ length (gate_words s l)
  many_is = omega (arith, h.count, gate-words-length s l)

  pub take_is : length before ≡ list_words → take (1 + 2 * n) after ≡ gate_words s l
  take_is long =
      let z : 0 + length (gate_words s l) ≡ length (gate_words s l) = omega arith in
      let q : after ≡ gate_words s l ++ drop (length (gate_words s l)) before =
      h.list ∙ sets-eq (gate_words s l) before 0 (omega (arith, h.most)) ∙ ap (λ (i : ℕ). gate_words s l ++ drop i before) z in
      ap (take (1 + 2 * n)) q ∙ take_at (gate_words s l) (drop (length (gate_words s l)) before) (1 + 2 * n) (sym many_is)
