-- Table building by its answers: refused by the check, 25, 26, or done.
use Prim.Native.Nat.{ℕ, zero, suc, ◌+◌, ◌*◌, ◌≤◌, ◌<◌}
use mathlib.Core.Path.{◌≡◌, refl, sym, ap, ◌∙◌}
use mathlib.Core.Logic.{◌≢◌}
use mathlib.Core.Bool.{Bool, true, false}
use mathlib.Core.List.{List, ◌∷◌, ◌++◌, []}
use native.Mathlib.Omega.{arith}
use lib.ListN.{length, drop, set}
use lib.Dec.{ltb, leb}
use borrow.Author.Tests.{lt-ltb, le-ltb, le-leb, lt-leb, ne_eqb}
use Rattle.plan.specs.declared.Answer.{Answer}
use Rattle.plan.specs.Image.{cycle_ticks}
use Rattle.plan.specs.Search.{first_no}
use Rattle.plan.specs.Questions.{Question, whole, questions, answer_to, answer_of, accepted}
use Rattle.plan.specs.Dispatch.{lanes, entries, entry_count, table_of, build_answer, built}
use Rattle.plan.proofs.Numbers.{real, accepted_of}
use Rattle.plan.proofs.Asking.{then_asked, stopped_first}
use Rattle.plan.proofs.Tables.{entries_length}
use Rattle.lanes.specs.Words.{put_at, Filled}
use Rattle.lanes.proofs.Writing.{put_head}

-- ---- a question about the call itself

unfoldable pub asked : ℕ → Answer
asked q = record { number = q; table = 0; row = 0 }

pub whole_yes : (q : ℕ) (b : Bool) (qs : List Question) → b ≡ true → answer_to (whole q b ∷ qs) ≡ answer_to qs
unfolding answer_to whole first_no
whole_yes q true qs e = refl
whole_yes q false qs e = absurd (mathlib.Core.Bool.true≢false (sym e))

pub whole_no : (q : ℕ) (b : Bool) (qs : List Question) → b ≡ false → answer_to (whole q b ∷ qs) ≡ asked q
unfolding answer_to whole first_no asked
whole_no q true qs e = absurd (mathlib.Core.Bool.true≢false e)
whole_no q false qs e = refl

-- ---- table building

module _ (s : List ℕ) (lane : ℕ) (words : List ℕ) where
  kept : (a : Answer) → build_answer s lane words ≡ a → a.number ≢ 0 → Filled s lane words a words
  unfolding built
  kept a e h = record { answer = sym e; left = rw (e, ne_eqb a.number 0 h) refl }

  -- the check refuses
  pub build_refused : (answer_of s).number ≢ 0 → Filled s lane words (answer_of s) words
  unfolding build_answer answer_of
  build_refused h = kept (answer_of s) (stopped_first (questions s) _ h) h

  module _ (e : answer_of s ≡ accepted) where
    asks_on : build_answer s lane words ≡ answer_to (whole 25 (ltb lane (lanes s)) ∷ whole 26 (leb (2 + 3 * entry_count s lane) (length words)) ∷ [])
    unfolding build_answer answer_of
    asks_on = then_asked (questions s) _ (real s) (ap (λ (a : Answer). a.number) e)

    -- 25: there is no such lane
    pub build_no_lane : lanes s ≤ lane → Filled s lane words (record { number = 25; table = 0; row = 0 }) words
    unfolding asked
    build_no_lane l = kept (asked 25) (asks_on ∙ whole_no 25 (ltb lane (lanes s)) _ (le-ltb _ _ l)) (λ q. absurd (omega arith))

    module _ (l : lane < lanes s) where
      asks_26 : build_answer s lane words ≡ answer_to (whole 26 (leb (2 + 3 * entry_count s lane) (length words)) ∷ [])
      asks_26 = asks_on ∙ whole_yes 25 (ltb lane (lanes s)) _ (lt-ltb _ _ l)

      -- 26: the words do not suffice
      pub build_short : length words < 2 + 3 * entry_count s lane → Filled s lane words (record { number = 26; table = 0; row = 0 }) words
      unfolding asked
      build_short h =
          kept (asked 26) (asks_26 ∙ whole_no 26 (leb (2 + 3 * entry_count s lane) (length words)) [] (lt-leb _ _ h)) (λ q. absurd (omega arith))

      -- the table, and later words as they were
      pub build_done : 2 + 3 * entry_count s lane ≤ length words → Filled s lane words accepted (table_of s lane ++ drop (length (table_of s lane)) words)
      unfolding built answer_to
      build_done h =
          let q : build_answer s lane words ≡ accepted = asks_26 ∙ whole_yes 26 (leb (2 + 3 * entry_count s lane) (length words)) [] (le-leb _ _ h) in
          record { answer = sym q; left = rw q refl }

  -- only an accepted plan is built
  pub built_accepted : (build_answer s lane words).number ≡ 0 → answer_of s ≡ accepted
  built_accepted e = go (answer_of s).number refl
    where
      go : (n : ℕ) → (answer_of s).number ≡ n → answer_of s ≡ accepted
      go zero q = accepted_of s q
      go (suc n) q =
          let h : (answer_of s).number ≢ 0 = λ z. absurd (omega arith) in
          absurd (h (ap (λ (a : Answer). a.number) (build_refused h).answer ∙ e))

  -- H, n and the entries make the table
  table_put : 2 + 3 * entry_count s lane ≤ length words
      → put_at (set (set words 0 (cycle_ticks s)) 1 (entry_count s lane)) 2 (entries s lane (cycle_ticks s)) ≡ table_of s lane ++ drop (length (table_of s lane)) words
  unfolding table_of entry_count
  table_put h =
      put_head words (entries s lane (cycle_ticks s)) (cycle_ticks s) (entry_count s lane) (omega (arith, entries_length s lane (cycle_ticks s)))

  -- so a call that stores them is done
  pub filled : answer_of s ≡ accepted → lane < lanes s → (h n : ℕ) (after : List ℕ) (r : Answer) → h ≡ cycle_ticks s → n ≡ entry_count s lane
      → 2 + 3 * n ≤ length words → after ≡ put_at (set (set words 0 h) 1 n) 2 (entries s lane (cycle_ticks s)) → r ≡ accepted → Filled s lane words r after
  filled e l h n after r p q k a b =
      let m : 2 + 3 * entry_count s lane ≤ length words = omega arith in
      let t : after ≡ table_of s lane ++ drop (length (table_of s lane)) words = a ∙ rw (p, q) (table_put m) in
      rw (b, t) (build_done e l m)
